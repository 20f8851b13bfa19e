pub mod Slashes
pub mod Kept
pub mod Comparing
pub mod Blocks
pub mod TagLemmas
pub mod Colons
pub mod Numbers
pub mod Appending
