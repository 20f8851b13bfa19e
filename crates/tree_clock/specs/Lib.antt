pub mod Limits
pub mod Lists
pub mod Path
pub mod Letters
pub mod Trees
pub mod Dot
pub mod DotLaws
pub mod Clock
