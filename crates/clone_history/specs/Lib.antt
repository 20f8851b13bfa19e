pub mod KeptMembers
pub mod PastParts
pub mod PastStates
pub mod UndoParts
pub mod Undoing
