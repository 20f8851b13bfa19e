pub mod JoinedStates
pub mod JoinedWith
mod Steps
mod Walking
mod Joining
mod Filling
mod Ranging
