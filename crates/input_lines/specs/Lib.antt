pub mod TooLarge
pub mod Taken
pub mod HowFar
pub mod InputFaults
pub mod Untouched
