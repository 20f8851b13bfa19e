pub mod Watches
pub mod Reports
pub mod Touched
pub mod Bound
pub mod Changing
pub mod Stepping
pub mod WatchFaults
