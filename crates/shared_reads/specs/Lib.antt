pub mod Copies
pub mod Fronts
pub mod HistoryRule
pub mod PairChanges
pub mod PublishingLines
pub mod Seats
