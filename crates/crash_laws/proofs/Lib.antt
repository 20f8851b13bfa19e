pub use Rattle.schedule_model.proofs as of_schedule_model
pub use Rattle.clone_core.proofs.of_journal_sides as of_journal_sides
pub use Rattle.clone_core.proofs.of_journal_store as of_journal_store
pub use Rattle.clone_core.proofs.of_clone_parts as of_clone_parts
pub use Rattle.clone_core.proofs as of_clone_core
pub mod Fronts
pub mod Generations
pub mod Kept
pub mod OtherDeeds
pub mod OwnDeeds
pub mod ReceivedDeeds
pub mod KeepingDeeds
pub mod ToldDeeds
pub mod DoneDeeds
pub mod CrashedLines
pub mod FollowedLines
pub mod ToldCrashes
pub mod Images
mod SmallCases
