pub use Rattle.clone_parts.proofs as of_clone_parts
pub use Rattle.journal_store.proofs as of_journal_store
pub use Rattle.journal_sides.proofs as of_journal_sides
pub mod OwnEntries
pub mod Taking
pub mod Joining
pub mod AppendLaws
pub mod StopLaws
pub mod DurableLaws
pub mod Begun
pub mod OwnUpdates
pub mod Mounting
pub mod FusedRuns
pub mod Sending
pub mod Swapping
pub mod Cutting
pub mod Answering
pub mod Merged
mod AnswerKinds
