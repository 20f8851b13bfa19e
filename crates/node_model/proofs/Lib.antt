pub use Rattle.shell_session.proofs.of_schedule_model as of_schedule_model
pub use Rattle.shell_session.proofs.of_journal_sides as of_journal_sides
pub use Rattle.shell_session.proofs.of_journal_store as of_journal_store
pub use Rattle.shell_session.proofs.of_clone_parts as of_clone_parts
pub use Rattle.shell_session.proofs.of_clone_core as of_clone_core
pub use Rattle.shell_session.proofs as of_shell_session
pub mod StepLaws
mod RequestLaws
mod PlaceLaws
mod TellingLaws
