pub use Rattle.schedule_text.proofs.of_schedule_model as of_schedule_model
pub use Rattle.crash_laws.proofs.of_journal_sides as of_journal_sides
pub use Rattle.crash_laws.proofs.of_journal_store as of_journal_store
pub use Rattle.crash_laws.proofs.of_clone_parts as of_clone_parts
pub use Rattle.crash_laws.proofs.of_clone_core as of_clone_core
mod ShellWords
mod ShellIris
mod ShellCommands
mod OneShell
pub mod RunLaws
pub mod Moments
pub mod FrontLaws
pub mod MeterLaws
pub mod LiveLaws
mod ShutLaws
mod LineLaws
pub mod CompleteLines
mod Answered
