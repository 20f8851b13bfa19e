pub use Rattle.schedule_text.specs.schedule_model as schedule_model
pub use Rattle.crash_laws.specs.journal_sides as journal_sides
pub use Rattle.crash_laws.specs.journal_store as journal_store
pub use Rattle.crash_laws.specs.clone_parts as clone_parts
pub use Rattle.crash_laws.specs.clone_core as clone_core
pub mod ShellLines
pub mod ReadShell
pub mod ShellLaws
pub mod ShellRunLaws
pub mod ShellRuns
pub mod ShellReply
pub mod Shells
pub mod ShellStep
pub mod SessionLines
pub mod LineCompleteness
pub mod LiveCalls
pub mod SessionReplies
pub mod RunEnds
pub mod ShutCalls
pub mod Sessions
