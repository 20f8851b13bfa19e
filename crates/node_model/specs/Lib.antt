pub use Rattle.shell_session.specs.schedule_model as schedule_model
pub use Rattle.shell_session.specs.journal_sides as journal_sides
pub use Rattle.shell_session.specs.journal_store as journal_store
pub use Rattle.shell_session.specs.clone_parts as clone_parts
pub use Rattle.shell_session.specs.clone_core as clone_core
pub use Rattle.shell_session.specs as shell_session
pub mod NodeLaws
pub mod Keepers
pub mod Requests
pub mod NodeMessages
pub mod FrameSteps
pub mod Events
pub mod RequestLines
pub mod Connections
pub mod Exchanges
pub mod RefusalCodes
pub mod Sending
