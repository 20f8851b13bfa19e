pub use Rattle.schedule_model.proofs as of_schedule_model
pub mod LinesText
pub mod LinesNumbers
pub mod LinesSetups
pub mod LinesCommands
mod LinesQueries
mod LinesUpdates
mod LinesCrashes
