pub use Rattle.schedule_model.specs as schedule_model
pub use Rattle.clone_core.specs.journal_sides as journal_sides
pub use Rattle.clone_core.specs.journal_store as journal_store
pub use Rattle.clone_core.specs.clone_parts as clone_parts
pub use Rattle.clone_core.specs as clone_core
pub mod CarriedSteps
pub mod Deeds
pub mod CrashLines
pub mod CrashLaws
