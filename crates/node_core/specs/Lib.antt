pub use Rattle.node_model.specs.schedule_model as schedule_model
pub use Rattle.node_model.specs.journal_sides as journal_sides
pub use Rattle.node_model.specs.journal_store as journal_store
pub use Rattle.node_model.specs.clone_parts as clone_parts
pub use Rattle.node_model.specs.clone_core as clone_core
pub use Rattle.node_model.specs.shell_session as shell_session
pub use Rattle.node_model.specs as node_model
pub mod NodeStates
pub mod NodeDeeds
pub mod NodeFaults
pub mod LoanCalls
pub mod Nodes
pub mod NodeEvents
pub mod EventCompleteness
pub mod Steps
