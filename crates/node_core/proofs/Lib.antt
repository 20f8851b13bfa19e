pub use Rattle.node_model.proofs.of_schedule_model as of_schedule_model
pub use Rattle.node_model.proofs.of_journal_sides as of_journal_sides
pub use Rattle.node_model.proofs.of_journal_store as of_journal_store
pub use Rattle.node_model.proofs.of_clone_parts as of_clone_parts
pub use Rattle.node_model.proofs.of_clone_core as of_clone_core
pub use Rattle.node_model.proofs.of_shell_session as of_shell_session
pub use Rattle.node_model.proofs as of_node_model
pub mod Moments
pub mod CommandLaws
pub mod CallLaws
mod EventMoments
mod FrameLaws
mod HoldLaws
mod UnderWay
mod QuietLaws
mod KindLaws
mod PieceLaws
mod CompleteEvents
