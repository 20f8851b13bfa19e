pub use Rattle.tree_clock.specs as tree_clock
pub use Rattle.mld_ops.specs as mld_ops
pub mod ChunkLimits
pub mod ClosedTexts
pub mod FrontLaws
pub mod Hinted
pub mod HintedOrder
pub mod Leading
pub mod TermFronts
pub mod TopLaws
