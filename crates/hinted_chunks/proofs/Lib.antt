pub use Rattle.tree_clock.proofs as of_tree_clock
pub use Rattle.mld_ops.proofs as of_mld_ops
pub mod Halving
pub mod Hinting
pub mod Sharing
pub mod Topping
pub mod Closing
pub mod HintedSort
pub mod Fronts
