pub use Rattle.hinted_chunks.proofs as of_hinted_chunks
pub mod JoinedLaws
pub mod Parting
pub mod Placing
pub mod Storing
pub mod Loads
pub mod Splitting
pub mod Standing
pub mod Between
pub mod Counting
pub mod Starting
pub mod NumberHints
