pub use Rattle.hinted_chunks.specs.ClosedTexts as ClosedTexts
pub use Rattle.hinted_chunks.specs.Leading as Leading
pub use Rattle.hinted_chunks.specs as hinted_chunks
pub mod Joined
pub mod NumberLaws
pub mod NumberTexts
pub mod Parted
pub mod Room
pub mod Stores
