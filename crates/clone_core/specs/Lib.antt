pub use Rattle.clone_parts.specs as clone_parts
pub use Rattle.journal_store.specs as journal_store
pub use Rattle.journal_sides.specs as journal_sides
pub mod Banked
pub mod FoundClone
pub mod CloneCalls
pub mod CloneUpdates
pub mod CloneClosing
pub mod Due
pub mod DurableCalls
pub mod Joining
pub mod Keeping
pub mod Merging
pub mod Opening
pub mod CallParts
pub mod View
pub mod Wants
