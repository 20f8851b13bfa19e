pub use Rattle.chunked_list.specs as chunked_list
pub mod KeyFronts
pub mod Keys
pub mod Orders
pub mod PairEntries
pub mod SlotLimit
pub mod KeptPairs
pub mod TripleEntries
