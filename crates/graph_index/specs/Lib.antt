pub use Rattle.pair_orders.specs.chunked_list.hinted_chunks as hinted_chunks
pub mod GraphParts
pub mod Graphs
pub mod Matching
pub mod Numbered
pub mod SubjectLaws
pub mod TermNumbers
