pub use Rattle.chunked_list.specs as chunked_list
pub mod HashBuckets
pub mod HashedLaws
pub mod HashedTerms
pub mod NumberedPaths
pub mod TableNumbers
pub mod TermFinding
