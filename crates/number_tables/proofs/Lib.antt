pub use Rattle.chunked_list.proofs as of_chunked_list
pub mod BucketLooks
pub mod TermTexts
pub mod Lookups
pub mod Numbers
pub mod PathLookups
pub mod Places
pub mod Seeking
pub mod Standings
