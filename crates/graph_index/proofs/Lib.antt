pub use Rattle.pair_orders.proofs.of_chunked_list.of_hinted_chunks as of_hinted_chunks
pub mod ByNumbers
pub mod Changing
pub mod Entries
pub mod Finding
pub mod Fitting
pub mod Listing
pub mod Moving
pub mod Numbers
pub mod Once
pub mod Putting
pub mod Ranging
pub mod Sorting
pub mod Together
pub mod WantedPlaces
pub mod RowDots
