pub mod Among
pub mod Neighbours
pub mod Standing
pub mod Breaching
