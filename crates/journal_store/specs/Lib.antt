pub use Rattle.journal_sides.specs as journal_sides
pub mod Found
pub mod Standing
pub mod Crashes
pub mod Calls
pub mod Closing
pub mod Mounting
pub mod Device
pub mod WrittenSides
pub mod CallEnds
