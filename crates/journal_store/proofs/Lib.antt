pub use Rattle.journal_sides.proofs as of_journal_sides
pub mod Reading
pub mod Mounted
pub mod Choosing
pub mod DeviceLaws
pub mod ReadLaws
pub mod JournalLaws
pub mod CallEndLaws
pub mod ClosingLaws
