pub use Rattle.jsonld_subjects.proofs as of_jsonld_subjects
pub use Rattle.jsonld_subjects.proofs.of_jsonld_values as of_jsonld_values
mod FirstMembers
mod Marked
mod Placing
mod OneMember
mod JsonTexts
mod MetNumbers
pub mod KeptGroups
pub mod NoFresh
mod KeptQueries
pub mod MeantQueries
mod MissedColumns
mod NameOrder
