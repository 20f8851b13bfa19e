pub use Rattle.jsonld_values.proofs as of_jsonld_values
pub mod ShortKeys
pub mod WrittenTerms
pub mod KeyedMembers
pub mod IdMembers
pub mod SubjectsGivenBack
pub mod Runs
pub mod WrittenRuns
pub mod KeysMade
pub mod MemberLaws
pub mod TypeProperty
pub mod KeptNames
pub mod OneObject
pub mod AloneIsValue
mod OwnNumbers
pub mod OwnSubjects
