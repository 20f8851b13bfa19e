pub use Rattle.jsonld_subjects.specs as jsonld_subjects
pub use Rattle.jsonld_subjects.specs.jsonld_values as jsonld_values
pub mod OpenGroups
pub mod FilterReading
pub mod WhereReading
pub mod GroupsKept
pub mod QueryReading
pub mod QueryMeaning
pub mod Marking
