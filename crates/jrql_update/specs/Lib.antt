pub use Rattle.jrql_patterns.specs as jrql_patterns
pub use Rattle.jrql_patterns.specs.jsonld_subjects as jsonld_subjects
pub mod UpdateReading
pub mod UpdateMeaning
