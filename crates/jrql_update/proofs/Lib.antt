pub use Rattle.jrql_patterns.proofs as of_jrql_patterns
pub use Rattle.jrql_patterns.proofs.of_jsonld_subjects as of_jsonld_subjects
pub mod KeptUpdates
mod MeantUpdates
mod OwnNames
mod BesideKeys
mod FirstClauses
