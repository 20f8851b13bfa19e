pub use Rattle.jsonld_values.specs as jsonld_values
pub mod SubjectReading
pub mod SubjectWriting
pub mod SubjectTokens
pub mod GivingBack
pub mod KeyRuns
pub mod KeysKept
pub mod MemberReading
pub mod ObjectReading
pub mod NamesKept
pub mod OwnSubjects
