pub mod VariableNames
pub mod Literals
pub mod ValueObjects
pub mod TermWriting
pub mod WrittenTokens
pub mod Numbering
