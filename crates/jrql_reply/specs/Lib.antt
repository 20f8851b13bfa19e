pub mod AnswerText
pub mod AnswerTokens
pub mod Columns
