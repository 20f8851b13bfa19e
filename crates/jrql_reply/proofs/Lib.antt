pub mod ColumnLaws
pub mod ColumnOrder
pub mod AnswerTexts
pub mod OneText
