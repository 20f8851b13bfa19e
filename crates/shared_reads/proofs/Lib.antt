pub mod Adding
pub mod AnswerKinds
pub mod ChangeLaws
pub mod FrontLaws
