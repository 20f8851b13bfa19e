pub mod InForm
pub mod Solutions
pub mod Templates
pub mod FilterMeaning
pub mod QueryAnswers
pub mod FreshNames
pub mod Naming
