pub mod SideStepLaws
pub mod Copies
pub mod CoveredLaws
pub mod Logs
pub mod MarkLaws
