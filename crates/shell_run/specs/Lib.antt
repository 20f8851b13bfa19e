pub mod ShellStatuses
pub mod Inputs
pub mod ShellEnds
pub mod ShellUnderWay
pub mod FolderWords
pub mod ShellCompleteness
