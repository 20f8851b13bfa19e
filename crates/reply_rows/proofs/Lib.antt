pub mod Filtered
pub mod Risen
pub mod RowLaws
pub mod SearchLaws
pub mod MergingLaws
