pub mod PathLaws
pub mod ClockLaws
pub mod PathLemmas
pub mod DotLemmas
pub mod TreeLemmas
pub mod ClockLemmas
