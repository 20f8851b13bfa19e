pub use Rattle.net_world.proofs as of_net_world
pub mod Counting
pub mod BlankLemmas
pub mod EndLemmas
pub mod GeneratedLemmas
pub mod MeterLemmas
pub mod RunLemmas
pub mod StageLemmas
pub mod StoppedLemmas
pub mod SummaryLemmas
pub mod SpelledLines
pub mod CompletenessLemmas
