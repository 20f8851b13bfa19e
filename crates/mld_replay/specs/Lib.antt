pub use Rattle.net_world.specs as net_world
pub mod RunSummaries
pub mod Stages
pub mod KeptBanks
pub mod BanksLeft
pub mod Ran
pub mod Replaying
pub mod ReplayUnderWay
pub mod Stops
pub mod FaultTexts
pub mod Filled
pub mod Looking
pub mod BankFaults
pub mod ReplayWords
pub mod Counts
pub mod GeneratedRuns
pub mod Completeness
