pub use Rattle.schedule_replies.specs as schedule_replies
pub use Rattle.crash_laws.specs as crash_laws
pub mod States
pub mod WorldBanks
pub mod OneCall
pub mod Worlds
pub mod WorldParts
pub mod Changes
pub mod Delivering
pub mod Asking
pub mod WorldFaults
pub mod StoppedClones
pub mod OpeningBanks
pub mod WorldEnds
pub mod KeptJournals
pub mod LeftBanks
pub mod Doings
