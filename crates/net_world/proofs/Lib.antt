pub use Rattle.world_commands.proofs.of_schedule_replies as of_schedule_replies
pub use Rattle.world_commands.proofs as of_world_commands
pub use Rattle.world_commands.proofs.of_crash_laws as of_crash_laws
pub mod FaultLemmas
pub mod FoundingLemmas
pub mod EndLemmas
pub mod StepLemmas
pub mod SummarizingLaws
pub mod CutLemmas
pub mod DeedLemmas
pub mod CaughtLemmas
pub mod CrashLemmas
pub mod LeftFronts
pub mod DeviceLemmas
pub mod SettledBanks
pub mod FoundingFronts
pub mod SettledSteps
pub mod SummaryLaws
