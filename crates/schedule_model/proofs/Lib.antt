pub use Rattle.jrql_update.proofs.of_jrql_patterns as of_jrql_patterns
pub mod LackingLaws
mod PlansRead
pub mod PlanLaws
pub mod WorldLaws
pub mod JoinLaws
pub mod PlainChanges
pub mod ChangesLaws
pub mod FollowsLaws
pub mod StopLaws
pub mod AskLaws
pub mod SnapshotLaws
pub mod ScheduleLaws
mod QueryLaws
pub mod StepLaws
pub mod RunsLaws
pub mod PlainSound
pub mod StepSoundLaws
pub mod PlainAnswers
pub mod AnswersLaws
pub mod PromisesLaws
pub mod DurableLaws
pub mod FrontsStand
pub mod CrashedSteps
pub mod CrashedDurable
pub mod ArmedLaws
pub mod CrashFollows
mod CrashRows
