pub use Rattle.schedule_replies.proofs as of_schedule_replies
pub use Rattle.crash_laws.proofs as of_crash_laws
pub mod Places
pub mod BankLemmas
pub mod WorldLemmas
pub mod ChangeLemmas
pub mod DeliverLemmas
pub mod JoinLemmas
pub mod LookLemmas
pub mod StopLemmas
pub mod AskLemmas
pub mod KeepLemmas
pub mod LeftLemmas
