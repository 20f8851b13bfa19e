pub use Rattle.jrql_update.specs.jrql_patterns as jrql_patterns
pub mod Characters
pub mod ReplyText
pub mod Querying
pub mod Updating
pub mod Tasks
pub mod PlainStep
pub mod PlainDurable
pub mod Crashing
pub mod Step
pub mod DurableSteps
pub mod Schedule
pub mod Runs
pub mod WorldStep
pub mod Lacking
pub mod Answers
pub mod Promises
pub mod Laws
