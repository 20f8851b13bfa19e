pub mod WayLemmas
mod StandingLemmas
mod FaultLemmas
mod InputLemmas
mod FolderReading
mod CompleteRuns
