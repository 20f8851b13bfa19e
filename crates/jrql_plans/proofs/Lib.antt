pub mod FirstMost
pub mod PlanLaws
pub mod PlanSteps
pub mod Planned
