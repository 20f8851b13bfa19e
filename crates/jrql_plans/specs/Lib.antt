pub mod PlannedGroups
pub mod Planning
