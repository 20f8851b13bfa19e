pub mod StateJoin
pub mod Walks
pub mod JoinLaws
pub mod SnapshotJoin
