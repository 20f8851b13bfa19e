pub use Rattle.world_commands.specs.schedule_replies as schedule_replies
pub use Rattle.world_commands.specs as world_commands
pub use Rattle.world_commands.specs.crash_laws as crash_laws
pub mod Founding
pub mod FoundingLeft
pub mod CrashedWorlds
pub mod LeftBehind
pub mod DeviceUses
pub mod SettledWorlds
pub mod Commands
pub mod WorldSummary
