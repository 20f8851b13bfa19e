pub mod Generated
pub mod DrawnCommands
