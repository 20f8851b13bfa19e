pub mod Frames
pub mod FrameLaws
pub mod FrameReading
pub mod MessageParts
pub mod PartLaws
pub mod Assemblies
