pub mod Heads
pub mod FrameTrips
pub mod StreamLaws
pub mod Payloads
pub mod PartFrames
pub mod ShortMessages
pub mod Spelled
pub mod GivenBack
pub mod CutSteps
pub mod WrittenFrames
mod HelloLaws
