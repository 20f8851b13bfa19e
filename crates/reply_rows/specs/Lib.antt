pub mod Rising
pub mod Times
pub mod Moving
