pub mod Drawing
pub mod DrawnLines
pub mod GeneratedText
