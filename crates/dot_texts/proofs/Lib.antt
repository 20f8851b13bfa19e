pub mod DotTexts
pub mod ClockTexts
