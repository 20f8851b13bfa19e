pub mod Untouched
pub mod FirstTouched
pub mod LaidOver
pub mod Mattering
pub mod Members
pub mod TimesLaws
