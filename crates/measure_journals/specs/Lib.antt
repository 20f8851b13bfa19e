pub mod PlainMeter
