pub mod OtherValues
