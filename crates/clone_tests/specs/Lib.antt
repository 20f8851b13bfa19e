pub mod KeptAtMost
