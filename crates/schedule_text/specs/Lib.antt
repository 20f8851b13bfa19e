pub use Rattle.schedule_model.specs as schedule_model
pub mod ReadLines
