pub mod DotForms
