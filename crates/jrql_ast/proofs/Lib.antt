pub mod Bindings
pub mod BoundSlots
pub mod OneAnswer
pub mod OneSolutions
pub mod Permuted
pub mod Rearranging
pub mod Sortings
mod WorkedRows
pub mod FreshIris
pub mod MadeLaws
