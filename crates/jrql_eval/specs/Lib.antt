pub mod Asked
pub mod ConstantTemplates
pub mod Evaluating
pub mod FoundTriples
pub mod KeptFound
pub mod PlanEffects
