pub mod TakenLemmas
pub mod HowFarLemmas
