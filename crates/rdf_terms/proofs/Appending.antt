-- Lists that begin with another.
pub use Rattle.text_rules.proofs.Appending.{keeps_same, keeps_more, keeps_further, keeps_on}
