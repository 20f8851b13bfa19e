-- What a buffer keeps while something is appended to it.
pub use Rattle.text_rules.specs.Escaped.{KeepsStart}
