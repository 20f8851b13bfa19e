use Rattle.std.proofs.Common.{◌≡◌, drop}
use Rattle.text_rules.specs.Iri.{ends_scheme}
use Rattle.text_rules.proofs.absolute.ends_scheme.Given as goal

-- what is left decides
abbrev pub invariant-loop-byte : goal.invariant-loop-byte
invariant-loop-byte l = ends_scheme l.text ≡ ends_scheme (drop l.byte-index l.text)
