use Rattle.std.proofs.Common.{ℕ, All, take}
use Rattle.rdf_terms.specs.declared.terms.Triple.{Triple}
use Rattle.op_codec.specs.Stored.{IsShortTriple}
use Rattle.op_codec.proofs.short.are_short_inserts.Given as goal

abbrev pub invariant-loop-triple : goal.invariant-loop-triple
invariant-loop-triple l = All (λ (insert : Triple × ℕ). IsShortTriple insert.0) (take l.triple-index l.inserts)
