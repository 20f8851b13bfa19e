use Rattle.std.proofs.Common.{◌≡◌, take}
use Rattle.mld_ops.proofs.effects.copy_triples.Given as goal

abbrev pub invariant-loop-triple : goal.invariant-loop-triple
invariant-loop-triple l = l.copy.items ≡ take l.triple-index l.triples
