use Rattle.std.proofs.Common.{◌≡◌, take}
use Rattle.jrql_eval.proofs.EffectsByPlan.{pairs_of_each}
use Rattle.jrql_eval.proofs.effects.pairs_of.Given as goal

abbrev pub invariant-loop-triple : goal.invariant-loop-triple
invariant-loop-triple l = l.pairs.items ≡ pairs_of_each l.graph.pairs (take l.triple-index l.triples)
