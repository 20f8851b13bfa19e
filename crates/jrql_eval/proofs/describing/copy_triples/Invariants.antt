use Rattle.std.proofs.Common.{◌≡◌, map, take}
use Rattle.jrql_eval.proofs.describing.copy_triples.Given as goal

abbrev pub invariant-loop-triple : goal.invariant-loop-triple
invariant-loop-triple l = l.copies.items ≡ map (λ x. x.now) (take l.triple-index l.triples)
