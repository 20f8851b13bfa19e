use Rattle.std.proofs.Common.{◌≡◌, map, take}
use Rattle.jrql_rows.specs.mld_ops.declared.tagged.Tagged.{Tagged}
use Rattle.jrql_eval.proofs.scanning.triples_of.Given as goal

abbrev pub invariant-loop-at : goal.invariant-loop-at
invariant-loop-at l = map (λ x. x.now) l.triples.items ≡ map (λ (pair : Tagged). pair.triple) (take l.at l.pairs)
