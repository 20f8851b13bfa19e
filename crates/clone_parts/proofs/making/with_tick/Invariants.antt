use Rattle.std.proofs.Common.{◌≡◌, map, take}
use Rattle.rdf_terms.specs.declared.terms.Triple.{Triple}
use Rattle.clone_parts.proofs.making.with_tick.Given as goal

abbrev pub invariant-loop-triple : goal.invariant-loop-triple
invariant-loop-triple l = l.ticked.items ≡ map (λ (triple : Triple). (triple, l.tick)) (take l.triple-index l.triples)
