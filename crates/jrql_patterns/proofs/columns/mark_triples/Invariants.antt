use Rattle.std.proofs.Common.{◌≡◌, drop}
use Rattle.jrql_patterns.specs.Marking.{marked_triples}
use Rattle.jrql_patterns.proofs.columns.mark_triples.Given as goal

abbrev pub invariant-loop-triple : goal.invariant-loop-triple
invariant-loop-triple l = marked_triples l.marks (drop l.triple-index l.triples) ≡ marked_triples l.initial.marks l.triples
