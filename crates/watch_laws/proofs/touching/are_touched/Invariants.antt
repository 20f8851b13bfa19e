use Rattle.std.proofs.Common.{◌≡◌, drop}
use Rattle.watch_laws.specs.Touched.{are_touched}
use Rattle.watch_laws.proofs.touching.are_touched.Given as goal

abbrev pub invariant-loop-pattern : goal.invariant-loop-pattern
invariant-loop-pattern l = are_touched l.triples l.patterns l.row.places.now ≡ are_touched l.triples (drop l.pattern-index l.patterns) l.row.places.now
