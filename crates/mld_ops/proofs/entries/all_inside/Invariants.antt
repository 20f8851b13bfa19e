use Rattle.std.proofs.Common.{ℕ, ◌≤◌, take}
use Rattle.std.specs.List.{AllByRecursion}
use Rattle.rdf_terms.specs.declared.terms.Triple.{Triple}
use Rattle.mld_ops.proofs.entries.all_inside.Given as goal

abbrev pub invariant-loop-tick : goal.invariant-loop-tick
invariant-loop-tick l =
    AllByRecursion (λ (insert : Triple × ℕ). (l.range.first ≤ insert.1) × (insert.1 ≤ l.range.last)) (take l.tick-index l.inserts)
