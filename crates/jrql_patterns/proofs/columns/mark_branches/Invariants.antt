use Rattle.std.proofs.Common.{◌≡◌, drop}
use Rattle.jrql_patterns.specs.Marking.{marked_branches}
use Rattle.jrql_patterns.proofs.columns.mark_branches.Given as goal

abbrev pub invariant-loop-branch : goal.invariant-loop-branch
invariant-loop-branch l = marked_branches l.marks (drop l.branch-index l.branches) ≡ marked_branches l.initial.marks l.branches
