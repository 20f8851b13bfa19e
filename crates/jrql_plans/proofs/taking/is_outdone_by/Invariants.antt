use Rattle.std.proofs.Common.{◌≡◌, drop}
use Rattle.std.specs.List.{list_any}
use Rattle.jrql_plans.specs.Planning.{has_more}
use Rattle.jrql_plans.proofs.taking.is_outdone_by.Given as goal

abbrev pub invariant-loop-branch : goal.invariant-loop-branch
invariant-loop-branch l =
    list_any (list_any (has_more l.bound l.places)) (drop l.branch-index l.branches) ≡ list_any (list_any (has_more l.bound l.places)) l.branches
