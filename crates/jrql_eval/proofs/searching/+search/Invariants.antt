use Rattle.std.proofs.Common.{◌≡◌, ◌+◌, ◌*◌, length, take, filter, flat_map}
use Rattle.jrql_rows.specs.mld_ops.Present.{present}
use Rattle.jrql_rows.specs.jrql_ast.Solutions.{matches_from}
use Rattle.jrql_plans.specs.PlannedGroups.{planned_in}
use Rattle.jrql_eval.specs.Evaluating.{all_hold, led_from}
use Rattle.jrql_eval.specs.KeptFound.{KeepsEachFound, agree_numbered}
use Rattle.jrql_eval.proofs.BranchLaws.{depth_behind}
use Rattle.jrql_eval.proofs.searching.+search.Given as goal

abbrev pub decreases-search : goal.decreases-search
decreases-search l = 4 * length l.stages.now + depth_behind l.ending.now.branches.now + 1

abbrev pub decreases-search_branches : goal.decreases-search_branches
decreases-search_branches l = depth_behind l.ending.now.branches.now

abbrev pub decreases-search_branch : goal.decreases-search_branch
decreases-search_branch l = 4 * length l.branch.now.stages.items + 2

abbrev pub decreases-search_each : goal.decreases-search_each
decreases-search_each l = 4 * length l.rest.now + depth_behind l.ending.now.branches.now + 4

abbrev pub decreases-search_behind : goal.decreases-search_behind
decreases-search_behind l = 4 * length l.rest.now + depth_behind l.ending.now.branches.now + 3

abbrev pub decreases-search_bound : goal.decreases-search_bound
decreases-search_bound l = 4 * length l.rest.now + depth_behind l.ending.now.branches.now + 2

-- what is kept is what comes of the branches so far, and the row is as it was
abbrev pub invariant-search_branches-loop-branch : goal.invariant-search_branches-loop-branch
invariant-search_branches-loop-branch l =
    KeepsEachFound l.initial.kept
    (flat_map (λ branch. filter (all_hold l.ending.filters.now) (matches_from (present l.initial.row.graph.pairs) (planned_in branch) l.initial.row.row)) (take l.branch-index l.ending.branches.now))
    l.kept
    × (l.row ≡ l.initial.row)

-- and of the triples so far
abbrev pub invariant-search_each-loop-numbers : goal.invariant-search_each-loop-numbers
invariant-search_each-loop-numbers l =
    KeepsEachFound l.initial.kept
    (flat_map (λ numbers. led_from (present l.initial.row.graph.pairs) l.ending l.stage l.rest (agree_numbered l.initial.row.graph l.stage.pattern.now l.initial.row.row numbers)) (take l.numbers-index l.found))
    l.kept
    × (l.row ≡ l.initial.row)
