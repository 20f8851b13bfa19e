use Rattle.std.proofs.Common.{◌≡◌, ◌∙◌, ◌++◌, List, [], Bool, Ok, sym, ap, map, IsPermutation, if◌then◌else◌, refl, subst}
use Rattle.jrql_rows.specs.mld_ops.Present.{present}
use Rattle.jrql_rows.specs.graph_index.Graphs.{GraphValue}
use Rattle.jrql_rows.specs.jrql_ast.declared.patterns.PatternTriple.{PatternTriple}
use Rattle.jrql_rows.specs.jrql_ast.QueryAnswers.{found}
use Rattle.jrql_rows.specs.jrql_ast.Solutions.{matches_from}
use Rattle.jrql_plans.specs.PlannedGroups.{planned}
use Rattle.jrql_rows.specs.Bindings.{BindingsValue}
use Rattle.jrql_eval.proofs.BranchLaws.{group_planned, passed_by}
use Rattle.jrql_eval.proofs.KeptLaws.{keeps_moved, keeps_nothing, keeps_same}
use Rattle.jrql_eval.proofs.LedRows.{moved_checks}
use Rattle.jrql_eval.proofs.RefusedRows.{group_refused}
use Rattle.jrql_eval.proofs.solving.find_rows.Goals as goal

pub returns-then-not-all_can_hold : goal.returns-then-not-all_can_hold
returns-then-not-all_can_hold c =
    let graph = present c.args.kept.now.graph.pairs in
    let group = c.args.group.now in
    let start = c.in_ok-start.start in
    keeps_nothing c.args.kept.now (found graph group) c.requires.few
    (group_refused graph group c.deref.result.now c.in_ok-plan.plan.tests.items c.variables_of.result start.row start.row
    c.variables_of.ensures (ap (λ (b : BindingsValue). b.row) c.in_ok-start.ensures) c.deref.ensures.value refl c.in_ok-plan.ensures.tests
    (sym c.all_can_hold.ensures ∙ c.if-not-all_can_hold.true))

pub returns-then-not-are_present : goal.returns-then-not-are_present
returns-then-not-are_present c =
    let graph = present c.args.kept.now.graph.pairs in
    let group = c.args.group.now in
    let plan = c.in_ok-plan.plan in
    let start = c.in_ok-start.start in
    let checked = subst (λ (g : GraphValue). (rest : List PatternTriple) → matches_from (present g.pairs) (map (λ x. x.now) c.deref-2.result.now ++ rest) start.row
    ≡ (if c.are_present.result then matches_from (present g.pairs) rest start.row else [])) (ap (λ (b : BindingsValue). b.graph) c.in_ok-start.ensures ∙ c.graph.ensures) c.are_present.ensures in
    let moved = group_planned graph group c.variables_of.result plan start.row c.are_present.result c.variables_of.ensures c.in_ok-plan.ensures (ap (λ (b : BindingsValue). b.row) c.in_ok-start.ensures)
    (moved_checks graph c.deref-2.result.now plan.checks.items start.row start.row c.are_present.result c.deref-2.ensures.value refl checked) in
    keeps_moved {X = Unit {0}} c.args.kept.now (found graph group) [] (Ok tt) c.args.kept.now
    (subst (λ (b : Bool). IsPermutation (found graph group) (if b then passed_by graph group.filters plan.branches.items (matches_from graph (planned plan.stages.items) start.row) else [])) c.if-not-are_present.true moved)
    (keeps_nothing c.args.kept.now [] c.requires.few refl)

pub returns : goal.returns
returns c =
    let graph = present c.args.kept.now.graph.pairs in
    let group = c.args.group.now in
    let plan = c.in_ok-plan.plan in
    let start = c.in_ok-start.start in
    let same_graph = ap (λ (b : BindingsValue). b.graph) c.in_ok-start.ensures ∙ c.graph.ensures in
    let checked = subst (λ (g : GraphValue). (rest : List PatternTriple) → matches_from (present g.pairs) (map (λ x. x.now) c.deref-2.result.now ++ rest) start.row
    ≡ (if c.are_present.result then matches_from (present g.pairs) rest start.row else [])) same_graph c.are_present.ensures in
    let moved = group_planned graph group c.variables_of.result plan start.row c.are_present.result c.variables_of.ensures c.in_ok-plan.ensures (ap (λ (b : BindingsValue). b.row) c.in_ok-start.ensures)
    (moved_checks graph c.deref-2.result.now plan.checks.items start.row start.row c.are_present.result c.deref-2.ensures.value refl checked) in
    let led = passed_by graph group.filters plan.branches.items (matches_from graph (planned plan.stages.items) start.row) in
    keeps_moved c.args.kept.now (found graph group) led c.search.result c.search.new.kept
    (subst (λ (b : Bool). IsPermutation (found graph group) (if b then led else [])) c.if-not-are_present.false moved)
    (keeps_same c.args.kept.now
    (passed_by (present start.graph.pairs) c.as_slice.result.now c.deref-3.result.now (matches_from (present start.graph.pairs) (planned c.deref-4.result.now) start.row)) led
    c.search.result c.search.new.kept
    (λ i. passed_by (present ((same_graph i).pairs)) (c.as_slice.ensures i) (c.deref-3.ensures.value i) (matches_from (present ((same_graph i).pairs)) (planned (c.deref-4.ensures.value i)) start.row))
    c.search.ensures.rows)
