use Rattle.std.proofs.Common.{arith, ◌∙◌, ◌≤◌, List, [], ◌∷◌, Bool, Bor, All, IsSome, if◌then◌else◌, false, filter, flat_map, get_or, length, refl, sym, ap, subst, Ok, Err, Some}
use Rattle.std.proofs.lemmas.Result.{err_from_is_err_and}
use Rattle.jrql_rows.specs.mld_ops.Present.{present}
use Rattle.jrql_rows.specs.graph_index.Graphs.{GraphValue}
use Rattle.jrql_rows.specs.graph_index.Numbered.{triple_numbered, TermNumbers}
use Rattle.jrql_rows.specs.jrql_ast.declared.patterns.PatternTriple.{PatternTriple}
use Rattle.jrql_rows.specs.jrql_ast.Solutions.{matches_from}
use Rattle.jrql_eval.specs.KeptFound.{KeepsEachFound, KeepsFound, agree_numbered}
use Rattle.jrql_rows.specs.Bindings.{BindingsValue}
use Rattle.jrql_plans.specs.declared.plans.PatternStage.{PatternStage}
use Rattle.jrql_plans.specs.declared.plans.BranchPlan.{BranchPlan}
use Rattle.jrql_plans.specs.PlannedGroups.{AreBranchesReady, AreReady, AreTestsOf, IsBoundIn, IsBranchReady, planned, planned_in}
use Rattle.jrql_eval.specs.Evaluating.{IsEndReady, all_hold, ended_by, led_from, led_to}
use Rattle.jrql_rows.specs.Unbinding.{all_cleared, free_variables}
use Rattle.jrql_eval.proofs.KeptLaws.{keeps_each, keeps_err, keeps_led, keeps_nothing, keeps_one_more, keeps_same, numbers_agree, numbers_differ, there_from}
use Rattle.jrql_eval.proofs.BranchLaws.{branch_led, depth_at, ended_each, passed_by}
use Rattle.jrql_rows.proofs.FreeLaws.{unbound_again}
use Rattle.jrql_eval.proofs.LedRows.{led_checked, led_lost, moved_checks, ready_alone}
use Rattle.jrql_eval.proofs.RefusedRows.{led_refused}
use Rattle.jrql_eval.proofs.searching.+search.Goals as goal

-- what a place beyond the end is read as
abbrev no_numbers : TermNumbers
no_numbers = record { s = 0; p = 0; o = 0 }

pub search-returns-in_ok-found-in-Some-clause-rows : goal.search-returns-in_ok-found-in-Some-clause-rows
search-returns-in_ok-found-in-Some-clause-rows t c =
    let row = c.args.row.now in
    let ending = c.args.ending.now in
    let stage = c.in-Some.stage.now in
    let rest = c.in-Some.rest.now in
    let found = c.in_ok-found-in-Some.found.items in
    let led = led_from (present row.graph.pairs) ending stage rest in
    subst (λ (z : List PatternStage). KeepsFound c.args.kept.now (led_to (present row.graph.pairs) ending z row.row) c.search_each.result c.search_each.new.kept) (sym c.in-Some.ensures.cases.0)
    (keeps_led ending stage rest row found c.args.kept.now c.search_each.new.kept c.search_each.result c.in_ok-found-in-Some.ensures
    (subst (λ (z : List TermNumbers). KeepsFound c.args.kept.now (flat_map (λ numbers. led (agree_numbered row.graph stage.pattern.now row.row numbers)) z) c.search_each.result c.search_each.new.kept)
    c.deref.ensures.value c.search_each.ensures.rows))

pub search-search_each-requires : goal.search-search_each-requires
search-search_each-requires t c =
    let row = c.args.row.now in
    let is = c.in-Some.ensures.cases.0 in
    let n = ap length is in (
      omega (arith, n),
      (
        subst (λ (z : List PatternStage). IsEndReady c.args.ending.now z row.row) is c.requires.ready,
        (
          subst (λ (z : List TermNumbers). All (λ numbers. IsSome (triple_numbered row.graph numbers)) z) (sym c.deref.ensures.value)
              (there_from (triple_numbered row.graph) c.in_ok-found-in-Some.found.items c.in_ok-found-in-Some.ensures.triples c.in_ok-found-in-Some.ensures.are),
          (c.requires.graphs, c.requires.few),
        ),
      ),
    )

pub search_each-loop-numbers-init : goal.search_each-loop-numbers-init
search_each-loop-numbers-init t c = (keeps_nothing c.args.kept.now [] c.requires.few refl, refl)

pub search_each-search_behind-requires : goal.search_each-search_behind-requires
search_each-search_behind-requires t c =
    let kept = c.loop-numbers.invariant.0 in
    let same = c.loop-numbers.invariant.1 in
    let stage = c.args.stage.now in (
      omega arith,
      (
        subst (λ (b : BindingsValue). IsEndReady c.args.ending.now (stage ∷ c.args.rest.now) b.row) (sym same) c.requires.ready,
        (
          subst (λ (b : BindingsValue). IsSome (triple_numbered b.graph (get_or c.args.found.now c.loop-numbers.numbers-index no_numbers))) (sym same)
              (c.requires.there c.loop-numbers.numbers-index no_numbers c.loop-numbers-test.true),
          (
            ap (λ (b : BindingsValue). b.graph) same ∙ c.requires.graphs ∙ sym kept.keeps.graph,
            (c.free_variables-free.ensures ∙ ap (λ (b : BindingsValue). free_variables stage.pattern.now b.row) (sym same), kept.few),
          ),
        ),
      ),
    )

pub search_each-returns-in_err-search_behind-clause-rows : goal.search_each-returns-in_err-search_behind-clause-rows
search_each-returns-in_err-search_behind-clause-rows t c =
    let row = c.args.row.now in
    let stage = c.args.stage.now in
    let led = λ (b : BindingsValue) (numbers : TermNumbers). led_from (present b.graph.pairs) c.args.ending.now stage c.args.rest.now (agree_numbered b.graph stage.pattern.now b.row numbers) in
    let numbers = get_or c.args.found.now c.loop-numbers.numbers-index no_numbers in
    let p = err_from_is_err_and c.from_residual.result c.from_residual.ensures.1 in
    rw (p.1, p.2) (keeps_err (led row) c.args.found.now c.loop-numbers.numbers-index no_numbers numbers c.args.kept.now c.loop-numbers.kept c.search_behind.new.kept
    c.loop-numbers-test.true refl c.loop-numbers.invariant.0 c.in_err-search_behind.field-0.0
    (subst (λ (b : BindingsValue). KeepsFound {X = Unit {0}} c.loop-numbers.kept (led b numbers) (Err c.in_err-search_behind.field-0.0) c.search_behind.new.kept)
    c.loop-numbers.invariant.1 c.in_err-search_behind.ensures.rows))

pub search_each-returns-in_err-search_behind-clause-same : goal.search_each-returns-in_err-search_behind-clause-same
search_each-returns-in_err-search_behind-clause-same t c = c.search_behind.ensures.same ∙ c.loop-numbers.invariant.1

pub search_each-loop-numbers-preserved : goal.search_each-loop-numbers-preserved
search_each-loop-numbers-preserved t c =
    let row = c.args.row.now in
    let stage = c.args.stage.now in
    let led = λ (b : BindingsValue) (numbers : TermNumbers). led_from (present b.graph.pairs) c.args.ending.now stage c.args.rest.now (agree_numbered b.graph stage.pattern.now b.row numbers) in
    let numbers = get_or c.args.found.now c.loop-numbers.numbers-index no_numbers in (
      keeps_one_more (led row) c.args.found.now c.loop-numbers.numbers-index no_numbers numbers c.args.kept.now c.loop-numbers.kept c.search_behind.new.kept
          c.loop-numbers-test.true refl c.loop-numbers.invariant.0
          (subst (λ (b : BindingsValue). KeepsEachFound c.loop-numbers.kept (led b numbers) c.search_behind.new.kept) c.loop-numbers.invariant.1 c.in_ok-search_behind.ensures.rows),
      c.search_behind.ensures.same ∙ c.loop-numbers.invariant.1,
    )

pub search_each-returns-clause-rows : goal.search_each-returns-clause-rows
search_each-returns-clause-rows t c =
    let row = c.args.row.now in
    let stage = c.args.stage.now in
    let led = λ (numbers : TermNumbers). led_from (present row.graph.pairs) c.args.ending.now stage c.args.rest.now (agree_numbered row.graph stage.pattern.now row.row numbers) in
    let l : length c.args.found.now ≤ c.loop-numbers.numbers-index = omega arith in
    keeps_each led c.args.found.now c.loop-numbers.numbers-index c.args.kept.now c.loop-numbers.kept l c.loop-numbers.invariant.0

pub search_each-returns-clause-same : goal.search_each-returns-clause-same
search_each-returns-clause-same t c = c.loop-numbers.invariant.1

pub search_behind-bind_pattern-requires : goal.search_behind-bind_pattern-requires
search_behind-bind_pattern-requires t c = c.requires.there

pub search_behind-returns-then-not-bind_pattern-clause-rows : goal.search_behind-returns-then-not-bind_pattern-clause-rows
search_behind-returns-then-not-bind_pattern-clause-rows t c =
    let row = c.args.row.now in
    let led = led_from (present row.graph.pairs) c.args.ending.now c.args.stage.now c.args.rest.now in
    let pattern = c.args.stage.now.pattern.now in
    keeps_nothing c.args.kept.now (led (agree_numbered row.graph pattern row.row c.args.numbers.now)) c.requires.few
    (ap led (numbers_differ pattern c.args.numbers.now row c.bind_pattern.new.row.row c.bind_pattern.result c.requires.there c.bind_pattern.ensures.bound c.if-not-bind_pattern.true))

pub search_behind-returns-then-not-bind_pattern-clause-same : goal.search_behind-returns-then-not-bind_pattern-clause-same
search_behind-returns-then-not-bind_pattern-clause-same t c =
    unbound_again c.args.stage.now.pattern.now c.args.row.now c.bind_pattern.new.row c.unbind_all.new.row c.args.free.now c.requires.free c.bind_pattern.ensures.graph
    c.bind_pattern.ensures.back c.unbind_all.ensures.graph c.unbind_all.ensures.unbound

pub search_behind-search_bound-told-requires : goal.search_behind-search_bound-told-requires
search_behind-search_bound-told-requires t c =
    let row = c.args.row.now in
    let bound = numbers_agree c.args.stage.now.pattern.now c.args.numbers.now row c.bind_pattern.new.row.row c.bind_pattern.result c.requires.there c.bind_pattern.ensures.bound
    c.if-not-bind_pattern.false in
    let ready = c.requires.ready.ready bound.triple c.bind_pattern.new.row.row bound.agrees in (
      omega arith,
      (
        record {
          checks = ready.0;
          tests = c.requires.ready.tested.0;
          behind = record { ready = ready.1; tested = c.requires.ready.tested.1; tested_behind = c.requires.ready.tested_behind };
        },
        (c.bind_pattern.ensures.graph ∙ c.requires.graphs, c.requires.few),
      ),
    )

pub search_behind-returns-clause-rows : goal.search_behind-returns-clause-rows
search_behind-returns-clause-rows t c =
    let row = c.args.row.now in
    let next = c.bind_pattern.new.row in
    let pattern = c.args.stage.now.pattern.now in
    let bound = numbers_agree pattern c.args.numbers.now row next.row c.bind_pattern.result c.requires.there c.bind_pattern.ensures.bound c.if-not-bind_pattern.false in
    let led = λ (g : GraphValue). led_from (present g.pairs) c.args.ending.now c.args.stage.now c.args.rest.now in
    keeps_same c.args.kept.now (led next.graph (Some next.row)) (led row.graph (agree_numbered row.graph pattern row.row c.args.numbers.now)) c.search_bound-told.result c.search_bound-told.new.kept
    (ap (λ (g : GraphValue). led g (Some next.row)) c.bind_pattern.ensures.graph ∙ ap (led row.graph) (sym bound.so))
    c.search_bound-told.ensures.rows

pub search_behind-returns-clause-same : goal.search_behind-returns-clause-same
search_behind-returns-clause-same t c =
    let row = c.args.row.now in
    let pattern = c.args.stage.now.pattern.now in
    unbound_again pattern row c.search_bound-told.new.row c.unbind_all-2.new.row c.args.free.now c.requires.free
    (ap (λ (b : BindingsValue). b.graph) c.search_bound-told.ensures.same ∙ c.bind_pattern.ensures.graph)
    (ap (λ (b : BindingsValue). all_cleared (free_variables pattern row.row) b.row) c.search_bound-told.ensures.same ∙ c.bind_pattern.ensures.back)
    c.unbind_all-2.ensures.graph c.unbind_all-2.ensures.unbound

pub search_bound-are_present-requires : goal.search_bound-are_present-requires
search_bound-are_present-requires t c =
    subst (λ (patterns : List (Bor PatternTriple)). All (λ (pattern : Bor PatternTriple). IsBoundIn c.args.row.now.row pattern.now) patterns) (sym c.deref-2.ensures.value) c.requires.ready.checks

pub search_bound-returns-then-not-all_can_hold-clause-rows : goal.search_bound-returns-then-not-all_can_hold-clause-rows
search_bound-returns-then-not-all_can_hold-clause-rows t c =
    let row = c.args.row.now in
    let graph = present row.graph.pairs in
    let stage = c.args.stage.now in
    keeps_nothing c.args.kept.now (led_from graph c.args.ending.now stage c.args.rest.now (Some row.row)) c.requires.few
    (led_refused graph c.args.ending.now c.deref.result.now stage.tests.items stage c.args.rest.now (Some row.row) row.row row.row refl
    c.deref.ensures.value refl c.requires.ready.tests (sym c.all_can_hold.ensures ∙ c.if-not-all_can_hold.true))

pub search_bound-returns-then-not-are_present-clause-rows : goal.search_bound-returns-then-not-are_present-clause-rows
search_bound-returns-then-not-are_present-clause-rows t c =
    let row = c.args.row.now in
    let graph = present row.graph.pairs in
    let stage = c.args.stage.now in
    let checked = moved_checks graph c.deref-2.result.now stage.checks.items row.row row.row c.are_present.result c.deref-2.ensures.value refl c.are_present.ensures in
    keeps_nothing c.args.kept.now (led_from graph c.args.ending.now stage c.args.rest.now (Some row.row)) c.requires.few
    (led_lost graph c.args.ending.now stage c.args.rest.now (Some row.row) row.row refl
    (λ rest. checked rest ∙ ap (λ (b : Bool). if b then matches_from graph rest row.row else []) c.if-not-are_present.true))

pub search_bound-returns-clause-rows : goal.search_bound-returns-clause-rows
search_bound-returns-clause-rows t c =
    let row = c.args.row.now in
    let graph = present row.graph.pairs in
    let stage = c.args.stage.now in
    let checked = moved_checks graph c.deref-2.result.now stage.checks.items row.row row.row c.are_present.result c.deref-2.ensures.value refl c.are_present.ensures in
    keeps_same c.args.kept.now (led_to graph c.args.ending.now c.args.rest.now row.row) (led_from graph c.args.ending.now stage c.args.rest.now (Some row.row)) c.search.result c.search.new.kept
    (sym (led_checked graph c.args.ending.now stage c.args.rest.now (Some row.row) row.row refl
    (λ rest. checked rest ∙ ap (λ (b : Bool). if b then matches_from graph rest row.row else []) c.if-not-are_present.false)))
    c.search.ensures.rows

pub search_branches-loop-branch-init : goal.search_branches-loop-branch-init
search_branches-loop-branch-init t c = (keeps_nothing c.args.kept.now [] c.requires.few refl, refl)

pub search_branches-search_branch-requires : goal.search_branches-search_branch-requires
search_branches-search_branch-requires t c =
    let i = c.loop-branch.branch-index in
    let branches = c.args.ending.now.branches.now in
    let branch = c.branch-item.result in
    let kept = c.loop-branch.invariant.0 in
    let same = c.loop-branch.invariant.1 in
    let deep = depth_at branches i branch c.loop-branch-test.true in
    let long = ap (λ (b : BranchPlan). length b.stages.items) c.branch-item.is in (
      omega (arith, deep, long),
      (
        subst (λ (b : BindingsValue). IsBranchReady b.row branch) (sym same)
            (subst (IsBranchReady c.args.row.now.row) (sym c.branch-item.is) (c.requires.ready.ready i branch c.loop-branch-test.true)),
        (
          subst (λ (b : BranchPlan). AreTestsOf c.args.ending.now.filters.now b.stages.items) (sym c.branch-item.is) (c.requires.ready.tested_behind i branch c.loop-branch-test.true),
          (ap (λ (b : BindingsValue). b.graph) same ∙ c.requires.graphs ∙ sym kept.keeps.graph, kept.few),
        ),
      ),
    )

pub search_branches-returns-in_err-search_branch-clause-rows : goal.search_branches-returns-in_err-search_branch-clause-rows
search_branches-returns-in_err-search_branch-clause-rows t c =
    let row = c.args.row.now in
    let graph = present row.graph.pairs in
    let filters = c.args.ending.now.filters.now in
    let branches = c.args.ending.now.branches.now in
    let led = λ (b : BindingsValue) (branch : BranchPlan). filter (all_hold filters) (matches_from (present b.graph.pairs) (planned_in branch) b.row) in
    let p = err_from_is_err_and c.from_residual.result c.from_residual.ensures.1 in
    rw (p.1, p.2) (keeps_same {X = Unit {0}} c.args.kept.now (flat_map (led row) branches) (filter (all_hold filters) (ended_by graph branches row.row)) (Err c.in_err-search_branch.field-0.0) c.search_branch.new.kept
    (sym (ended_each graph filters branches row.row (sym c.is_empty.ensures ∙ c.if-is_empty.false)))
    (keeps_err (led row) branches c.loop-branch.branch-index c.branch-item.result c.branch-item.result c.args.kept.now c.loop-branch.kept c.search_branch.new.kept
    c.loop-branch-test.true c.branch-item.is c.loop-branch.invariant.0 c.in_err-search_branch.field-0.0
    (subst (λ (b : BindingsValue). KeepsFound {X = Unit {0}} c.loop-branch.kept (led b c.branch-item.result) (Err c.in_err-search_branch.field-0.0) c.search_branch.new.kept)
    c.loop-branch.invariant.1 c.in_err-search_branch.ensures.rows)))

pub search_branches-returns-in_err-search_branch-clause-same : goal.search_branches-returns-in_err-search_branch-clause-same
search_branches-returns-in_err-search_branch-clause-same t c = c.search_branch.ensures.same ∙ c.loop-branch.invariant.1

pub search_branches-loop-branch-preserved : goal.search_branches-loop-branch-preserved
search_branches-loop-branch-preserved t c =
    let row = c.args.row.now in
    let led = λ (b : BindingsValue) (branch : BranchPlan). filter (all_hold c.args.ending.now.filters.now) (matches_from (present b.graph.pairs) (planned_in branch) b.row) in (
      keeps_one_more (led row) c.args.ending.now.branches.now c.loop-branch.branch-index c.branch-item.result c.branch-item.result c.args.kept.now c.loop-branch.kept c.search_branch.new.kept
          c.loop-branch-test.true c.branch-item.is c.loop-branch.invariant.0
          (subst (λ (b : BindingsValue). KeepsEachFound c.loop-branch.kept (led b c.branch-item.result) c.search_branch.new.kept) c.loop-branch.invariant.1 c.in_ok-search_branch.ensures.rows),
      c.search_branch.ensures.same ∙ c.loop-branch.invariant.1,
    )

pub search_branches-returns-clause-rows : goal.search_branches-returns-clause-rows
search_branches-returns-clause-rows t c =
    let row = c.args.row.now in
    let graph = present row.graph.pairs in
    let filters = c.args.ending.now.filters.now in
    let branches = c.args.ending.now.branches.now in
    let led = λ (branch : BranchPlan). filter (all_hold filters) (matches_from graph (planned_in branch) row.row) in
    let l : length branches ≤ c.loop-branch.branch-index = omega arith in
    keeps_same {X = Unit {0}} c.args.kept.now (flat_map led branches) (filter (all_hold filters) (ended_by graph branches row.row)) (Ok tt) c.loop-branch.kept
    (sym (ended_each graph filters branches row.row (sym c.is_empty.ensures ∙ c.if-is_empty.false)))
    (keeps_each led branches c.loop-branch.branch-index c.args.kept.now c.loop-branch.kept l c.loop-branch.invariant.0)

pub search_branches-returns-clause-same : goal.search_branches-returns-clause-same
search_branches-returns-clause-same t c = c.loop-branch.invariant.1

pub search_branch-search-requires : goal.search_branch-search-requires
search_branch-search-requires t c =
    let stages = c.args.branch.now.stages.items in
    let n = ap length c.deref-2.ensures.value in (
      omega (arith, n),
      (
        record {
          ready = subst (λ (z : List PatternStage). AreReady (AreBranchesReady []) z c.args.row.now.row) (sym c.deref-2.ensures.value) (ready_alone stages c.args.row.now.row c.requires.ready.ready);
          tested = subst (AreTestsOf c.args.filters.now) (sym c.deref-2.ensures.value) c.requires.tests;
          tested_behind = λ k d l. absurd (omega (arith, l));
        },
        (c.requires.graphs, c.requires.few),
      ),
    )

pub search_branch-returns-then-not-are_present-clause-rows : goal.search_branch-returns-then-not-are_present-clause-rows
search_branch-returns-then-not-are_present-clause-rows t c =
    let row = c.args.row.now in
    let graph = present row.graph.pairs in
    let filters = c.args.filters.now in
    let branch = c.args.branch.now in
    let checked = moved_checks graph c.deref.result.now branch.checks.items row.row row.row c.are_present.result c.deref.ensures.value refl c.are_present.ensures in
    let led = passed_by graph filters [] (matches_from graph (planned branch.stages.items) row.row) in
    keeps_nothing c.args.kept.now (filter (all_hold filters) (matches_from graph (planned_in branch) row.row)) c.requires.few
    (branch_led graph filters branch row.row c.are_present.result checked ∙ ap (λ (b : Bool). if b then led else []) c.if-not-are_present.true)

pub search_branch-returns-clause-rows : goal.search_branch-returns-clause-rows
search_branch-returns-clause-rows t c =
    let row = c.args.row.now in
    let graph = present row.graph.pairs in
    let filters = c.args.filters.now in
    let branch = c.args.branch.now in
    let checked = moved_checks graph c.deref.result.now branch.checks.items row.row row.row c.are_present.result c.deref.ensures.value refl c.are_present.ensures in
    let led = λ (z : List PatternStage). passed_by graph filters [] (matches_from graph (planned z) row.row) in
    keeps_same c.args.kept.now (led c.deref-2.result.now) (filter (all_hold filters) (matches_from graph (planned_in branch) row.row)) c.search.result c.search.new.kept
    (ap led c.deref-2.ensures.value
    ∙ sym (branch_led graph filters branch row.row c.are_present.result checked ∙ ap (λ (b : Bool). if b then led branch.stages.items else []) c.if-not-are_present.false))
    c.search.ensures.rows
