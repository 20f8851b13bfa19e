-- The solutions of a group by its plan: what all branches share, and then branch by branch.
use Rattle.std.proofs.Common.{◌≡◌, ◌∙◌, ℕ, zero, suc, ◌*◌, ◌+◌, ◌<◌, ◌≤◌, ◌==◌, true≢false, List, [], ◌∷◌, ◌++◌, Bool, Option, if◌then◌else◌, true, false, None, replicate, length, get_or, map, map-id, filter, filter_map, flat_map, refl, sym, ap, subst, append-nil, eqb-true, arith}
use Rattle.std.specs.List.Sorted.{IsPermutation}
use Rattle.std.proofs.lemmas.List.Concat.{flat_map-append, flat_map_single}
use Rattle.std.proofs.lemmas.List.Elements.{filter-append}
use Rattle.std.proofs.lemmas.List.Folds.{flat_map-map}
use Rattle.std.proofs.lemmas.List.Sorted.{IsPermutation-append, IsPermutation-refl, IsPermutation-trans}
use Rattle.jrql_rows.specs.rdf_terms.declared.terms.Term.{Term}
use Rattle.jrql_rows.specs.rdf_terms.declared.terms.Triple.{Triple}
use Rattle.jrql_rows.specs.jrql_ast.declared.patterns.Filter.{Filter}
use Rattle.jrql_rows.specs.jrql_ast.declared.patterns.Group.{Group}
use Rattle.jrql_rows.specs.jrql_ast.declared.patterns.PatternTriple.{PatternTriple}
use Rattle.jrql_rows.specs.jrql_ast.InForm.{variables_of}
use Rattle.jrql_rows.specs.jrql_ast.QueryAnswers.{IsSortingOf, IsSolutions, found, row_cmp}
use Rattle.jrql_rows.specs.jrql_ast.Solutions.{agree, branches_of, matches_from, unbound}
use Rattle.jrql_rows.proofs.of_jrql_ast.Permuted.{matches_permuted}
use Rattle.jrql_rows.proofs.of_jrql_ast.Rearranging.{filter_permutes, flat_map_same, flat_map_turned}
use Rattle.std.specs.declared.cmp.Ordering.{Ordering}
use Rattle.jrql_plans.specs.declared.plans.BranchPlan.{BranchPlan}
use Rattle.jrql_plans.specs.declared.plans.GroupPlan.{GroupPlan}
use Rattle.jrql_plans.specs.PlannedGroups.{ArePermutations, IsPlanFor, planned, planned_behind, planned_in, planned_once}
use Rattle.jrql_rows.specs.ColumnOrder.{AreColumnsOf}
use Rattle.jrql_eval.specs.Evaluating.{all_hold, ended_by}

filter_flat_map : {X Y : Type 0} (p : Y → Bool) (f : X → List Y) (xs : List X) → filter p (flat_map f xs) ≡ flat_map (λ x. filter p (f x)) xs
filter_flat_map p f [] = refl
filter_flat_map p f (x ∷ xs) = filter-append p (f x) (flat_map f xs) ∙ ap (λ l. filter p (f x) ++ l) (filter_flat_map p f xs)

-- lists for the elements of lists
pub flat_map_twice : {X Y Z : Type 0} (f : X → List Y) (g : Y → List Z) (xs : List X) → flat_map g (flat_map f xs) ≡ flat_map (λ x. flat_map g (f x)) xs
flat_map_twice f g [] = refl
flat_map_twice f g (x ∷ xs) = flat_map-append g (f x) (flat_map f xs) ∙ ap (λ l. flat_map g (f x) ++ l) (flat_map_twice f g xs)

-- patterns, and then others
matches_append : (graph : List Triple) (patterns others : List PatternTriple) (row : List (Option Term))
    → matches_from graph (patterns ++ others) row ≡ flat_map (matches_from graph others) (matches_from graph patterns row)
matches_append graph [] others row = sym (append-nil (matches_from graph others row))
matches_append graph (pattern ∷ patterns) others row =
    let found = filter_map (λ triple. agree pattern triple row) graph in
    flat_map_same _ _ (matches_append graph patterns others) found
    ∙ sym (flat_map_twice (matches_from graph patterns) (matches_from graph others) found)

-- lists of patterns, each in another order
each_permuted : (graph : List Triple) (row : List (Option Term)) (lists others : List (List PatternTriple)) → ArePermutations lists others
    → IsPermutation (flat_map (λ patterns. matches_from graph patterns row) lists) (flat_map (λ patterns. matches_from graph patterns row) others)
each_permuted graph row [] [] p = IsPermutation-refl []
each_permuted graph row [] (other ∷ others) p = absurd p
each_permuted graph row (list ∷ lists) [] p = absurd p
each_permuted graph row (list ∷ lists) (other ∷ others) p =
    IsPermutation-append _ _ _ _ (matches_permuted graph list other p.0 row) (each_permuted graph row lists others p.1)

-- ---- what is shared is matched first
-- the rows to which patterns lead, and branches behind them, and for which filters hold
abbrev pub passed_by : List Triple → List Filter → List BranchPlan → List (List (Option Term)) → List (List (Option Term))
passed_by graph filters branches rows = filter (all_hold filters) (flat_map (ended_by graph branches) rows)

shared_first : (graph : List Triple) (row : List (Option Term)) (shared : List PatternTriple) (branches : List BranchPlan)
    → IsPermutation (flat_map (λ patterns. matches_from graph patterns row) (map (λ branch. shared ++ branch) (planned_behind branches)))
    (flat_map (ended_by graph branches) (matches_from graph shared row))
shared_first graph row shared branches =
    subst (λ l. IsPermutation l (flat_map (ended_by graph branches) (matches_from graph shared row)))
    (sym (flat_map-map (λ patterns. matches_from graph patterns row) (λ branch. shared ++ branch) (planned_behind branches)
    ∙ flat_map_same _ _ (λ branch. matches_append graph shared branch row) (planned_behind branches)))
    (flat_map_turned (λ branch. matches_from graph branch) (planned_behind branches) (matches_from graph shared row))

-- the solutions by a plan
pub found_planned : (graph : List Triple) (group : Group) (plan : GroupPlan) → IsPlanFor group plan
    → IsPermutation (found graph group) (passed_by graph group.filters plan.branches.items (matches_from graph (planned_once plan) (unbound group)))
found_planned graph group plan p =
    let matched = λ (patterns : List PatternTriple). matches_from graph patterns (unbound group) in
    let lists = map (λ branch. group.patterns ++ branch) (branches_of group.branches) in
    let others = map (λ branch. planned_once plan ++ branch) (planned_behind plan.branches.items) in
    filter_permutes (all_hold group.filters) _ _
    (subst (λ l. IsPermutation l (flat_map (ended_by graph plan.branches.items) (matched (planned_once plan))))
    (flat_map-map matched (λ branch. group.patterns ++ branch) (branches_of group.branches))
    (IsPermutation-trans (flat_map matched lists) (flat_map matched others) _ (each_permuted graph (unbound group) lists others p.each)
    (shared_first graph (unbound group) (planned_once plan) plan.branches.items)))

-- where what has no variable is there, or isn't
pub group_planned : (graph : List Triple) (group : Group) (n : ℕ) (plan : GroupPlan) (start : List (Option Term)) (there : Bool) → n ≡ variables_of group → IsPlanFor group plan
    → start ≡ replicate n None
    → ((rest : List PatternTriple) → matches_from graph (map (λ pattern. pattern.now) plan.checks.items ++ rest) start ≡ (if there then matches_from graph rest start else []))
    → IsPermutation (found graph group) (if there then passed_by graph group.filters plan.branches.items (matches_from graph (planned plan.stages.items) start) else [])
group_planned graph group n plan start there e p s h =
    by there (subst (λ rows. IsPermutation (found graph group) (passed_by graph group.filters plan.branches.items rows)) (h (planned plan.stages.items))
    (subst (λ row. IsPermutation (found graph group) (passed_by graph group.filters plan.branches.items (matches_from graph (planned_once plan) row)))
    (sym (s ∙ ap (λ k. replicate k None) e)) (found_planned graph group plan p)))
  where
    by : (b : Bool) → IsPermutation (found graph group) (passed_by graph group.filters plan.branches.items (if b then matches_from graph (planned plan.stages.items) start else []))
        → IsPermutation (found graph group) (if b then passed_by graph group.filters plan.branches.items (matches_from graph (planned plan.stages.items) start) else [])
    by true q = q
    by false q = q

-- ---- branch by branch
pub ended_each : (graph : List Triple) (filters : List Filter) (branches : List BranchPlan) (row : List (Option Term)) → (length branches == 0) ≡ false
    → filter (all_hold filters) (ended_by graph branches row) ≡ flat_map (λ branch. filter (all_hold filters) (matches_from graph (planned_in branch) row)) branches
ended_each graph filters [] row h = absurd (true≢false h)
ended_each graph filters (branch ∷ branches) row h =
    filter_flat_map (all_hold filters) (λ patterns. matches_from graph patterns row) (map planned_in (branch ∷ branches))
    ∙ flat_map-map (λ patterns. filter (all_hold filters) (matches_from graph patterns row)) planned_in (branch ∷ branches)

pub ended_none : {X : Type 0} (xs : List X) → (length xs == 0) ≡ true → xs ≡ []
ended_none [] h = refl
ended_none (x ∷ xs) h = let e = eqb-true (length (x ∷ xs)) 0 h in absurd (omega (arith, e))

-- one branch: where what it checks is there, or isn't
pub branch_led : (graph : List Triple) (filters : List Filter) (branch : BranchPlan) (row : List (Option Term)) (there : Bool)
    → ((rest : List PatternTriple) → matches_from graph (map (λ pattern. pattern.now) branch.checks.items ++ rest) row ≡ (if there then matches_from graph rest row else []))
    → filter (all_hold filters) (matches_from graph (planned_in branch) row) ≡ (if there then passed_by graph filters [] (matches_from graph (planned branch.stages.items) row) else [])
branch_led graph filters branch row there h = ap (filter (all_hold filters)) (h (planned branch.stages.items)) ∙ by there
  where
    by : (b : Bool) → filter (all_hold filters) (if b then matches_from graph (planned branch.stages.items) row else [])
        ≡ (if b then passed_by graph filters [] (matches_from graph (planned branch.stages.items) row) else [])
    by true = ap (filter (all_hold filters)) (sym (flat_map_single (λ next. next) (matches_from graph (planned branch.stages.items) row) ∙ map-id _))
    by false = refl

-- how far a search goes behind the end of stages
abbrev pub depth_behind : List BranchPlan → ℕ
depth_behind [] = 0
depth_behind (branch ∷ branches) = 4 * length branch.stages.items + 3 + depth_behind branches

pub depth_at : (branches : List BranchPlan) (i : ℕ) (d : BranchPlan) → i < length branches → 4 * length (get_or branches i d).stages.items + 3 ≤ depth_behind branches
depth_at [] i d l = absurd (omega (arith, l))
depth_at (branch ∷ branches) zero d l = omega arith
depth_at (branch ∷ branches) (suc i) d l = let rest = depth_at branches i d (omega (arith, l)) in omega (arith, rest)

-- ---- sorting what has another order
pub sorting_of : {X : Type 0} (order : X → X → Ordering) (given moved sorted : List X) → IsPermutation given moved → IsSortingOf order moved sorted → IsSortingOf order given sorted
sorting_of order given moved sorted p s = record { same = IsPermutation-trans given moved sorted p s.same; ascending = s.ascending }

pub solutions_are : (graph : List Triple) (group : Group) (columns : List ℕ) (moved sorted : List (List (Option Term))) → AreColumnsOf group.names group.hidden columns
    → IsPermutation (found graph group) moved → IsSortingOf (row_cmp columns) moved sorted → IsSolutions graph group sorted
solutions_are graph group columns moved sorted a p s = record {
  columns = columns;
  by_columns = record { named = a.named; by_name = a.by_name; whole = a.whole };
  sorted = sorting_of (row_cmp columns) (found graph group) moved sorted p s;
}
