-- Where both sides of a filter are bound and it doesn't hold, it holds of no row behind.
use Rattle.std.proofs.Common.{◌≡◌, ◌∙◌, List, [], ◌∷◌, ◌++◌, Bool, true, false, ◌&&◌, cond, Option, None, Some, Bor, All, filter, filter_map, flat_map, replicate, map-id, append-nil, ℕ, arith, refl, sym, ap, subst, inl, inr, true≢false}
use Rattle.std.specs.List.{cons_option}
use Rattle.std.specs.Option.{option_map_or, option_zip}
use Rattle.std.proofs.lemmas.Bool.{cases_Bool}
use Rattle.std.proofs.lemmas.List.Concat.{flat_map_single}
use Rattle.std.proofs.lemmas.List.Elements.{All-tail, filter-append}
use Rattle.jrql_rows.specs.rdf_terms.declared.terms.Term.{Term}
use Rattle.jrql_rows.specs.rdf_terms.declared.terms.Triple.{Triple}
use Rattle.jrql_rows.specs.tree_clock.Lists.{Has}
use Rattle.jrql_rows.specs.jrql_ast.declared.patterns.Filter.{Filter}
use Rattle.jrql_rows.specs.jrql_ast.declared.patterns.Group.{Group}
use Rattle.jrql_rows.specs.jrql_ast.declared.patterns.PatternTriple.{PatternTriple}
use Rattle.jrql_rows.specs.jrql_ast.FilterMeaning.{compares_so, holds, side_value}
use Rattle.jrql_rows.specs.jrql_ast.InForm.{variables_of}
use Rattle.jrql_rows.specs.jrql_ast.Solutions.{agree, branches_of, matches_from}
use Rattle.jrql_rows.proofs.of_jrql_ast.BoundSlots.{agree_later}
use Rattle.jrql_rows.specs.jrql_ast.QueryAnswers.{found}
use Rattle.jrql_plans.specs.declared.plans.BranchPlan.{BranchPlan}
use Rattle.jrql_plans.specs.declared.plans.PatternStage.{PatternStage}
use Rattle.jrql_plans.specs.PlannedGroups.{checks_of, planned, planned_behind}
use Rattle.jrql_eval.specs.declared.searching.Ending.{Ending}
use Rattle.jrql_eval.specs.Evaluating.{all_hold, all_can_hold, can_hold, ended_by, led_from}
use Rattle.jrql_eval.proofs.BranchLaws.{flat_map_twice}

-- both sides of a filter are bound in a row, and it doesn't hold
record Refuses (row : List (Option Term)) (test : Filter) : Type 0 where
  left : Term
  right : Term
  on_left : side_value test.left row ≡ Some left
  on_right : side_value test.right row ≡ Some right
  fails : compares_so test.op left right ≡ false

refuses_from : (test : Filter) (row : List (Option Term)) → can_hold test row ≡ false → Refuses row test
refuses_from test row h = by (side_value test.left row) (side_value test.right row) refl refl h
  where
    by : (l r : Option Term) → side_value test.left row ≡ l → side_value test.right row ≡ r
        → option_map_or (λ both. compares_so test.op both.0 both.1) (option_zip l r) true ≡ false → Refuses row test
    by None None el er h = absurd (true≢false h)
    by None (Some y) el er h = absurd (true≢false h)
    by (Some x) None el er h = absurd (true≢false h)
    by (Some x) (Some y) el er h = record { left = x; right = y; on_left = el; on_right = er; fails = h }

-- it stays so
refuses_later : (pattern : PatternTriple) (triple : Triple) (row next : List (Option Term)) (test : Filter) → agree pattern triple row ≡ Some next → Refuses row test → Refuses next test
refuses_later pattern triple row next test h r = record {
  left = r.left;
  right = r.right;
  on_left = agree_later pattern triple row next h test.left r.left r.on_left;
  on_right = agree_later pattern triple row next h test.right r.right r.on_right;
  fails = r.fails;
}

holds_not : (row : List (Option Term)) (test : Filter) → Refuses row test → holds test row ≡ false
holds_not row test r = (λ i. option_map_or (λ both. compares_so test.op both.0 both.1) (option_zip (r.on_left i) (r.on_right i)) false) ∙ r.fails

-- where one doesn't hold, not all do
not_all_hold : (filters : List Filter) (test : Filter) (row : List (Option Term)) → Has filters test → holds test row ≡ false → all_hold filters row ≡ false
not_all_hold [] test row has h = absurd has
not_all_hold (first ∷ filters) test row (inl e) h = ap (λ b. b && all_hold filters row) (ap (λ x. holds x row) e ∙ h)
not_all_hold (first ∷ filters) test row (inr has) h = ap (λ b. holds first row && b) (not_all_hold filters test row has h) ∙ and_false (holds first row)
  where
    and_false : (b : Bool) → (b && false) ≡ false
    and_false true = refl
    and_false false = refl

some_refuses : (tested : List (Bor Filter)) (row : List (Option Term)) → all_can_hold tested row ≡ false → (test : Bor Filter) × Has tested test × (can_hold test.now row ≡ false)
some_refuses [] row h = absurd (true≢false h)
some_refuses (first ∷ tested) row h = elim (cases_Bool (can_hold first.now row)) [
  | inl passes ↦ let r = some_refuses tested row (sym (ap (λ b. b && all_can_hold tested row) passes) ∙ h) in (r.0, inr r.1, r.2)
  | inr fails ↦ (first, inl refl, fails)
]

member_of : (filters : List Filter) (tested : List (Bor Filter)) (test : Bor Filter) → All (λ t. Has filters t.now) tested → Has tested test → Has filters test.now
member_of filters [] test all h = absurd h
member_of filters (first ∷ tested) test all (inl e) = subst (λ (t : Bor Filter). Has filters t.now) e (all 0 first (omega arith))
member_of filters (first ∷ tested) test all (inr h) = member_of filters tested test (All-tail (λ (t : Bor Filter). Has filters t.now) first tested all) h

-- no row passes where none that comes of an element does
filtered_none : {X Y Z : Type 0} (p : Z → Bool) (m : Y → List Z) (h : X → Option Y) (xs : List X) → ((x : X) (y : Y) → h x ≡ Some y → filter p (m y) ≡ [])
    → filter p (flat_map m (filter_map h xs)) ≡ []
filtered_none p m h [] none = refl
filtered_none {X} {Y} {Z} p m h (x ∷ xs) none = by (h x) refl (filtered_none p m h xs none)
  where
    by : (o : Option Y) → h x ≡ o → filter p (flat_map m (filter_map h xs)) ≡ [] → filter p (flat_map m (cons_option o (filter_map h xs))) ≡ []
    by None e rest = rest
    by (Some y) e rest = filter-append p (m y) (flat_map m (filter_map h xs)) ∙ (λ i. none x y e i ++ rest i)

module _ (graph : List Triple) (filters : List Filter) (test : Filter) (has : Has filters test) where
  -- so it is with all rows to which patterns lead, where it is so with what comes of each
  lost : (end : List (Option Term) → List (List (Option Term))) → ((row : List (Option Term)) → Refuses row test → filter (all_hold filters) (end row) ≡ [])
      → (patterns : List PatternTriple) (row : List (Option Term)) → Refuses row test → filter (all_hold filters) (flat_map end (matches_from graph patterns row)) ≡ []
  lost end none [] row r = ap (filter (all_hold filters)) (append-nil (end row)) ∙ none row r
  lost end none (pattern ∷ patterns) row r =
      ap (filter (all_hold filters)) (flat_map_twice (matches_from graph patterns) end (filter_map (λ triple. agree pattern triple row) graph))
      ∙ filtered_none (all_hold filters) (λ next. flat_map end (matches_from graph patterns next)) (λ triple. agree pattern triple row) graph
      (λ triple next h. lost end none patterns next (refuses_later pattern triple row next test h r))

  lost_alone : (row : List (Option Term)) → Refuses row test → filter (all_hold filters) (row ∷ []) ≡ []
  lost_alone row r = ap (λ b. cond b (row ∷ []) []) (not_all_hold filters test row has (holds_not row test r))

  lost_each : {X : Type 0} (patterns : X → List PatternTriple) (xs : List X) (row : List (Option Term)) → Refuses row test
      → filter (all_hold filters) (flat_map (λ x. matches_from graph (patterns x) row) xs) ≡ []
  lost_each patterns [] row r = refl
  lost_each patterns (x ∷ xs) row r =
      filter-append (all_hold filters) (matches_from graph (patterns x) row) (flat_map (λ y. matches_from graph (patterns y) row) xs)
      ∙ (λ i. lost_by (patterns x) row r i ++ lost_each patterns xs row r i)
    where
      lost_by : (all : List PatternTriple) (row : List (Option Term)) → Refuses row test → filter (all_hold filters) (matches_from graph all row) ≡ []
      lost_by all row r =
          ap (filter (all_hold filters)) (sym (flat_map_single (λ next. next) (matches_from graph all row) ∙ map-id (matches_from graph all row))) ∙ lost (λ next. next ∷ []) lost_alone all row r

-- no row behind this one passes, where one of the filters can't hold
module _ (graph : List Triple) (filters : List Filter) (tested : List (Bor Filter)) (row : List (Option Term)) (within : All (λ t. Has filters t.now) tested) (h : all_can_hold tested row ≡ false) where
  none_behind : (branches : List BranchPlan) (patterns : List PatternTriple) → filter (all_hold filters) (flat_map (ended_by graph branches) (matches_from graph patterns row)) ≡ []
  none_behind branches patterns =
      let r = some_refuses tested row h in
      let has = member_of filters tested r.0 within r.1 in
      lost graph filters r.0.now has (ended_by graph branches) (λ next refuses. lost_each graph filters r.0.now has (λ branch. branch) (planned_behind branches) next refuses) patterns row
      (refuses_from r.0.now row r.2)

  none_of_all : (patterns : List PatternTriple) (branches : List (List PatternTriple))
      → filter (all_hold filters) (flat_map (λ branch. matches_from graph (patterns ++ branch) row) branches) ≡ []
  none_of_all patterns branches =
      let r = some_refuses tested row h in
      lost_each graph filters r.0.now (member_of filters tested r.0 within r.1) (λ branch. patterns ++ branch) branches row (refuses_from r.0.now row r.2)

-- so nothing comes of a stage
pub led_refused : (graph : List Triple) (ending : Ending) (given tested : List (Bor Filter)) (stage : PatternStage) (stages : List PatternStage) (o : Option (List (Option Term))) (row next : List (Option Term))
    → o ≡ Some next → given ≡ tested → row ≡ next → All (λ t. Has ending.filters.now t.now) tested → all_can_hold given row ≡ false → led_from graph ending stage stages o ≡ []
led_refused graph ending given tested stage stages o row next e g r within h =
    ap (led_from graph ending stage stages) e
    ∙ none_behind graph ending.filters.now tested next within ((λ i. all_can_hold (sym g i) (sym r i)) ∙ h) ending.branches.now (checks_of stage ++ planned stages)

-- nor of a group
pub group_refused : (graph : List Triple) (group : Group) (given tested : List (Bor Filter)) (n : ℕ) (row start : List (Option Term)) → n ≡ variables_of group → start ≡ replicate n None
    → given ≡ tested → row ≡ start → All (λ t. Has group.filters t.now) tested → all_can_hold given row ≡ false → found graph group ≡ []
group_refused graph group given tested n row start e s g r within h =
    none_of_all graph group.filters tested (replicate (variables_of group) None) within ((λ i. all_can_hold (sym g i) (sym (r ∙ s ∙ ap (λ k. replicate k None) e) i)) ∙ h)
    group.patterns (branches_of group.branches)
