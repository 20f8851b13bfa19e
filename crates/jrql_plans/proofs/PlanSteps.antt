-- Stages that are taken out of the patterns that are left: what is planned and what is left are all patterns.
use Rattle.std.proofs.Common.{◌≡◌, ◌∙◌, ℕ, ◌<◌, ◌≤◌, inl, inr, cond, List, [], ◌∷◌, ◌++◌, Bool, true, false, not, length, get_or, map, filter, remove, All, Bor, refl, sym, ap, subst, append_assoc, zero, suc, arith}
use Rattle.std.proofs.lemmas.List.Elements.{All-filter, All-tail, filter_passes}
use Rattle.std.proofs.lemmas.List.Sorted.{IsPermutation-refl, IsPermutation-trans, IsPermutation-map, IsPermutation-append_right, IsPermutation-cons, IsPermutation-remove, IsPermutation-filter_both, All-permutation, length_permutation}
use Rattle.std.specs.List.Sorted.{IsPermutation}
use Rattle.tree_clock.specs.Lists.{Has}
use Rattle.jrql_ast.specs.declared.patterns.Filter.{Filter}
use Rattle.jrql_ast.specs.declared.patterns.PatternTriple.{PatternTriple}
use Rattle.jrql_ast.specs.InForm.{IsPatternWithin}
use Rattle.jrql_plans.specs.declared.plans.PatternStage.{PatternStage}
use Rattle.jrql_plans.specs.PlannedGroups.{AreTestsOf, checks_of, planned}
use Rattle.jrql_plans.specs.Planning.{is_whole, bound_behind, AreSortedOut, AreTakenStages, IsTakenStage, IsWholeWithin}
use Rattle.jrql_plans.proofs.Planned.{one_staged, bound_behind_more, planned_more, bound_length}

abbrev pub now_of : List (Bor PatternTriple) → List PatternTriple
now_of patterns = map (λ pattern. pattern.now) patterns

-- ---- what is sorted out
map_append : {X Y : Type 0} (f : X → Y) (xs ys : List X) → map f (xs ++ ys) ≡ map f xs ++ map f ys
map_append f [] ys = refl
map_append f (x ∷ xs) ys = ap (λ l. f x ∷ l) (map_append f xs ys)

-- those that pass a test, and the others
pub parted : {X Y : Type 0} (f : X → Y) (passes : X → Bool) (all passed others : List X) → AreSortedOut passes all passed others → IsPermutation (map f all) (map f passed ++ map f others)
parted f passes all passed others s =
    rw (s.those, s.left) (subst (IsPermutation (map f all)) (map_append f (filter passes all) (filter (λ x. not (passes x)) all))
    (IsPermutation-map f all _ (IsPermutation-filter_both passes (λ x. not (passes x)) (λ x. refl) all)))

-- what passes is wholly bound
pub whole_taken : (bound : List Bool) (left whole others : List (Bor PatternTriple)) → AreSortedOut (λ p. is_whole bound p.now) left whole others → All (λ p. IsPatternWithin (length bound) 0 p.now) left
    → All (λ p. IsWholeWithin bound p.now) whole
whole_taken bound left whole others s within = rw s.those (λ k d l. record {
  within = All-filter (λ p. is_whole bound p.now) (λ p. IsPatternWithin (length bound) 0 p.now) left within k d l;
  whole = filter_passes (λ p. is_whole bound p.now) left k d l;
})

-- what all have, those that are taken out have, and those that are left
pub taken_have : {X : Type 0} (P : X → Type 0) (passes : X → Bool) (all passed others : List X) → AreSortedOut passes all passed others → All P all → All P passed
taken_have P passes all passed others s h = rw s.those (All-filter passes P all h)

pub others_have : {X : Type 0} (P : X → Type 0) (passes : X → Bool) (all passed others : List X) → AreSortedOut passes all passed others → All P all → All P others
others_have P passes all passed others s h = rw s.left (All-filter (λ x. not (passes x)) P all h)

no_longer : {X : Type 0} (p : X → Bool) (xs : List X) → length (filter p xs) ≤ length xs
no_longer p [] = omega arith
no_longer p (x ∷ xs) = by (p x) (no_longer p xs)
  where
    by : (b : Bool) → length (filter p xs) ≤ length xs → length (cond b (x ∷ filter p xs) (filter p xs)) ≤ suc (length xs)
    by true h = omega (arith, h)
    by false h = omega (arith, h)

pub fewer_left : (left others : List (Bor PatternTriple)) (p : Bor PatternTriple → Bool) (pattern : Bor PatternTriple) (i : ℕ) → i < length left → pattern ≡ get_or left i pattern
    → others ≡ filter p (remove left i) → length others < length left
fewer_left left others p pattern i l is e =
    let whole = length_permutation left (pattern ∷ remove left i) (IsPermutation-remove left i pattern l is) in
    let most = no_longer p (remove left i) in
    let same = ap length e in
    omega (arith, whole, most, same)

-- ---- stages
-- none yet
pub stages_begin : (left : List (Bor PatternTriple)) (bound : List Bool) → All (λ p. IsPatternWithin (length bound) 0 p.now) left → AreTakenStages left bound [] left bound
stages_begin left bound within = record {
  each = IsPermutation-refl (now_of left);
  marks = refl;
  places = refl;
  staged = tt;
  within = within;
}

-- and one more
pub stages_more : (all left others : List (Bor PatternTriple)) (start bound next : List Bool) (stages : List PatternStage) (stage : PatternStage) → AreTakenStages all start stages left bound
    → IsTakenStage left bound stage others next → AreTakenStages all start (stages ++ stage ∷ []) others next
stages_more all left others start bound next stages stage p t =
    let i = t.place in
    let moved = IsPermutation-remove left i stage.pattern t.there t.taken in
    let within_all = All-permutation (λ q. IsPatternWithin (length bound) 0 q.now) left (stage.pattern ∷ remove left i) moved p.within in
    let same_places = ap length t.marks ∙ bound_length bound stage.pattern.now in
    let within_rest : All (λ q. IsPatternWithin (length next) 0 q.now) (remove left i) = rw same_places (All-tail (λ (q : Bor PatternTriple). IsPatternWithin (length bound) 0 q.now) stage.pattern (remove left i) within_all) in
    let within_first : IsPatternWithin (length bound) 0 stage.pattern.now = within_all 0 stage.pattern (omega arith) in
    record {
      each = IsPermutation-trans _ _ _ p.each (subst (IsPermutation (planned stages ++ now_of left)) bracketed
          (IsPermutation-append_right (planned stages) (now_of left) (stage.pattern.now ∷ (checks_of stage ++ now_of others))
          (IsPermutation-trans (now_of left) (now_of (stage.pattern ∷ remove left i)) _ (IsPermutation-map (λ q. q.now) left (stage.pattern ∷ remove left i) moved)
          (IsPermutation-cons stage.pattern.now _ _ (parted (λ q. q.now) (λ q. is_whole next q.now) (remove left i) stage.checks.items others t.sorted_out)))));
      marks = t.marks ∙ ap (bound_behind stage.pattern.now) p.marks ∙ sym (bound_behind_more stages stage start);
      places = same_places ∙ p.places;
      staged = one_staged stages stage start p.staged (subst (λ z. IsPatternWithin (length z) 0 stage.pattern.now) p.marks within_first)
          (subst (λ z. All (λ q. IsWholeWithin z q.now) stage.checks.items) (t.marks ∙ ap (bound_behind stage.pattern.now) p.marks)
          (whole_taken next (remove left i) stage.checks.items others t.sorted_out within_rest));
      within = others_have (λ q. IsPatternWithin (length next) 0 q.now) (λ q. is_whole next q.now) (remove left i) stage.checks.items others t.sorted_out within_rest;
    }
  where
    bracketed : planned stages ++ (stage.pattern.now ∷ (checks_of stage ++ now_of others)) ≡ planned (stages ++ stage ∷ []) ++ now_of others
    bracketed = sym (ap (λ z. z ++ now_of others) (planned_more stages stage) ∙ append_assoc (planned stages) (stage.pattern.now ∷ checks_of stage) (now_of others))

-- ---- filters
-- a stage more
pub tests_more : (filters : List Filter) (stages : List PatternStage) (stage : PatternStage) → AreTestsOf filters stages → All (λ t. Has filters t.now) stage.tests.items → AreTestsOf filters (stages ++ stage ∷ [])
tests_more filters [] stage all here = (here, tt)
tests_more filters (first ∷ stages) stage all here = (all.0, tests_more filters stages stage all.1 here)

-- all filters are of those that they are
pub all_members : (filters : List Filter) (all : List (Bor Filter)) → map (λ x. x.now) all ≡ filters → All (λ t. Has filters t.now) all
all_members filters all e k d l = subst (λ (z : List Filter). Has z (get_or all k d).now) e (has_place all k d l)
  where
    has_place : (xs : List (Bor Filter)) (k : ℕ) (d : Bor Filter) → k < length xs → Has (map (λ x. x.now) xs) (get_or xs k d).now
    has_place [] k d l = absurd (omega (arith, l))
    has_place (x ∷ xs) zero d l = inl refl
    has_place (x ∷ xs) (suc k) d l = inr (has_place xs k d (omega (arith, l)))
