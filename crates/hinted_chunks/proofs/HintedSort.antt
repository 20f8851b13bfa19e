-- What is sorted by hints is sorted.
use Rattle.std.proofs.Common.{◌≡◌, ◌∙◌, ℕ, zero, suc, ◌+◌, ◌-◌, ◌<◌, List, [], ◌∷◌, ◌++◌, false, length, get_or, map, reverse, take, min, is_some, Some, None, sym, subst, ap, inl, inr, arith}
use Rattle.std.proofs.lemmas.Bool.{cases_lt, false≢true, true≢false}
use Rattle.std.proofs.lemmas.Cmp.{nat_cmp_total, on_total, then_total}
use Rattle.std.proofs.lemmas.List.{length-map, get_or-map, map-append}
use Rattle.std.proofs.lemmas.List.Sorted.{Contains-permutation, IsPermutation-map, IsPermutation-reverse, IsPermutation-sym, IsPermutation-trans}
use Rattle.std.proofs.lemmas.Option.{get_or_from_slice_get, slice_get-get_or, slice_get_within}
use Rattle.std.specs.Cmp.{IsTotalOrder, nat_cmp_is}
use Rattle.std.specs.Cmp.Lexicographic.{slice_cmp}
use Rattle.std.specs.List.{All, Contains, slice_get}
use Rattle.std.specs.List.Sorted.{IsPermutation, IsSorted}
use Rattle.std.specs.Ordering.{is_lt, nat_cmp, ordering_reverse, ordering_then}
use Rattle.std.specs.declared.cmp.Ordering.{Ordering}
use Rattle.std.specs.declared.cmp.Ordering.TheVariants.{Less, Equal}
use Rattle.tree_clock.specs.Lists.{Has}
use Rattle.mld_ops.proofs.AscendingLaws.{contains_from_has, has_append, has_at}
use Rattle.hinted_chunks.specs.Hinted.{ShareText, hint_of}
use Rattle.hinted_chunks.specs.HintedOrder.{hinted_cmp}
use Rattle.hinted_chunks.proofs.Hinting.{less_by_hint}
use Rattle.hinted_chunks.proofs.Sharing.{same_before, shared_from_one, shared_part}

has_from_contains : {X : Type 0} (xs : List X) (x : X) → Contains xs x → Has xs x
has_from_contains xs x c = subst (λ y. Has xs y) c.2 (has_at xs c.0 x c.1)

has_permuted : {X : Type 0} (xs ys : List X) (x : X) → IsPermutation xs ys → Has xs x → Has ys x
has_permuted xs ys x same h = has_from_contains ys x (Contains-permutation xs ys x same (contains_from_has xs x h))

-- what is left of elements without their hints
abbrev bare : {X : Type 0} → List (ℕ × X) → List X
bare hinted = map (λ pair. pair.1) hinted

-- ---- the same elements

turned : {X : Type 0} (old xs : List X) → old ≡ reverse xs → IsPermutation old xs
turned old xs e = subst (λ zs. IsPermutation zs xs) (sym e) (IsPermutation-sym xs (reverse xs) (IsPermutation-reverse xs))

-- what was moved to its hints
pub moved_once : {X : Type 0} (old : List X) (hinted : List (ℕ × X)) → old ≡ reverse (map (λ pair. pair.1) hinted) → IsPermutation old (map (λ pair. pair.1) hinted)
moved_once old hinted e = turned old (bare hinted) e

-- moved back, and to its hints again
module _ {X : Type 0} (old between : List X) (first second : List (ℕ × X)) (e : old ≡ reverse (map (λ pair. pair.1) first)) (f : between ≡ map (λ pair. pair.1) first)
    (g : between ≡ reverse (map (λ pair. pair.1) second)) where
  both_hinted : IsPermutation (bare first) (bare second)
  both_hinted = subst (λ zs. IsPermutation zs (bare second)) f (turned between (bare second) g)

  pub moved_twice : IsPermutation old (map (λ pair. pair.1) second)
  moved_twice = IsPermutation-trans old (bare first) (bare second) (turned old (bare first) e) both_hinted

  pub shared_twice : (text : X → List ℕ) (mark : ℕ) → ShareText text mark (map (λ pair. pair.1) first) → ShareText text mark (map (λ pair. pair.1) second)
  shared_twice text mark shared =
      shared_part text mark (bare first) (bare second) (λ x h. has_permuted (bare second) (bare first) x (IsPermutation-sym (bare first) (bare second) both_hinted) h) shared

-- and sorted there, and moved back
pub moved_sorted : {X : Type 0} (old new : List X) (hinted sorted : List (ℕ × X)) → IsPermutation old (map (λ pair. pair.1) hinted) → IsPermutation hinted sorted
    → new ≡ map (λ pair. pair.1) sorted → IsPermutation old new
moved_sorted {X} old new hinted sorted moved same f =
    let element : ℕ × X → X = λ pair. pair.1 in
    subst (λ zs. IsPermutation old zs) (sym f) (IsPermutation-trans old (bare hinted) (bare sorted) moved (IsPermutation-map element hinted sorted same))

-- ---- one element more

no_last : {X : Type 0} (hinted : List (ℕ × X)) (y : X) → None ≡ slice_get hinted (length hinted - 1) → Has (map (λ pair. pair.1) hinted) y → ⊥
no_last [] y e h = h
no_last (pair ∷ hinted) y e h = false≢true (ap is_some (e ∙ slice_get-get_or (pair ∷ hinted) (length (pair ∷ hinted) - 1) pair (omega arith)))

module _ {X : Type 0} (text : X → List ℕ) (hinted : List (ℕ × X)) (element : X) (shared : ℕ) where
  -- what it shares with the last, it shares with all
  pub shared_beside : (last : ℕ × X) (more both : ℕ) → Some last ≡ slice_get hinted (length hinted - 1) → ShareText text shared (map (λ pair. pair.1) hinted)
      → take more (text last.1) ≡ take more (text element) → both ≡ min shared more → ShareText text both (element ∷ map (λ pair. pair.1) hinted)
  shared_beside last more both e s f m = shared_from_one text both (element ∷ bare hinted) element of_each
    where
      last_has : Has (bare hinted) last.1
      last_has =
          let within : length hinted - 1 < length hinted = slice_get_within hinted (length hinted - 1) last (sym e) in
          let own : get_or hinted (length hinted - 1) last ≡ last = get_or_from_slice_get hinted (length hinted - 1) last last (sym e) in
          let n : length (bare hinted) ≡ length hinted = length-map hinted (λ pair. pair.1) in
          let at = get_or-map (λ (pair : ℕ × X). pair.1) hinted (length hinted - 1) last last.1 within in
          subst (λ y. Has (bare hinted) y) (at ∙ ap (λ (pair : ℕ × X). pair.1) own) (has_at (bare hinted) (length hinted - 1) last.1 (omega (arith, within, n)))

      with_last : take both (text element) ≡ take both (text last.1)
      with_last = sym (same_before both more (text last.1) (text element) (omega (arith, m)) f)

      of_each : (y : X) → Has (element ∷ bare hinted) y → take both (text element) ≡ take both (text y)
      of_each y (inl k) = ap (λ w. take both (text w)) k
      of_each y (inr k) = with_last ∙ same_before both shared (text last.1) (text y) (omega (arith, m)) (s last.1 y last_has k)

  -- where it is the first
  pub shared_alone : None ≡ slice_get hinted (length hinted - 1) → ShareText text shared (element ∷ map (λ pair. pair.1) hinted)
  shared_alone e = shared_from_one text shared (element ∷ bare hinted) element of_each
    where
      none_there : (y : X) → Has (bare hinted) y → ⊥
      none_there y k = no_last hinted y e k

      of_each : (y : X) → Has (element ∷ bare hinted) y → take shared (text element) ≡ take shared (text y)
      of_each y (inl k) = ap (λ w. take shared (text w)) k
      of_each y (inr k) = absurd (none_there y k)

  -- put behind the others
  pub shared_pushed : (more : List (ℕ × X)) (hint : ℕ) → more ≡ hinted ++ (hint, element) ∷ [] → ShareText text shared (element ∷ map (λ pair. pair.1) hinted)
      → ShareText text shared (map (λ pair. pair.1) more)
  shared_pushed more hint e s = subst (λ zs. ShareText text shared (bare zs)) (sym e) (shared_part text shared (element ∷ bare hinted) (bare (hinted ++ (hint, element) ∷ [])) there s)
    where
      there : (x : X) → Has (bare (hinted ++ (hint, element) ∷ [])) x → Has (element ∷ bare hinted) x
      there x h = elim (has_append (bare hinted) (element ∷ []) x (subst (λ zs. Has zs x) (map-append (λ (pair : ℕ × X). pair.1) hinted ((hint, element) ∷ [])) h)) [
        | inl k ↦ inr k
        | inr (inl k) ↦ inl k
        | inr (inr k) ↦ absurd k
      ]

-- ---- what is sorted so

module _ {X : Type 0} (order : X → X → Ordering) (total : IsTotalOrder order) where
  pub hinted_total : IsTotalOrder (hinted_cmp order)
  hinted_total = then_total (on_total (λ (p : ℕ × X). p.0) nat_cmp_total) (on_total (λ (p : ℕ × X). p.1) total)

  -- of two neighbours
  module _ (text : X → List ℕ) (by_text : (a b : X) (r : Ordering) → ¬ (r ≡ Equal) → slice_cmp nat_cmp (text a) (text b) ≡ r → order a b ≡ r) (mark : ℕ) where
    not_before : (a b : X) (i j : ℕ) → take mark (text a) ≡ take mark (text b) → i ≡ hint_of text mark a → j ≡ hint_of text mark b
        → is_lt (hinted_cmp order (j, b) (i, a)) ≡ false → is_lt (order b a) ≡ false
    not_before a b i j s e f h = elim (cases_lt j i) [
      | inl l ↦ absurd (true≢false (sym (ap (λ o. is_lt (ordering_then o (order b a))) (sym (nat_cmp_is j i Less l))) ∙ h))
      | inr l ↦ elim (cases_lt i j) [
        | inl m ↦
            let less = by_text a b Less (λ q. true≢false (ap is_lt q)) (less_by_hint 8 mark (text a) (text b) s (omega (arith, m, e, f))) in
            ap is_lt (total.antisymm b a ∙ ap ordering_reverse less)
        | inr m ↦
            let same : j ≡ i = omega (arith, l, m) in
            ap (λ o. is_lt (ordering_then o (order b a))) (nat_cmp_is j i Equal same) ∙ h
      ]
    ]

    -- the elements of a sorted list of neighbours, each with its hint
    pub sorted_by_hints : (given : List X) (hinted : List (ℕ × X)) → ShareText text mark given → IsPermutation given (map (λ p. p.1) hinted)
        → All (λ p. p.0 ≡ hint_of text mark p.1) hinted → IsSorted (hinted_cmp order) hinted → IsSorted order (map (λ p. p.1) hinted)
    sorted_by_hints given hinted shared same hints sorted k d l g =
        let n : length (map (λ p. p.1) hinted) ≡ length hinted = length-map hinted (λ p. p.1) in
        let here : k + 1 < length hinted = omega (arith, g, n) in
        let p = get_or hinted k (0, d) in
        let q = get_or hinted (k + 1) (0, d) in
        let at = get_or-map (λ (p : ℕ × X). p.1) hinted k (0, d) d (omega (arith, here)) in
        let next = get_or-map (λ (p : ℕ × X). p.1) hinted (k + 1) (0, d) d here in
        rw (at, next) (not_before p.1 q.1 p.0 q.0 (shared p.1 q.1 (there k (omega (arith, here))) (there (k + 1) here)) (hints k (0, d) (omega (arith, here))) (hints (k + 1) (0, d) here)
        (sorted k (0, d) l here))
      where
        there : (i : ℕ) → i < length hinted → Has given (get_or hinted i (0, d)).1
        there i m =
            let n : length (map (λ p. p.1) hinted) ≡ length hinted = length-map hinted (λ p. p.1) in
            let e = get_or-map (λ (p : ℕ × X). p.1) hinted i (0, d) d m in
            let x = (get_or hinted i (0, d)).1 in
            let has = subst (λ y. Has (map (λ p. p.1) hinted) y) e (has_at (map (λ p. p.1) hinted) i d (omega (arith, m, n))) in
            has_permuted (map (λ p. p.1) hinted) given x (IsPermutation-sym given (map (λ p. p.1) hinted) same) has
