-- Lists in an order in which elements may stand several times: how often they do, what comes in and what goes out.
use Rattle.std.proofs.Common.{◌≡◌, ◌∙◌, ℕ, zero, suc, ◌+◌, ◌-◌, ◌<◌, ◌≤◌, ◌⊎◌, min, List, [], ◌∷◌, ◌++◌, length, Bool, true, false, cond, All, get_or, filter, refl, sym, ap, subst, inl, inr, true≢false, append_assoc, length-append, arith}
use Rattle.std.specs.Bool.{Decides}
use Rattle.std.specs.Cmp.{IsTotalOrder}
use Rattle.std.specs.List.{AllByRecursion}
use Rattle.std.specs.List.Sorted.{IsPermutation, IsSorted}
use Rattle.std.specs.Ordering.{is_eq, is_gt, is_lt, ordering_reverse}
use Rattle.std.specs.declared.cmp.Ordering.{Ordering}
use Rattle.std.specs.declared.cmp.Ordering.TheVariants.{Less, Equal, Greater}
use Rattle.std.proofs.lemmas.Bool.{cases_Bool}
use Rattle.std.proofs.lemmas.Cmp.{tied_itself, upto}
use Rattle.std.proofs.lemmas.List.Sorted.{IsPermutation-refl, IsPermutation-sym, IsPermutation-trans, IsPermutation-cons, IsPermutation-middle, length_permutation, ranks_by, sorted_far}
use Rattle.std.proofs.lemmas.Map.Lookups.{CmpEqualImpliesEq}
use Rattle.jrql_ast.specs.QueryAnswers.{IsSortingOf}
use Rattle.jrql_ast.proofs.Rearranging.{filter_permutes}
use Rattle.jrql_ast.proofs.Sortings.{by_recursion, one_sorting}
use Rattle.reply_rows.specs.Rising.{IsUpto, IsRising, LeavesOut, SkipsTo}
use Rattle.reply_rows.proofs.Filtered.{all_append, all_back, all_front, all_weaker, filter_append}

module _ {X : Type 0} (E : X → X → Bool) (decides : (x y : X) → Decides (E x y) (x ≡ y)) where
  -- ---- how often an element stands in a list

  abbrev pub often : X → List X → ℕ
  often x xs = length (filter (E x) xs)

  pub often_append : (x : X) (xs ys : List X) → often x (xs ++ ys) ≡ often x xs + often x ys
  often_append x xs ys = ap length (filter_append (E x) xs ys) ∙ length-append (filter (E x) xs) (filter (E x) ys)

  pub often_permuted : (x : X) (xs ys : List X) → IsPermutation xs ys → often x xs ≡ often x ys
  often_permuted x xs ys h = sym (length_permutation (filter (E x) xs) (filter (E x) ys) (filter_permutes (E x) xs ys h))

  -- one that is the element, and one that isn't
  pub often_same : (x y : X) (xs : List X) → x ≡ y → often x (y ∷ xs) ≡ suc (often x xs)
  often_same x y xs e = ap (λ b. length (cond b (y ∷ filter (E x) xs) (filter (E x) xs))) ((decides x y).1 e)

  not_told : (b : Bool) (P : Type 0) → (b ≡ true → P) → (P → ⊥) → b ≡ false
  not_told true P h n = absurd (n (h refl))
  not_told false P h n = refl

  pub often_other : (x y : X) (xs : List X) → (x ≡ y → ⊥) → often x (y ∷ xs) ≡ often x xs
  often_other x y xs n =
      ap (λ b. length (cond b (y ∷ filter (E x) xs) (filter (E x) xs))) (not_told (E x y) (x ≡ y) (decides x y).0 n)

  -- whether two elements are the same
  pub same_or : (x y : X) → (x ≡ y) ⊎ (x ≡ y → ⊥)
  same_or x y = elim (cases_Bool (E x y)) [
    | inl e ↦ inl ((decides x y).0 e)
    | inr e ↦ inr (λ h. true≢false (sym ((decides x y).1 h) ∙ e))
  ]

  -- none where each differs
  pub often_none : (x : X) (xs : List X) → AllByRecursion (λ y. x ≡ y → ⊥) xs → often x xs ≡ 0
  often_none x [] a = refl
  often_none x (y ∷ xs) a = often_other x y xs a.0 ∙ often_none x xs a.1

  pub some_there : (x : X) (xs : List X) → 0 < often x xs → (front : List X) × (back : List X) × (xs ≡ front ++ x ∷ back)
  some_there x [] h = absurd (omega (arith, h))
  some_there x (y ∷ xs) h = elim (same_or x y) [
    | inl e ↦ ([], xs, λ i. sym e i ∷ xs)
    | inr n ↦ (let o = often_other x y xs n in let s = some_there x xs (omega (arith, h, o)) in (y ∷ s.0, s.1, ap (λ l. y ∷ l) s.2))
  ]

  first_counts : (x : X) (xs : List X) → 0 < often x (x ∷ xs)
  first_counts x xs = let e = often_same x x xs refl in omega (arith, e)

  without_one : (x y : X) (xs front back : List X) → ((z : X) → often z (x ∷ xs) ≡ often z (front ++ x ∷ back)) → often y xs ≡ often y (front ++ back)
  without_one x y xs front back same =
      let s = same y in
      let a = often_append y front (x ∷ back) in
      let b = often_append y front back in
      elim (same_or y x) [
        | inl e ↦ (let p = often_same y x xs e in let q = often_same y x back e in omega (arith, s, a, b, p, q))
        | inr n ↦ (let p = often_other y x xs n in let q = often_other y x back n in omega (arith, s, a, b, p, q))
      ]

  -- lists in which each element stands as often are the same in another order
  pub permuted_by_often : (xs ys : List X) → ((x : X) → often x xs ≡ often x ys) → IsPermutation xs ys
  permuted_by_often [] [] same = IsPermutation-refl []
  permuted_by_often [] (y ∷ ys) same = absurd (let s = same y in let f = first_counts y ys in omega (arith, s, f))
  permuted_by_often (x ∷ xs) ys same =
      let f = first_counts x xs in
      let s = same x in
      let there = some_there x ys (omega (arith, f, s)) in
      let rest = permuted_by_often xs (there.0 ++ there.1) (λ y. without_one x y xs there.0 there.1 (λ z. same z ∙ ap (often z) there.2)) in
      subst (IsPermutation (x ∷ xs)) (sym there.2)
      (IsPermutation-trans (x ∷ xs) (x ∷ (there.0 ++ there.1)) (there.0 ++ x ∷ there.1) (IsPermutation-cons x xs (there.0 ++ there.1) rest)
      (IsPermutation-sym (there.0 ++ x ∷ there.1) (x ∷ (there.0 ++ there.1)) (IsPermutation-middle there.0 x there.1)))

  -- ---- in an order

  module _ (R : X → X → Ordering) (total : IsTotalOrder R) (exact : CmpEqualImpliesEq R) where
    turned_gt : (o p : Ordering) → o ≡ ordering_reverse p → is_lt p ≡ false → is_gt o ≡ false
    turned_gt Less p e h = refl
    turned_gt Equal p e h = refl
    turned_gt Greater Less e h = absurd (true≢false h)
    turned_gt Greater Equal e h = let f : Greater ≡ Equal = e in cc
    turned_gt Greater Greater e h = let f : Greater ≡ Less = e in cc

    turned_lt : (o p : Ordering) → o ≡ ordering_reverse p → is_gt o ≡ false → is_lt p ≡ false
    turned_lt o Less e h = absurd (true≢false (sym (ap is_gt e) ∙ h))
    turned_lt o Equal e h = refl
    turned_lt o Greater e h = refl

    pub upto_trans : (x y z : X) → IsUpto R x y → IsUpto R y z → IsUpto R x z
    upto_trans x y z h k =
        turned_lt (R x z) (R z x) (total.antisymm x z)
        (upto total x y z (turned_gt (R x y) (R y x) (total.antisymm x y) h) (turned_gt (R y z) (R z y) (total.antisymm y z) k))

    pub upto_itself : (x : X) → IsUpto R x x
    upto_itself x = ap is_lt (tied_itself total x)

    reversed : (o p : Ordering) → o ≡ ordering_reverse p → p ≡ Less → is_lt o ≡ false
    reversed Less Less e h = let f : Less ≡ Greater = e in cc
    reversed Less Equal e h = cc
    reversed Less Greater e h = cc
    reversed Equal p e h = refl
    reversed Greater p e h = refl

    pub below_upto : (x y : X) → R x y ≡ Less → IsUpto R x y
    below_upto x y h = reversed (R y x) (R x y) (total.antisymm y x) h

    pub below_apart : (x y : X) → R x y ≡ Less → y ≡ x → ⊥
    below_apart x y h e = let t = tied_itself total x in let f : R x x ≡ Less = subst (λ z. R x z ≡ Less) e h in cc

    pub below_then : (x y z : X) → R x y ≡ Less → IsUpto R y z → R x z ≡ Less
    below_then x y z h k = by (R y z) refl
      where
        by : (o : Ordering) → R y z ≡ o → R x z ≡ Less
        by Less e = total.trans x y z h e
        by Equal e = subst (λ w. R x w ≡ Less) (exact y z e) h
        by Greater e = absurd (true≢false (sym (ap is_lt (total.antisymm z y ∙ ap ordering_reverse e)) ∙ k))

    -- what isn't above and isn't the same is below
    pub upto_other : (x y : X) → IsUpto R x y → (x ≡ y → ⊥) → R x y ≡ Less
    upto_other x y h n = by (R x y) refl
      where
        by : (o : Ordering) → R x y ≡ o → R x y ≡ Less
        by Less e = e
        by Equal e = absurd (n (exact x y e))
        by Greater e = absurd (true≢false (sym (ap is_lt (total.antisymm y x ∙ ap ordering_reverse e)) ∙ h))

    -- both ways
    pub upto_both : (x y : X) → IsUpto R x y → IsUpto R y x → x ≡ y
    upto_both x y h k = elim (same_or x y) [
      | inl e ↦ e
      | inr n ↦ absurd (true≢false (sym (ap is_lt (upto_other x y h n)) ∙ k))
    ]

    -- from a sort, and to what a sort gives
    rest_sorted : (x : X) (xs : List X) → IsSorted R (x ∷ xs) → IsSorted R xs
    rest_sorted x xs s k d l g =
        let e : suc k + 1 ≡ suc (k + 1) = omega arith in
        subst (λ n. is_lt (R (get_or (x ∷ xs) n d) (get_or xs k d)) ≡ false) e (s (suc k) d (omega arith) (omega (arith, g)))

    pub rising_from_sorted : (xs : List X) → IsSorted R xs → IsRising R xs
    rising_from_sorted [] s = tt
    rising_from_sorted (x ∷ xs) s = (
      by_recursion (IsUpto R x) xs (λ k d l. sorted_far (λ a b. is_lt (R a b)) (ranks_by total (λ a. a)) (x ∷ xs) s 0 (suc k) d (omega arith) (omega (arith, l))),
      rising_from_sorted xs (rest_sorted x xs s),
    )

    pub sorted_from_rising : (xs : List X) → IsRising R xs → IsSorted R xs
    sorted_from_rising [] up k d l g = absurd (omega (arith, g))
    sorted_from_rising (x ∷ []) up k d l g = absurd (omega (arith, g))
    sorted_from_rising (x ∷ y ∷ xs) up zero d l g = up.0.0
    sorted_from_rising (x ∷ y ∷ xs) up (suc k) d l g =
        let e : suc k + 1 ≡ suc (k + 1) = omega arith in rw e (sorted_from_rising (y ∷ xs) up.1 k d (omega arith) (omega (arith, g)))

    -- parts
    pub rising_front : (xs ys : List X) → IsRising R (xs ++ ys) → IsRising R xs
    rising_front [] ys up = tt
    rising_front (x ∷ xs) ys up = (all_front (IsUpto R x) xs ys up.0, rising_front xs ys up.1)

    pub rising_back : (xs ys : List X) → IsRising R (xs ++ ys) → IsRising R ys
    rising_back [] ys up = up
    rising_back (x ∷ xs) ys up = rising_back xs ys up.1

    -- one that is put between what isn't above it and what isn't below it
    pub put_between : (xs ys : List X) (a : X) → IsRising R (xs ++ ys) → AllByRecursion (λ x. IsUpto R x a) xs → AllByRecursion (IsUpto R a) ys → IsRising R (xs ++ a ∷ ys)
    put_between [] ys a up before behind = (behind, up)
    put_between (x ∷ xs) ys a up before behind = (
      all_append (IsUpto R x) xs (a ∷ ys) (all_front (IsUpto R x) xs ys up.0) (before.0, all_back (IsUpto R x) xs ys up.0),
      put_between xs ys a up.1 before.1 behind,
    )

    -- one that is left out
    pub leave_out : (xs ys : List X) (a : X) → IsRising R (xs ++ a ∷ ys) → IsRising R (xs ++ ys)
    leave_out [] ys a up = up.1
    leave_out (x ∷ xs) ys a up = (
      all_append (IsUpto R x) xs ys (all_front (IsUpto R x) xs (a ∷ ys) up.0) (all_back (IsUpto R x) xs (a ∷ ys) up.0).1,
      leave_out xs ys a up.1,
    )

    -- there is one rising list with these elements
    pub one_rising : (xs ys : List X) → IsRising R xs → IsRising R ys → ((x : X) → often x xs ≡ often x ys) → xs ≡ ys
    one_rising xs ys up also same =
        one_sorting R total (λ x. Unit {0}) (λ x y p q e. exact x y e) xs xs ys (λ k d l. tt)
        (record { same = IsPermutation-refl xs; ascending = sorted_from_rising xs up })
        (record { same = permuted_by_often xs ys same; ascending = sorted_from_rising ys also })

    -- ---- elements come in

    -- so far: what is kept and what is left of the rest rises, and with those to come each stands as often as in both lists at first
    pub record IsComing (rows added kept rest left : List X) : Type 0 where
      pub rising : IsRising R (kept ++ rest)
      pub to_come : IsRising R left
      pub front : AllByRecursion (λ a. AllByRecursion (λ x. IsUpto R x a) kept) left
      pub as_often : (x : X) → often x (kept ++ rest) + often x left ≡ often x rows + often x added

    pub coming_first : (rows added kept : List X) → kept ≡ [] → IsRising R rows → IsRising R added → IsComing rows added kept rows added
    coming_first rows added kept e up also =
        subst (λ l. IsComing rows added l rows added) (sym e) (record {
          rising = up;
          to_come = also;
          front = nothing added;
          as_often = λ x. refl;
        })
      where
        nothing : (l : List X) → AllByRecursion (λ a. AllByRecursion (λ x. IsUpto R x a) []) l
        nothing [] = tt
        nothing (a ∷ l) = (tt, nothing l)

    later_front : (a : X) (kept left : List X) → AllByRecursion (λ x. IsUpto R x a) kept → AllByRecursion (IsUpto R a) left → AllByRecursion (λ b. AllByRecursion (λ x. IsUpto R x b) kept) left
    later_front a kept [] before up = tt
    later_front a kept (b ∷ left) before up =
        (all_weaker (λ x. IsUpto R x a) (λ x. IsUpto R x b) (λ x h. upto_trans x a b h up.0) kept before, later_front a kept left before up.1)

    pub coming_more : (rows added kept rest left behind others last : List X) (a : X) → IsComing rows added kept rest (a ∷ left) → SkipsTo R a rest kept others behind → last ≡ behind ++ a ∷ []
        → IsComing rows added last others left
    coming_more rows added kept rest left behind others last a so_far skips e =
        let whole : kept ++ rest ≡ behind ++ others =
        ap (λ l. kept ++ l) skips.whole ∙ sym (append_assoc kept skips.moved others) ∙ ap (λ l. l ++ others) (sym skips.behind_is) in
        let before : AllByRecursion (λ x. IsUpto R x a) behind =
        subst (AllByRecursion (λ x. IsUpto R x a)) (sym skips.behind_is)
        (all_append (λ x. IsUpto R x a) kept skips.moved so_far.front.0 (all_weaker (λ x. R x a ≡ Less) (λ x. IsUpto R x a) (λ x h. below_upto x a h) skips.moved skips.below)) in
        let joined : last ++ others ≡ behind ++ a ∷ others = ap (λ l. l ++ others) e ∙ append_assoc behind (a ∷ []) others in
        let with_a : AllByRecursion (λ x. IsUpto R x a) last =
        subst (AllByRecursion (λ x. IsUpto R x a)) (sym e) (all_append (λ x. IsUpto R x a) behind (a ∷ []) before (upto_itself a, tt)) in
        record {
          rising = subst (IsRising R) (sym joined) (put_between behind others a (subst (IsRising R) whole so_far.rising) before skips.not_below);
          to_come = so_far.to_come.1;
          front = later_front a last left with_a so_far.to_come.0;
          as_often = λ x.
              let old = so_far.as_often x in
              let w = ap (often x) whole in
              let j = ap (often x) joined in
              let p = often_append x behind (a ∷ others) in
              let q = often_append x behind others in
              elim (same_or x a) [
                | inl s ↦ (let f = often_same x a others s in let g = often_same x a left s in omega (arith, old, w, j, p, q, f, g))
                | inr n ↦ (let f = often_other x a others n in let g = often_other x a left n in omega (arith, old, w, j, p, q, f, g))
              ];
        }

    pub coming_all : (rows added kept rest left whole : List X) → IsComing rows added kept rest left → left ≡ [] → whole ≡ kept ++ rest
        → IsRising R whole × ((x : X) → often x whole ≡ often x rows + often x added)
    coming_all rows added kept rest left whole so_far e w =
        subst (λ l. IsRising R l × ((x : X) → often x l ≡ often x rows + often x added)) (sym w) (
          so_far.rising,
          λ x. let old = so_far.as_often x in let n = ap (often x) e in omega (arith, old, n),
        )

    -- ---- elements go out

    -- so far: what is kept and what is left of the rest rises, and without those to go each stands as often as in the first list without the second
    pub record IsGoing (rows removed kept rest left : List X) : Type 0 where
      pub rising : IsRising R (kept ++ rest)
      pub to_go : IsRising R left
      pub front : AllByRecursion (λ a. AllByRecursion (λ x. R x a ≡ Less) kept) left
      pub as_often : (x : X) → often x (kept ++ rest) - often x left ≡ often x rows - often x removed

    pub going_first : (rows removed kept : List X) → kept ≡ [] → IsRising R rows → IsRising R removed → IsGoing rows removed kept rows removed
    going_first rows removed kept e up also =
        subst (λ l. IsGoing rows removed l rows removed) (sym e) (record {
          rising = up;
          to_go = also;
          front = nothing removed;
          as_often = λ x. refl;
        })
      where
        nothing : (l : List X) → AllByRecursion (λ a. AllByRecursion (λ x. R x a ≡ Less) []) l
        nothing [] = tt
        nothing (a ∷ l) = (tt, nothing l)

    later_below : (a : X) (kept left : List X) → AllByRecursion (λ x. R x a ≡ Less) kept → AllByRecursion (IsUpto R a) left → AllByRecursion (λ b. AllByRecursion (λ x. R x b ≡ Less) kept) left
    later_below a kept [] before up = tt
    later_below a kept (b ∷ left) before up =
        (all_weaker (λ x. R x a ≡ Less) (λ x. R x b ≡ Less) (λ x h. below_then x a b h up.0) kept before, later_below a kept left before up.1)

    not_in_front : (a : X) (xs : List X) → AllByRecursion (λ x. R x a ≡ Less) xs → AllByRecursion (λ x. a ≡ x → ⊥) xs
    not_in_front a xs below = all_weaker (λ x. R x a ≡ Less) (λ x. a ≡ x → ⊥) (λ x h e. below_apart x a h e) xs below

    not_behind : (a x : X) (xs : List X) → (x ≡ a → ⊥) → IsUpto R a x → AllByRecursion (IsUpto R x) xs → AllByRecursion (λ y. a ≡ y → ⊥) xs
    not_behind a x xs n h up =
        all_weaker (IsUpto R x) (λ y. a ≡ y → ⊥) (λ y k e. n (upto_both x a (subst (IsUpto R x) (sym e) k) h)) xs up

    -- one element of which all before are below and all behind aren't
    gone_often : (a x : X) (behind others last : List X) → AllByRecursion (λ y. R y a ≡ Less) behind → IsRising R others → AllByRecursion (IsUpto R a) others → LeavesOut a others last
        → (n : ℕ) → often x (behind ++ last) - n ≡ often x (behind ++ others) - (often x (a ∷ []) + n)
    gone_often a x behind [] last below up above e n = elim (same_or x a) [
      | inl s ↦ (
          let p = often_append x behind last in
          let q = often_append x behind [] in
          let f = often_same x a [] s in
          let l = ap (often x) e in
          let z = often_none x behind (subst (λ w. AllByRecursion (λ y. w ≡ y → ⊥) behind) (sym s) (not_in_front a behind below)) in
          omega (arith, p, q, f, l, z))
      | inr d ↦ (
          let p = often_append x behind last in
          let q = often_append x behind [] in
          let f = often_other x a [] d in
          let l = ap (often x) e in
          omega (arith, p, q, f, l))
    ]
    gone_often a x behind (y ∷ others) last below up above (inl h) n =
        let p = often_append x behind last in
        let q = often_append x behind (y ∷ others) in
        let l = ap (often x) h.1 in
        elim (same_or x a) [
          | inl s ↦ (let f = often_same x a [] s in let g = often_same x y others (s ∙ sym h.0) in omega (arith, p, q, f, g, l))
          | inr d ↦ (let f = often_other x a [] d in let g = often_other x y others (λ e. d (e ∙ h.0)) in omega (arith, p, q, f, g, l))
        ]
    gone_often a x behind (y ∷ others) last below up above (inr h) n =
        let p = often_append x behind last in
        let q = often_append x behind (y ∷ others) in
        let l = ap (often x) h.1 in
        elim (same_or x a) [
          | inl s ↦ (
              let f = often_same x a [] s in
              let z = often_none x behind (subst (λ w. AllByRecursion (λ v. w ≡ v → ⊥) behind) (sym s) (not_in_front a behind below)) in
              let w = often_none x (y ∷ others) (subst (λ w. AllByRecursion (λ v. w ≡ v → ⊥) (y ∷ others)) (sym s) (λ e. h.0 (sym e), not_behind a y others h.0 above.0 up.0)) in
              omega (arith, p, q, f, l, z, w))
          | inr d ↦ (let f = often_other x a [] d in omega (arith, p, q, f, l))
        ]

    gone_rising : (a : X) (behind others last : List X) → IsRising R (behind ++ others) → LeavesOut a others last → IsRising R (behind ++ last)
    gone_rising a behind [] last up e = subst (λ l. IsRising R (behind ++ l)) (sym e) up
    gone_rising a behind (y ∷ others) last up (inl h) = subst (λ l. IsRising R (behind ++ l)) (sym h.1) (leave_out behind others y up)
    gone_rising a behind (y ∷ others) last up (inr h) = subst (λ l. IsRising R (behind ++ l)) (sym h.1) up

    pub going_more : (rows removed kept rest left behind others last : List X) (a : X) → IsGoing rows removed kept rest (a ∷ left) → SkipsTo R a rest kept others behind → LeavesOut a others last
        → IsGoing rows removed behind last left
    going_more rows removed kept rest left behind others last a so_far skips leaves =
        let whole : kept ++ rest ≡ behind ++ others =
        ap (λ l. kept ++ l) skips.whole ∙ sym (append_assoc kept skips.moved others) ∙ ap (λ l. l ++ others) (sym skips.behind_is) in
        let before : AllByRecursion (λ x. R x a ≡ Less) behind =
        subst (AllByRecursion (λ x. R x a ≡ Less)) (sym skips.behind_is) (all_append (λ x. R x a ≡ Less) kept skips.moved so_far.front.0 skips.below) in
        let up : IsRising R (behind ++ others) = subst (IsRising R) whole so_far.rising in
        record {
          rising = gone_rising a behind others last up leaves;
          to_go = so_far.to_go.1;
          front = later_below a behind left before so_far.to_go.0;
          as_often = λ x.
              let old = so_far.as_often x in
              let w = ap (often x) whole in
              let g = gone_often a x behind others last before (rising_back behind others up) skips.not_below leaves (often x left) in
              let c = often_append x (a ∷ []) left in
              omega (arith, old, w, g, c);
        }

    pub going_all : (rows removed kept rest left whole : List X) → IsGoing rows removed kept rest left → left ≡ [] → whole ≡ kept ++ rest
        → IsRising R whole × ((x : X) → often x whole ≡ often x rows - often x removed)
    going_all rows removed kept rest left whole so_far e w =
        subst (λ l. IsRising R l × ((x : X) → often x l ≡ often x rows - often x removed)) (sym w) (
          so_far.rising,
          λ x. let old = so_far.as_often x in let n = ap (often x) e in omega (arith, old, n),
        )

    -- ---- elements that others don't have, each once

    -- so far: what is kept stands once and isn't known, and with what is left each stands once more where it should
    pub record IsSifted (rows known kept left : List X) : Type 0 where
      pub rising : IsRising R (kept ++ left)
      pub once : (x : X) → often x kept ≤ 1
      pub unknown : (x : X) → 0 < often x kept → often x known ≡ 0
      pub as_often : (x : X) → min 1 (often x kept + often x left) - often x known ≡ min 1 (often x rows) - often x known

    pub sifted_first : (rows known kept : List X) → kept ≡ [] → IsRising R rows → IsSifted rows known kept rows
    sifted_first rows known kept e up =
        subst (λ l. IsSifted rows known l rows) (sym e) (record {
          rising = up;
          once = λ x. omega arith;
          unknown = λ x h. absurd (omega (arith, h));
          as_often = λ x. ap (λ n. min 1 n - often x known) (zero_add (often x rows));
        })
      where
        zero_add : (n : ℕ) → 0 + n ≡ n
        zero_add n = omega arith

    least_more : (k l : ℕ) → 0 < k → min 1 (k + suc l) ≡ min 1 (k + l)
    least_more k l h = omega (arith, h)

    -- one that stands in what is kept, or is known, is left out
    pub sifted_out : (rows known kept left : List X) (a : X) → IsSifted rows known kept (a ∷ left) → (0 < often a kept) ⊎ (0 < often a known) → IsSifted rows known kept left
    sifted_out rows known kept left a so_far there = record {
      rising = leave_out kept left a so_far.rising;
      once = so_far.once;
      unknown = so_far.unknown;
      as_often = λ x. elim (same_or x a) [
        | inl s ↦ same x s there
        | inr d ↦ (let old = so_far.as_often x in let f = often_other x a left d in ap (λ n. min 1 (often x kept + n) - often x known) (sym f) ∙ old)
      ];
    }
      where
        same : (x : X) → x ≡ a → (0 < often a kept) ⊎ (0 < often a known) → min 1 (often x kept + often x left) - often x known ≡ min 1 (often x rows) - often x known
        same x s (inl h) =
            let old = so_far.as_often x in
            let f = often_same x a left s in
            let k = subst (λ y. 0 < often y kept) (sym s) h in
            ap (λ n. n - often x known) (sym (least_more (often x kept) (often x left) k)) ∙ ap (λ n. min 1 (often x kept + n) - often x known) (sym f) ∙ old
        same x s (inr h) =
            let k = subst (λ y. 0 < often y known) (sym s) h in
            omega (arith, k)

    -- another one is kept
    pub sifted_in : (rows known kept left last : List X) (a : X) → IsSifted rows known kept (a ∷ left) → often a kept ≡ 0 → often a known ≡ 0 → last ≡ kept ++ a ∷ []
        → IsSifted rows known last left
    sifted_in rows known kept left last a so_far absent new e =
        let joined : last ++ left ≡ kept ++ a ∷ left = ap (λ l. l ++ left) e ∙ append_assoc kept (a ∷ []) left in
        record {
          rising = subst (IsRising R) (sym joined) so_far.rising;
          once = λ x.
              let l = ap (often x) e in
              let p = often_append x kept (a ∷ []) in
              let o = so_far.once x in
              elim (same_or x a) [
                | inl s ↦ (let f = often_same x a [] s in let z = ap (λ y. often y kept) s ∙ absent in omega (arith, l, p, f, z))
                | inr d ↦ (let f = often_other x a [] d in omega (arith, l, p, f, o))
              ];
          unknown = λ x h.
              let l = ap (often x) e in
              let p = often_append x kept (a ∷ []) in
              elim (same_or x a) [
                | inl s ↦ ap (λ y. often y known) s ∙ new
                | inr d ↦ (let f = often_other x a [] d in so_far.unknown x (omega (arith, h, l, p, f)))
              ];
          as_often = λ x.
              let l = often_append x last left in
              let m = ap (often x) joined in
              let n = often_append x kept (a ∷ left) in
              let t : often x last + often x left ≡ often x kept + often x (a ∷ left) = omega (arith, l, m, n) in
              ap (λ n. min 1 n - often x known) t ∙ so_far.as_often x;
        }

    -- what is above the last one that is kept isn't kept yet
    pub absent_above : (kept left : List X) (a : X) → IsRising R (kept ++ a ∷ left) → ((front : List X) (last : X) → kept ≡ front ++ last ∷ [] → last ≡ a → ⊥) → often a kept ≡ 0
    absent_above [] left a up apart = refl
    absent_above (x ∷ []) left a up apart = often_other a x [] (λ e. apart [] x refl (sym e))
    absent_above (x ∷ y ∷ kept) left a up apart =
        let rest = absent_above (y ∷ kept) left a up.1 (λ front last e. apart (x ∷ front) last (ap (λ l. x ∷ l) e)) in
        often_other a x (y ∷ kept) (λ e. first_apart a x y kept left e up rest) ∙ rest
      where
        first_apart : (a x y : X) (kept left : List X) → a ≡ x → IsRising R (x ∷ y ∷ (kept ++ a ∷ left)) → often a (y ∷ kept) ≡ 0 → ⊥
        first_apart a x y kept left e up none =
            let upward : IsUpto R y a = (all_back (IsUpto R y) kept (a ∷ left) up.1.0).0 in
            let down : IsUpto R a y = subst (λ z. IsUpto R z y) (sym e) up.0.0 in
            let f = often_same a y kept (upto_both a y down upward) in
            omega (arith, none, f)

    pub sifted_all : (rows known kept left : List X) → IsSifted rows known kept left → left ≡ []
        → IsRising R kept × ((x : X) → often x kept ≡ min 1 (often x rows) - often x known)
    sifted_all rows known kept left so_far e = (
      rising_front kept left so_far.rising,
      λ x.
          let old = so_far.as_often x in
          let n = ap (often x) e in
          let o = so_far.once x in
          end (often x kept) (often x left) (often x known) (min 1 (often x rows) - often x known) o (so_far.unknown x) n old,
    )
      where
        end : (k l n t : ℕ) → k ≤ 1 → (0 < k → n ≡ 0) → l ≡ 0 → min 1 (k + l) - n ≡ t → k ≡ t
        end zero l n t o u e h = omega (arith, e, h)
        end (suc k) l n t o u e h = let z = u (omega arith) in omega (arith, o, e, h, z)
