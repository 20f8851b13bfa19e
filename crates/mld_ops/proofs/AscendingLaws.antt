-- Laws of strictly ascending lists, at any total order that tells different values apart.
use Rattle.std.specs.Prelude.{◌≡◌, ℕ, ◌+◌, ◌<◌, List, [], ◌∷◌, ◌++◌, ◌⊎◌, Bool, true, false, refl, ◌↔◌}
use Rattle.std.proofs.Common.{suc, zero, take, drop, get_or, length, arith, sym, ap, subst, inl, inr, ◌∙◌}
use Rattle.std.proofs.lemmas.Bool.{cases_Bool, true≢false}
use Rattle.std.proofs.lemmas.Cmp.{tied_itself}
use Rattle.std.proofs.lemmas.Map.Lookups.{CmpEqualImpliesEq}
use Rattle.std.specs.Cmp.{IsTotalOrder}
use Rattle.std.proofs.lemmas.List.{take_more, length-take, length-drop, get_or-take, get_or-drop, take-append-drop}
use Rattle.std.proofs.lemmas.List.Sorted.{searchable_from_sorted}
use Rattle.std.proofs.Math.Seq.{drop-cons}
use Rattle.std.specs.List.Sorted.{IsSorted, IsNonDecreasingBy}
use Rattle.std.specs.Ordering.{is_lt, ordering_index}
use Rattle.std.specs.List.{filter, insert, remove, AllWithin, AllAdjacentBelow, Contains}
use Rattle.std.specs.declared.cmp.Ordering.{Ordering}
use Rattle.std.specs.declared.cmp.Ordering.TheVariants.{Less, Greater}
use Rattle.tree_clock.specs.Lists.{Has, IsBelowAll, IsAscending}

-- a value that is below each member is below a given one
pub below_member : {X : Type 0} (R : X → X → Ordering) (x : X) (ys : List X) (y : X) → IsBelowAll R x ys → Has ys y → R x y ≡ Less
below_member R x [] y b h = absurd h
below_member R x (z ∷ ys) y b (inl e) = subst (λ w. R x w ≡ Less) e b.0
below_member R x (z ∷ ys) y b (inr h) = below_member R x ys y b.1 h

-- a value that is below every member is below all
pub below_from_members : {X : Type 0} (R : X → X → Ordering) (x : X) (ys : List X) → ((y : X) → Has ys y → R x y ≡ Less) → IsBelowAll R x ys
below_from_members R x [] h = tt
below_from_members R x (y ∷ ys) h = (h y (inl refl), below_from_members R x ys (λ z k. h z (inr k)))

-- the members of two lists joined
pub has_append : {X : Type 0} (xs ys : List X) (x : X) → Has (xs ++ ys) x → Has xs x ⊎ Has ys x
has_append [] ys x h = inr h
has_append (z ∷ xs) ys x (inl e) = inl (inl e)
has_append (z ∷ xs) ys x (inr h) = elim (has_append xs ys x h) [ inl k ↦ inl (inr k) | inr k ↦ inr k ]

pub has_left : {X : Type 0} (xs ys : List X) (x : X) → Has xs x → Has (xs ++ ys) x
has_left [] ys x h = absurd h
has_left (z ∷ xs) ys x (inl e) = inl e
has_left (z ∷ xs) ys x (inr h) = inr (has_left xs ys x h)

pub has_right : {X : Type 0} (xs ys : List X) (x : X) → Has ys x → Has (xs ++ ys) x
has_right [] ys x h = h
has_right (z ∷ xs) ys x h = inr (has_right xs ys x h)

-- two ascending lists joined ascend where each member of the first is below each of the second
pub ascending_append : {X : Type 0} (R : X → X → Ordering) (xs ys : List X) → IsAscending R xs → IsAscending R ys → ((x y : X) → Has xs x → Has ys y → R x y ≡ Less) → IsAscending R (xs ++ ys)
ascending_append R [] ys a b h = b
ascending_append R (x ∷ xs) ys a b h = (
  below_from_members R x (xs ++ ys) (λ y k. elim (has_append xs ys y k) [
    | inl m ↦ below_member R x xs y a.0 m
    | inr m ↦ h x y (inl refl) m
  ]),
  ascending_append R xs ys a.1 b (λ w y k m. h w y (inr k) m),
)

-- the two parts of an ascending list
pub ascending_front : {X : Type 0} (R : X → X → Ordering) (xs ys : List X) → IsAscending R (xs ++ ys) → IsAscending R xs
ascending_front R [] ys a = tt
ascending_front R (x ∷ xs) ys a = (below_from_members R x xs (λ y k. below_member R x (xs ++ ys) y a.0 (has_left xs ys y k)), ascending_front R xs ys a.1)

pub ascending_back : {X : Type 0} (R : X → X → Ordering) (xs ys : List X) → IsAscending R (xs ++ ys) → IsAscending R ys
ascending_back R [] ys a = a
ascending_back R (x ∷ xs) ys a = ascending_back R xs ys a.1

-- the members of a filtered list, and its order
pub has_filter : {X : Type 0} (p : X → Bool) (xs : List X) (x : X) → Has (filter p xs) x ↔ (Has xs x × (p x ≡ true))
has_filter p [] x = (λ h. absurd h, λ h. absurd h.0)
has_filter p (y ∷ xs) x =
    elim (cases_Bool (p y)) [
      | inl e ↦ rw e (
        λ h. elim h [
          | inl k ↦ (inl k, subst (λ w. p w ≡ true) k e)
          | inr k ↦ let f = (has_filter p xs x).0 k in (inr f.0, f.1)
        ],
        λ h. elim h.0 [ inl k ↦ inl k | inr k ↦ inr ((has_filter p xs x).1 (k, h.1)) ],
      )
      | inr e ↦ rw e (
        λ h. let f = (has_filter p xs x).0 h in (inr f.0, f.1),
        λ h. elim h.0 [
          | inl k ↦ absurd (true≢false (sym h.1 ∙ ap p (sym k) ∙ e))
          | inr k ↦ (has_filter p xs x).1 (k, h.1)
        ],
      )
    ]

pub ascending_filter : {X : Type 0} (R : X → X → Ordering) (p : X → Bool) (xs : List X) → IsAscending R xs → IsAscending R (filter p xs)
ascending_filter R p [] a = tt
ascending_filter R p (x ∷ xs) a =
    elim (cases_Bool (p x)) [
      | inl e ↦ rw e (below_from_members R x (filter p xs) (λ y k. below_member R x xs y a.0 ((has_filter p xs y).0 k).0), ascending_filter R p xs a.1)
      | inr e ↦ rw e (ascending_filter R p xs a.1)
    ]

-- each member of the first of two joined lists is below each of the second
pub below_across : {X : Type 0} (R : X → X → Ordering) (xs ys : List X) (x y : X) → IsAscending R (xs ++ ys) → Has xs x → Has ys y → R x y ≡ Less
below_across R [] ys x y a h k = absurd h
below_across R (z ∷ xs) ys x y a (inl e) k = subst (λ w. R w y ≡ Less) e (below_member R z (xs ++ ys) y a.0 (has_right xs ys y k))
below_across R (z ∷ xs) ys x y a (inr h) k = below_across R xs ys x y a.1 h k

-- a member's place, and the member at a place
pub contains_from_has : {X : Type 0} (xs : List X) (x : X) → Has xs x → Contains xs x
contains_from_has [] x h = absurd h
contains_from_has (y ∷ xs) x (inl e) = (0, omega arith, e)
contains_from_has (y ∷ xs) x (inr h) = let c = contains_from_has xs x h in (suc c.0, omega (arith, c.1), c.2)

pub has_at : {X : Type 0} (xs : List X) (k : ℕ) (d : X) → k < length xs → Has xs (get_or xs k d)
has_at [] k d h = absurd (omega arith)
has_at (x ∷ xs) zero d h = inl refl
has_at (x ∷ xs) (suc k) d h = inr (has_at xs k d (omega arith))

-- the members of one more element of a front
pub has_take_more : {X : Type 0} (xs : List X) (i : ℕ) (d x : X) → i < length xs → Has (take (i + 1) xs) x ↔ (Has (take i xs) x ⊎ (get_or xs i d ≡ x))
has_take_more xs i d x h =
    rw (take_more xs i d h) (
      λ k. elim (has_append (take i xs) (get_or xs i d ∷ []) x k) [
        | inl m ↦ inl m
        | inr m ↦ elim m [ inl e ↦ inr e | inr n ↦ absurd n ]
      ],
      λ k. elim k [
        | inl m ↦ has_left (take i xs) (get_or xs i d ∷ []) x m
        | inr e ↦ has_right (take i xs) (get_or xs i d ∷ []) x (inl e)
      ],
    )

-- what holds within a range of places holds of the members there
pub within_front : {X : Type 0} (P : X → Type 0) (xs : List X) (i : ℕ) (x : X) → AllWithin P xs 0 i → Has (take i xs) x → P x
within_front P xs i x h k =
    let c = contains_from_has (take i xs) x k in
    let l : c.0 < i = omega (arith, c.1, length-take i xs) in
    subst P (sym (get_or-take i xs c.0 x l) ∙ c.2) (h c.0 x (omega arith) l)

pub within_back : {X : Type 0} (P : X → Type 0) (xs : List X) (i : ℕ) (x : X) → AllWithin P xs i (length xs) → Has (drop i xs) x → P x
within_back P xs i x h k =
    let c = contains_from_has (drop i xs) x k in
    let l : i + c.0 < length xs = omega (arith, c.1, length-drop i xs) in
    subst P (sym (get_or-drop i xs c.0 x) ∙ c.2) (h (i + c.0) x (omega arith) l)

-- the members of a list with one more element at a place
pub has_insert : {X : Type 0} (xs : List X) (i : ℕ) (x y : X) → Has (insert xs i x) y ↔ (Has xs y ⊎ (y ≡ x))
has_insert xs i x y = (
  λ h. elim (has_append (take i xs) (x ∷ drop i xs) y h) [
    | inl k ↦ inl (whole (has_left (take i xs) (drop i xs) y k))
    | inr k ↦ elim k [ inl e ↦ inr (sym e) | inr m ↦ inl (whole (has_right (take i xs) (drop i xs) y m)) ]
  ],
  λ h. elim h [
    | inl k ↦ elim (has_append (take i xs) (drop i xs) y (subst (λ zs. Has zs y) (sym (take-append-drop i xs)) k)) [
      | inl m ↦ has_left (take i xs) (x ∷ drop i xs) y m
      | inr m ↦ has_right (take i xs) (x ∷ drop i xs) y (inr m)
    ]
    | inr e ↦ has_right (take i xs) (x ∷ drop i xs) y (inl (sym e))
  ],
)
  where
    whole : Has (take i xs ++ drop i xs) y → Has xs y
    whole h = subst (λ zs. Has zs y) (take-append-drop i xs) h

-- each element is below the next one
pub adjacent_from_ascending : {X : Type 0} (R : X → X → Ordering) (xs : List X) → IsAscending R xs → AllAdjacentBelow (λ x y. R x y ≡ Less) xs (length xs)
adjacent_from_ascending R [] a k d h = absurd (omega arith)
adjacent_from_ascending R (x ∷ xs) a zero d h = below_member R x xs (get_or xs 0 d) a.0 (has_at xs 0 d (omega arith))
adjacent_from_ascending R (x ∷ xs) a (suc k) d h =
    let e : suc k + 1 ≡ suc (k + 1) = omega arith in rw e (adjacent_from_ascending R xs a.1 k d (omega arith))

module _ {X : Type 0} (R : X → X → Ordering) (total : IsTotalOrder R) where
  -- nothing is below itself
  pub not_below_itself : (x : X) → R x x ≡ Less → ⊥
  not_below_itself x h = let e = tied_itself total x in cc

  -- of two values one at most is below the other
  pub not_both_below : (x y : X) → R x y ≡ Less → R y x ≡ Less → ⊥
  not_both_below x y h k = not_below_itself x (total.trans x y x h k)

  -- a member of the list before which all is below, and behind which all is above
  pub below_all_after : (x y : X) (ys : List X) → R x y ≡ Less → IsBelowAll R y ys → IsBelowAll R x ys
  below_all_after x y ys h b = below_from_members R x ys (λ z k. total.trans x y z h (below_member R y ys z b k))

  -- two ascending lists with the same members have the same first one
  same_head : CmpEqualImpliesEq R → (x y : X) (xs ys : List X) → IsBelowAll R x xs → IsBelowAll R y ys → Has (y ∷ ys) x → Has (x ∷ xs) y → x ≡ y
  same_head exact x y xs ys a b (inl e) k = sym e
  same_head exact x y xs ys a b (inr h) (inl e) = e
  same_head exact x y xs ys a b (inr h) (inr k) = absurd (not_both_below x y (below_member R x xs y a k) (below_member R y ys x b h))

  same_tail : (x y : X) (xs ys : List X) → x ≡ y → IsBelowAll R x xs → (z : X) → Has xs z → Has (y ∷ ys) z → Has ys z
  same_tail x y xs ys e a z h (inl k) = absurd (not_below_itself z (subst (λ w. R w z ≡ Less) (e ∙ k) (below_member R x xs z a h)))
  same_tail x y xs ys e a z h (inr k) = k

  -- two ascending lists with the same members are one
  pub same_ascending : CmpEqualImpliesEq R → (xs ys : List X) → IsAscending R xs → IsAscending R ys → ((x : X) → Has xs x → Has ys x) → ((x : X) → Has ys x → Has xs x) → xs ≡ ys
  same_ascending exact [] [] a b f g = refl
  same_ascending exact [] (y ∷ ys) a b f g = absurd (g y (inl refl))
  same_ascending exact (x ∷ xs) [] a b f g = absurd (f x (inl refl))
  same_ascending exact (x ∷ xs) (y ∷ ys) a b f g =
      let e = same_head exact x y xs ys a.0 b.0 (f x (inl refl)) (g y (inl refl)) in
      let t = same_ascending exact xs ys a.1 b.1
      (λ z h. same_tail x y xs ys e a.0 z h (f z (inr h)))
      (λ z h. same_tail y x ys xs (sym e) b.0 z h (g z (inr h))) in
      cc

  -- an element put where all before it is below and all behind it is above
  pub ascending_insert : (xs : List X) (i : ℕ) (x : X) → IsAscending R xs → AllWithin (λ y. R y x ≡ Less) xs 0 i → AllWithin (λ y. R y x ≡ Greater) xs i (length xs) → IsAscending R (insert xs i x)
  ascending_insert xs i x a before behind =
      let whole = subst (λ zs. IsAscending R zs) (sym (take-append-drop i xs)) a in
      let low = λ (y : X) (h : Has (take i xs) y). within_front (λ w. R w x ≡ Less) xs i y before h in
      let high = λ (y : X) (h : Has (drop i xs) y). above x y (within_back (λ w. R w x ≡ Greater) xs i y behind h) in
      ascending_append R (take i xs) (x ∷ drop i xs) (ascending_front R (take i xs) (drop i xs) whole)
      (below_from_members R x (drop i xs) high, ascending_back R (take i xs) (drop i xs) whole)
      (λ y z h k. elim k [
        | inl e ↦ subst (λ w. R y w ≡ Less) e (low y h)
        | inr m ↦ total.trans y x z (low y h) (high z m)
      ])
    where
      above : (x y : X) → R y x ≡ Greater → R x y ≡ Less
      above x y h = let e = total.antisymm x y in cc

  -- an ascending list without one of its elements
  pub ascending_without : (xs : List X) (x : X) (ys : List X) → IsAscending R (xs ++ x ∷ ys) → IsAscending R (xs ++ ys)
  ascending_without xs x ys a =
      ascending_append R xs ys (ascending_front R xs (x ∷ ys) a) (ascending_back R xs (x ∷ ys) a).1
      (λ y z h k. below_across R xs (x ∷ ys) y z a h (inr k))

  pub has_without : (xs : List X) (x : X) (ys : List X) (y : X) → IsAscending R (xs ++ x ∷ ys) → Has (xs ++ ys) y ↔ (Has (xs ++ x ∷ ys) y × ¬ (y ≡ x))
  has_without xs x ys y a = (
    λ h. elim (has_append xs ys y h) [
      | inl k ↦ (has_left xs (x ∷ ys) y k, λ e. not_below_itself x (subst (λ w. R w x ≡ Less) e (below_across R xs (x ∷ ys) y x a k (inl refl))))
      | inr k ↦ (has_right xs (x ∷ ys) y (inr k), λ e. not_below_itself x (subst (λ w. R x w ≡ Less) e (below_member R x ys y (ascending_back R xs (x ∷ ys) a).0 k)))
    ],
    λ h. elim (has_append xs (x ∷ ys) y h.0) [
      | inl k ↦ has_left xs ys y k
      | inr k ↦ elim k [ inl e ↦ absurd (h.1 (sym e)) | inr m ↦ has_right xs ys y m ]
    ],
  )

  -- the same where the element is taken out by its place
  at_place : (xs : List X) (i : ℕ) (x : X) → i < length xs → get_or xs i x ≡ x → xs ≡ take i xs ++ x ∷ drop (suc i) xs
  at_place xs i x h e = sym (take-append-drop i xs) ∙ ap (λ zs. take i xs ++ zs) (drop-cons xs i x h ∙ ap (λ w. w ∷ drop (suc i) xs) e)

  pub ascending_remove : (xs : List X) (i : ℕ) (x : X) → i < length xs → get_or xs i x ≡ x → IsAscending R xs → IsAscending R (remove xs i)
  ascending_remove xs i x h e a = ascending_without (take i xs) x (drop (suc i) xs) (subst (λ zs. IsAscending R zs) (at_place xs i x h e) a)

  pub has_remove : (xs : List X) (i : ℕ) (x y : X) → i < length xs → get_or xs i x ≡ x → IsAscending R xs → Has (remove xs i) y ↔ (Has xs y × ¬ (y ≡ x))
  has_remove xs i x y h e a =
      let f = has_without (take i xs) x (drop (suc i) xs) y (subst (λ zs. IsAscending R zs) (at_place xs i x h e) a) in (
        λ k. let g = f.0 k in (subst (λ zs. Has zs y) (sym (at_place xs i x h e)) g.0, g.1),
        λ k. f.1 (subst (λ zs. Has zs y) (at_place xs i x h e) k.0, k.1),
      )

  -- a list of which each element is below the next one ascends
  pub ascending_from_adjacent : (xs : List X) → AllAdjacentBelow (λ x y. R x y ≡ Less) xs (length xs) → IsAscending R xs
  ascending_from_adjacent [] h = tt
  ascending_from_adjacent (x ∷ []) h = (tt, tt)
  ascending_from_adjacent (x ∷ y ∷ ys) h =
      let a = ascending_from_adjacent (y ∷ ys) (λ k d l. let e : suc k + 1 ≡ suc (k + 1) = omega arith in rw e at (h (suc k) d (omega arith))) in
      let b = h 0 x (omega arith) in
      ((b, below_all_after x y ys b a.0), a)

  -- what a binary search in an ascending list asks
  pub sorted_from_ascending : (xs : List X) → IsAscending R xs → IsSorted R xs
  sorted_from_ascending xs a k d l h = not_less (get_or xs (k + 1) d) (get_or xs k d) (adjacent_from_ascending R xs a k d h)
    where
      not_less : (x y : X) → R y x ≡ Less → is_lt (R x y) ≡ false
      not_less x y h = rw (total.antisymm x y, h) refl

  pub searchable : (xs : List X) (x : X) → IsAscending R xs → IsNonDecreasingBy (λ y. ordering_index (R y x)) xs
  searchable xs x a = searchable_from_sorted total (λ y. y) xs x (sorted_from_ascending xs a)
