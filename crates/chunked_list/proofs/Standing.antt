-- Elements of an ascending list at the place that a search finds.
use Rattle.std.proofs.Common.{◌≡◌, ◌∙◌, ℕ, ◌<◌, max, List, [], ◌∷◌, ◌++◌, Bool, true, false, IsTrue, ◌↔◌, ◌⊎◌, None, Some, length, drop, suc, zero, refl, sym, subst, ap, inl, inr, arith}
use Rattle.std.proofs.lemmas.Bool.{true≢false, false≢true}
use Rattle.std.proofs.lemmas.Cmp.{tied_itself}
use Rattle.std.proofs.lemmas.Map.Lookups.{CmpEqualImpliesEq}
use Rattle.std.specs.Cmp.{IsTotalOrder}
use Rattle.std.specs.Ordering.{is_lt, is_eq}
use Rattle.std.specs.declared.cmp.Ordering.{Ordering}
use Rattle.std.specs.declared.cmp.Ordering.TheVariants.{Less, Equal, Greater}
use Rattle.hinted_chunks.specs.tree_clock.Lists.{Has, IsAscending}
use Rattle.hinted_chunks.proofs.of_mld_ops.AscendingLaws.{below_member, below_from_members, has_append, has_left, has_right, ascending_append, ascending_front, ascending_back, ascending_without, has_without}
use Rattle.chunked_list.specs.Joined.{joined_chunks, front_of, back_of}
use Rattle.chunked_list.specs.Parted.{IsFirstOf}
use Rattle.chunked_list.proofs.Placing.{whole}

-- what is in front of a place and what is behind it is all, also without a chunk
pub whole_any : {X : Type 0} (chunks : List (List X)) (c at : ℕ) → c < max 1 (length chunks) → joined_chunks chunks ≡ front_of chunks c at ++ back_of chunks c at
whole_any [] zero zero l = refl
whole_any [] zero (suc at) l = refl
whole_any [] (suc c) at l = absurd (omega (arith, l))
whole_any (x ∷ xs) c at l = whole (x ∷ xs) c at (omega (arith, l))

lower : (o : Ordering) → is_lt o ≡ true → o ≡ Less
lower Less h = refl
lower Equal h = absurd (false≢true h)
lower Greater h = absurd (false≢true h)

tied : (o : Ordering) → is_eq o ≡ true → o ≡ Equal
tied Less h = absurd (false≢true h)
tied Equal h = refl
tied Greater h = absurd (false≢true h)

-- the first element that fails a test
pub first_is : {X : Type 0} (p : X → Bool) (front : List X) (x : X) (rest : List X) → ((y : X) → Has front y → p y ≡ true) → p x ≡ false → IsFirstOf p (front ++ x ∷ rest) (Some x)
first_is p [] x rest h f = inr (f, refl)
first_is p (y ∷ front) x rest h f = inl (h y (inl refl), first_is p front x rest (λ z k. h z (inr k)) f)

pub first_none : {X : Type 0} (p : X → Bool) (xs : List X) → ((y : X) → Has xs y → p y ≡ true) → IsFirstOf p xs None
first_none p [] h = refl
first_none p (x ∷ xs) h = inl (h x (inl refl), first_none p xs (λ z k. h z (inr k)))

module _ {X : Type 0} (R : X → X → Ordering) (total : IsTotalOrder R) (exact : CmpEqualImpliesEq R) where
  not_less : (x : X) → is_lt (R x x) ≡ true → ⊥
  not_less x h = false≢true (sym (ap is_lt (tied_itself total x)) ∙ h)

  -- the element is in the list exactly where it is the one behind its place
  pub stands : (xs front : List X) (b : X) (rest : List X) (x : X) (t : Bool) → xs ≡ front ++ b ∷ rest → IsAscending R xs
      → ((y : X) → Has front y → is_lt (R y x) ≡ true) → is_lt (R b x) ≡ false → t ≡ is_eq (R b x) → IsTrue t ↔ Has xs x
  stands xs front b rest x t e a pass fail q = (
    λ h. subst (λ zs. Has zs x) (sym e) (has_right front (b ∷ rest) x (inl (exact b x (tied (R b x) (sym q ∙ h))))),
    λ h. q ∙ elim (has_append front (b ∷ rest) x (subst (λ zs. Has zs x) e h)) [
      | inl k ↦ absurd (not_less x (pass x k))
      | inr k ↦ elim k [
        | inl m ↦ ap is_eq (ap (λ w. R w x) m ∙ tied_itself total x)
        | inr m ↦ absurd (true≢false (sym (ap is_lt (below_member R b rest x (ascending_back R front (b ∷ rest) (subst (IsAscending R) e a)).0 m)) ∙ fail))
      ]
    ],
  )

  -- an element that is put at its place
  pub put_ascends : (xs front back ys : List X) (x : X) → xs ≡ front ++ back → ys ≡ front ++ x ∷ back → IsAscending R xs
      → ((y : X) → Has front y → is_lt (R y x) ≡ true) → ((y : X) → Has back y → is_lt (R y x) ≡ false) → ¬ Has xs x → IsAscending R ys
  put_ascends xs front back ys x e f a pass fail n =
      let w = subst (IsAscending R) e a in
      let high = λ (y : X) (k : Has back y). above y (fail y k) (λ (m : y ≡ x). n (subst (λ zs. Has zs x) (sym e) (has_right front back x (subst (λ z. Has back z) m k)))) in
      subst (IsAscending R) (sym f) (ascending_append R front (x ∷ back) (ascending_front R front back w)
      (below_from_members R x back high, ascending_back R front back w)
      (λ y z k m. elim m [
        | inl q ↦ subst (λ v. R y v ≡ Less) q (lower (R y x) (pass y k))
        | inr q ↦ total.trans y x z (lower (R y x) (pass y k)) (high z q)
      ]))
    where
      over : (o : Ordering) → is_lt o ≡ false → (o ≡ Equal → ⊥) → o ≡ Greater
      over Less h m = absurd (true≢false h)
      over Equal h m = absurd (m refl)
      over Greater h m = refl

      above : (y : X) → is_lt (R y x) ≡ false → (y ≡ x → ⊥) → R x y ≡ Less
      above y h m = let g = over (R y x) h (λ q. m (exact y x q)) in let s = total.antisymm x y in cc

  pub put_has : (xs front back ys : List X) (x : X) → xs ≡ front ++ back → ys ≡ front ++ x ∷ back → (y : X) → Has ys y ↔ (Has xs y ⊎ (y ≡ x))
  put_has xs front back ys x e f y = (
    λ h. elim (has_append front (x ∷ back) y (subst (λ zs. Has zs y) f h)) [
      | inl k ↦ inl (subst (λ zs. Has zs y) (sym e) (has_left front back y k))
      | inr k ↦ elim k [
        | inl m ↦ inr (sym m)
        | inr m ↦ inl (subst (λ zs. Has zs y) (sym e) (has_right front back y m))
      ]
    ],
    λ h. subst (λ zs. Has zs y) (sym f) (elim h [
      | inl k ↦ elim (has_append front back y (subst (λ zs. Has zs y) e k)) [
        | inl m ↦ has_left front (x ∷ back) y m
        | inr m ↦ has_right front (x ∷ back) y (inr m)
      ]
      | inr m ↦ has_right front (x ∷ back) y (inl (sym m))
    ]),
  )

  -- a member that isn't below is the one right behind the place of a search for it
  pub first_behind : (xs front : List X) (b : X) (rest : List X) (x : X) → xs ≡ front ++ b ∷ rest → IsAscending R xs
      → ((y : X) → Has front y → is_lt (R y x) ≡ true) → is_lt (R b x) ≡ false → Has xs x → b ≡ x
  first_behind xs front b rest x e a pass fail h = elim (has_append front (b ∷ rest) x (subst (λ zs. Has zs x) e h)) [
    | inl k ↦ absurd (not_less x (pass x k))
    | inr k ↦ elim k [
      | inl m ↦ m
      | inr m ↦ absurd (true≢false (sym (ap is_lt (below_member R b rest x (ascending_back R front (b ∷ rest) (subst (IsAscending R) e a)).0 m)) ∙ fail))
    ]
  ]

  -- a list without the member behind its place
  pub taken_ascends : (xs front back ys : List X) (b x : X) → xs ≡ front ++ back → back ≡ b ∷ drop 1 back → ys ≡ front ++ drop 1 back → IsAscending R xs → IsAscending R ys
  taken_ascends xs front back ys b x e f k a =
      subst (IsAscending R) (sym k) (ascending_without R total front b (drop 1 back) (subst (IsAscending R) (e ∙ ap (λ zs. front ++ zs) f) a))

  pub taken_has : (xs front back ys : List X) (b x : X) → xs ≡ front ++ back → back ≡ b ∷ drop 1 back → ys ≡ front ++ drop 1 back → IsAscending R xs
      → ((y : X) → Has front y → is_lt (R y x) ≡ true) → ((y : X) → Has back y → is_lt (R y x) ≡ false) → Has xs x
      → (y : X) → Has ys y ↔ (Has xs y × ¬ (y ≡ x))
  taken_has xs front back ys b x e f k a pass fail h y =
      let w = e ∙ ap (λ zs. front ++ zs) f in
      let q = first_behind xs front b (drop 1 back) x w a pass (fail b (subst (λ zs. Has zs b) (sym f) (inl refl))) h in
      let i = has_without R total front b (drop 1 back) y (subst (IsAscending R) w a) in (
        λ m. let j = i.0 (subst (λ zs. Has zs y) k m) in (subst (λ zs. Has zs y) (sym w) j.0, λ n. j.1 (n ∙ sym q)),
        λ m. subst (λ zs. Has zs y) (sym k) (i.1 (subst (λ zs. Has zs y) w m.0, λ n. m.1 (n ∙ q))),
      )
