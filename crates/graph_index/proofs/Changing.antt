-- Pairs that go, and pairs that come, one by one.
use Rattle.std.proofs.Common.{◌≡◌, ◌∙◌, ℕ, ◌+◌, ◌<◌, List, [], ◌∷◌, ◌++◌, length, get_or, take, ◌⊎◌, ◌↔◌, sym, subst, inl, inr}
use Rattle.tree_clock.specs.Lists.{Has}
use Rattle.mld_ops.proofs.AscendingLaws.{has_append, has_left, has_right, has_take_more}

-- one more of the values that go
pub gone_more : {X : Type 0} (olds xs ys drops : List X) (i : ℕ) (d : X) → i < length drops → d ≡ get_or drops i d
    → ((y : X) → Has xs y ↔ (Has olds y × ¬ Has (take i drops) y)) → ((y : X) → Has ys y ↔ (Has xs y × ¬ (y ≡ d)))
    → (y : X) → Has ys y ↔ (Has olds y × ¬ Has (take (i + 1) drops) y)
gone_more olds xs ys drops i d l e before after y = (
  λ h. let g = (after y).0 h in let f = (before y).0 g.0 in (
    f.0,
    λ k. elim ((has_take_more drops i d y l).0 k) [ inl m ↦ f.1 m | inr n ↦ g.1 (sym n ∙ sym e) ],
  ),
  λ h. (after y).1 (
    (before y).1 (h.0, λ m. h.1 ((has_take_more drops i d y l).1 (inl m))),
    λ n. h.1 ((has_take_more drops i d y l).1 (inr (sym e ∙ sym n))),
  ),
)

-- one more of the values that come, from the end
pub come_more : {X : Type 0} (olds alls xs ys rest more : List X) (d : X) → more ≡ rest ++ d ∷ []
    → ((y : X) → (Has xs y ⊎ Has more y) ↔ (Has olds y ⊎ Has alls y)) → ((y : X) → Has ys y ↔ (Has xs y ⊎ (y ≡ d)))
    → (y : X) → (Has ys y ⊎ Has rest y) ↔ (Has olds y ⊎ Has alls y)
come_more olds alls xs ys rest more d e before after y = (
  λ h. (before y).0 (elim h [
    | inl k ↦ elim ((after y).0 k) [
      | inl m ↦ inl m
      | inr m ↦ inr (subst (λ zs. Has zs y) (sym e) (has_right rest (d ∷ []) y (inl (sym m))))
    ]
    | inr k ↦ inr (subst (λ zs. Has zs y) (sym e) (has_left rest (d ∷ []) y k))
  ]),
  λ h. elim ((before y).1 h) [
    | inl k ↦ inl ((after y).1 (inl k))
    | inr k ↦ elim (has_append rest (d ∷ []) y (subst (λ zs. Has zs y) e k)) [
      | inl m ↦ inr m
      | inr m ↦ inl ((after y).1 (inr (elim m [ inl n ↦ sym n | inr n ↦ absurd n ])))
    ]
  ],
)

-- once none is left to come
pub come_all : {X : Type 0} (olds alls xs rest : List X) → rest ≡ [] → ((y : X) → (Has xs y ⊎ Has rest y) ↔ (Has olds y ⊎ Has alls y)) → (y : X) → Has xs y ↔ (Has olds y ⊎ Has alls y)
come_all olds alls xs rest e all y = (
  λ h. (all y).0 (inl h),
  λ h. elim ((all y).1 h) [ inl k ↦ k | inr k ↦ absurd (subst (λ zs. Has zs y) e k) ],
)
