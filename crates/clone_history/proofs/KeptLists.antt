-- Laws of lists of which the members of a kind are kept, and of the first of a kind.
use Rattle.std.proofs.Common.{◌≡◌, ℕ, zero, suc, ◌+◌, ◌<◌, ◌≤◌, List, [], ◌∷◌, ◌++◌, ◌↔◌, length, get_or, take, map, inl, inr, refl, sym, ◌∙◌, ap, subst, arith}
use Rattle.std.proofs.lemmas.List.{take_more, take_all}
use Rattle.std.specs.List.{AllZip}
use Rattle.tree_clock.specs.Lists.{Has}
use Rattle.mld_ops.specs.Picking.{HasNone}
use Rattle.clone_history.specs.KeptMembers.{KeepsThose, IsFirstMember}

module _ {X : Type 0} (P : X → Type 0) where
  -- ---- those that are kept

  -- they are one list
  pub keeps_one : (xs kept other : List X) → KeepsThose P xs kept → KeepsThose P xs other → kept ≡ other
  keeps_one [] kept other k m = k ∙ sym m
  keeps_one (x ∷ xs) kept other (inl k) (inl m) = k.3 ∙ ap (λ (ys : List X). x ∷ ys) (keeps_one xs k.1 m.1 k.2 m.2) ∙ sym m.3
  keeps_one (x ∷ xs) kept other (inl k) (inr m) = absurd (m.0 k.0)
  keeps_one (x ∷ xs) kept other (inr k) (inl m) = absurd (k.0 m.0)
  keeps_one (x ∷ xs) kept other (inr k) (inr m) = keeps_one xs kept other k.1 m.1

  -- they are members of the list and of the kind
  pub kept_has : (xs kept : List X) (x : X) → KeepsThose P xs kept → Has kept x → Has xs x × P x
  kept_has [] kept x k h = absurd (subst (λ (ys : List X). Has ys x) k h)
  kept_has (y ∷ xs) kept x (inl k) h = elim (subst (λ (ys : List X). Has ys x) k.3 h) [
    | inl e ↦ (inl e, subst P e k.0)
    | inr m ↦ let rest : Has xs x × P x = kept_has xs k.1 x k.2 m in (inr rest.0, rest.1)
  ]
  kept_has (y ∷ xs) kept x (inr k) h = let rest : Has xs x × P x = kept_has xs kept x k.1 h in (inr rest.0, rest.1)

  -- one more that is of the kind, and one that isn't
  pub keeps_push : (xs kept : List X) (x : X) → KeepsThose P xs kept → P x → KeepsThose P (xs ++ x ∷ []) (kept ++ x ∷ [])
  keeps_push [] kept x k p = inl (p, [], refl, ap (λ (ys : List X). ys ++ x ∷ []) k)
  keeps_push (y ∷ xs) kept x (inl k) p = inl (k.0, k.1 ++ x ∷ [], keeps_push xs k.1 x k.2 p, ap (λ (ys : List X). ys ++ x ∷ []) k.3)
  keeps_push (y ∷ xs) kept x (inr k) p = inr (k.0, keeps_push xs kept x k.1 p)

  pub keeps_pass : (xs kept : List X) (x : X) → KeepsThose P xs kept → ¬ P x → KeepsThose P (xs ++ x ∷ []) kept
  keeps_pass [] kept x k n = inr (n, k)
  keeps_pass (y ∷ xs) kept x (inl k) n = inl (k.0, k.1, keeps_pass xs k.1 x k.2 n, k.3)
  keeps_pass (y ∷ xs) kept x (inr k) n = inr (k.0, keeps_pass xs kept x k.1 n)

  -- the same in a loop
  pub keeps_more : (xs kept : List X) (i : ℕ) (x : X) → i < length xs → x ≡ get_or xs i x → KeepsThose P (take i xs) kept → P x
      → KeepsThose P (take (i + 1) xs) (kept ++ x ∷ [])
  keeps_more xs kept i x l e k p =
      subst (λ (ys : List X). KeepsThose P ys (kept ++ x ∷ [])) (sym (take_more xs i x l ∙ ap (λ (y : X). take i xs ++ y ∷ []) (sym e)))
      (keeps_push (take i xs) kept x k p)

  pub keeps_same : (xs kept : List X) (i : ℕ) (x : X) → i < length xs → x ≡ get_or xs i x → KeepsThose P (take i xs) kept → ¬ P x
      → KeepsThose P (take (i + 1) xs) kept
  keeps_same xs kept i x l e k n =
      subst (λ (ys : List X). KeepsThose P ys kept) (sym (take_more xs i x l ∙ ap (λ (y : X). take i xs ++ y ∷ []) (sym e)))
      (keeps_pass (take i xs) kept x k n)

  pub keeps_all : (xs kept : List X) (i : ℕ) → length xs ≤ i → KeepsThose P (take i xs) kept → KeepsThose P xs kept
  keeps_all xs kept i l k = subst (λ (ys : List X). KeepsThose P ys kept) (take_all i xs l) k

  -- ---- the first one

  -- it is a member, and of the kind
  pub none_has : (xs : List X) (x : X) → HasNone P xs → Has xs x → ¬ P x
  none_has [] x n h = absurd h
  none_has (y ∷ xs) x n (inl e) = subst (λ (z : X). ¬ P z) e n.0
  none_has (y ∷ xs) x n (inr h) = none_has xs x n.1 h

  -- it stands at a place before which none is of the kind
  pub first_at : (xs : List X) (i : ℕ) (x : X) → i < length xs → x ≡ get_or xs i x → HasNone P (take i xs) → P x → IsFirstMember P xs x
  first_at [] i x l e n p = absurd (omega (arith, l))
  first_at (y ∷ xs) zero x l e n p = (xs, inl (subst P e p, e, refl))
  first_at (y ∷ xs) (suc i) x l e n p =
      let rest : IsFirstMember P xs x = first_at xs i x (omega (arith, l)) e n.1 p in
      (y ∷ rest.0, inr (n.0, rest.0, rest.1, refl))

-- ---- two kinds

module _ {X : Type 0} (P Q : X → Type 0) where
  pub none_as : (xs : List X) → ((x : X) → Has xs x → Q x → P x) → HasNone P xs → HasNone Q xs
  none_as [] to n = tt
  none_as (x ∷ xs) to n = (λ q. n.0 (to x (inl refl) q), none_as xs (λ y h. to y (inr h)) n.1)

  pub first_as : (xs : List X) (x : X) → ((y : X) → Has xs y → P y ↔ Q y) → IsFirstMember P xs x → IsFirstMember Q xs x
  first_as [] x alike first = absurd first.1
  first_as (y ∷ xs) x alike (others, inl t) = (others, inl ((alike y (inl refl)).0 t.0, t.1, t.2))
  first_as (y ∷ xs) x alike (others, inr t) =
      let rest : IsFirstMember Q xs x = first_as xs x (λ z h. alike z (inr h)) (t.1, t.2) in
      (y ∷ rest.0, inr (λ q. t.0 ((alike y (inl refl)).1 q), rest.0, rest.1, refl))

-- ---- images

module _ {X Y : Type 0} (f : X → Y) (P : Y → Type 0) where
  pub none_mapped : (xs : List X) → HasNone (λ x. P (f x)) xs → HasNone P (map f xs)
  none_mapped [] n = tt
  none_mapped (x ∷ xs) n = (n.0, none_mapped xs n.1)

  pub first_mapped : (xs : List X) (x : X) → IsFirstMember (λ y. P (f y)) xs x → IsFirstMember P (map f xs) (f x)
  first_mapped [] x first = absurd first.1
  first_mapped (y ∷ xs) x (others, inl t) = (map f xs, inl (t.0, ap f t.1, refl))
  first_mapped (y ∷ xs) x (others, inr t) =
      let rest : IsFirstMember P (map f xs) (f x) = first_mapped xs x (t.1, t.2) in
      (f y ∷ rest.0, inr (t.0, rest.0, rest.1, refl))

-- ---- two lists that agree place by place

-- where those of the first list are kept, there are members of the second that agree with them
pub pairs_kept : {X Y : Type 0} (R : X → Y → Type 0) (P : X → Type 0) (xs : List X) (ys : List Y) (kept : List X) → AllZip R xs ys → KeepsThose P xs kept
    → (others : List Y) × AllZip R kept others × ((y : Y) → Has others y → Has ys y)
pairs_kept {X} {Y} R P [] [] kept all k = ([], subst (λ (zs : List X). AllZip R zs []) (sym k) tt, λ y h. h)
pairs_kept {X} {Y} R P (x ∷ xs) (y ∷ ys) kept all (inl k) =
    let rest = pairs_kept R P xs ys k.1 all.1 k.2 in (
      y ∷ rest.0,
      subst (λ (zs : List X). AllZip R zs (y ∷ rest.0)) (sym k.3) (all.0, rest.1),
      λ z h. elim h [ inl e ↦ inl e | inr m ↦ inr (rest.2 z m) ],
    )
pairs_kept {X} {Y} R P (x ∷ xs) (y ∷ ys) kept all (inr k) =
    let rest = pairs_kept R P xs ys kept all.1 k.1 in (rest.0, rest.1, λ z h. inr (rest.2 z h))
pairs_kept {X} {Y} R P [] (y ∷ ys) kept all k = absurd all
pairs_kept {X} {Y} R P (x ∷ xs) [] kept all k = absurd all
