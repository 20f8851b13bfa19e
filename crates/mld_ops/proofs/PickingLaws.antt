-- Laws of lists of which members are left out or taken out.
use Rattle.std.proofs.Common.{◌≡◌, List, [], ◌∷◌, ◌++◌, ◌↔◌, inl, inr, refl, sym, ◌∙◌, ap, subst}
use Rattle.tree_clock.specs.Lists.{Has}
use Rattle.mld_ops.specs.Picking.{HasNone, DropsThose, TakesFirst}
use Rattle.std.specs.List.{AllZip}

module _ {X : Type 0} (P : X → Type 0) where
  -- what is left of a list once a kind is left out is one list
  pub drops_one : (xs rest other : List X) → DropsThose P xs rest → DropsThose P xs other → rest ≡ other
  drops_one [] rest other d e = d ∙ sym e
  drops_one (x ∷ xs) rest other (inl d) (inl e) = drops_one xs rest other d.1 e.1
  drops_one (x ∷ xs) rest other (inl d) (inr e) = absurd (e.0 d.0)
  drops_one (x ∷ xs) rest other (inr d) (inl e) = absurd (d.0 e.0)
  drops_one (x ∷ xs) rest other (inr d) (inr e) = d.3 ∙ ap (λ (zs : List X). x ∷ zs) (drops_one xs d.1 e.1 d.2 e.2) ∙ sym e.3

  -- the first of a kind is one, and so is what is left
  pub first_one : (xs : List X) (first next : X) (rest other : List X) → TakesFirst P xs first rest → TakesFirst P xs next other
      → (first ≡ next) × (rest ≡ other)
  first_one [] first next rest other t u = absurd t
  first_one (x ∷ xs) first next rest other (inl t) (inl u) = (t.1 ∙ sym u.1, t.2 ∙ sym u.2)
  first_one (x ∷ xs) first next rest other (inl t) (inr u) = absurd (u.0 t.0)
  first_one (x ∷ xs) first next rest other (inr t) (inl u) = absurd (t.0 u.0)
  first_one (x ∷ xs) first next rest other (inr t) (inr u) =
      let same = first_one xs first next t.1 u.1 t.2 u.2 in (same.0, t.3 ∙ ap (λ (zs : List X). x ∷ zs) same.1 ∙ sym u.3)

  -- where none is of the kind there is no first one
  pub none_no_first : (xs : List X) (first : X) (rest : List X) → HasNone P xs → ¬ TakesFirst P xs first rest
  none_no_first [] first rest n t = t
  none_no_first (x ∷ xs) first rest n (inl t) = n.0 t.0
  none_no_first (x ∷ xs) first rest n (inr t) = none_no_first xs first t.1 n.1 t.2

  -- the first one is of the kind, and is a member
  pub first_is : (xs : List X) (first : X) (rest : List X) → TakesFirst P xs first rest → P first
  first_is [] first rest t = absurd t
  first_is (x ∷ xs) first rest (inl t) = subst P (sym t.1) t.0
  first_is (x ∷ xs) first rest (inr t) = first_is xs first t.1 t.2

  pub first_member : (xs : List X) (first : X) (rest : List X) → TakesFirst P xs first rest → Has xs first
  first_member [] first rest t = absurd t
  first_member (x ∷ xs) first rest (inl t) = inl (sym t.1)
  first_member (x ∷ xs) first rest (inr t) = inr (first_member xs first t.1 t.2)

  -- what is left are members of the list
  pub rest_members : (xs : List X) (first : X) (rest : List X) → TakesFirst P xs first rest → (y : X) → Has rest y → Has xs y
  rest_members [] first rest t y h = absurd t
  rest_members (x ∷ xs) first rest (inl t) y h = inr (subst (λ (zs : List X). Has zs y) t.2 h)
  rest_members (x ∷ xs) first rest (inr t) y h = elim (subst (λ (zs : List X). Has zs y) t.3 h) [
    | inl e ↦ inl e
    | inr k ↦ inr (rest_members xs first t.1 t.2 y k)
  ]

  pub kept_members : (xs rest : List X) → DropsThose P xs rest → (y : X) → Has rest y → Has xs y
  kept_members [] rest d y h = subst (λ (zs : List X). Has zs y) d h
  kept_members (x ∷ xs) rest (inl d) y h = inr (kept_members xs rest d.1 y h)
  kept_members (x ∷ xs) rest (inr d) y h = elim (subst (λ (zs : List X). Has zs y) d.3 h) [
    | inl e ↦ inl e
    | inr k ↦ inr (kept_members xs d.1 d.2 y k)
  ]

  -- where none is of the kind nothing is left out
  pub none_drops : (xs : List X) → HasNone P xs → DropsThose P xs xs
  none_drops [] n = refl
  none_drops (x ∷ xs) n = inr (n.0, xs, none_drops xs n.1, refl)

-- ---- two lists that agree place by place

module _ {X Y : Type 0} (R : X → Y → Type 0) (P : X → Type 0) (Q : Y → Type 0) (alike : (x : X) (y : Y) → R x y → P x ↔ Q y) where
  -- none of the first list is of its kind just where none of the second is
  pub pairs_none : (xs : List X) (ys : List Y) → AllZip R xs ys → HasNone P xs → HasNone Q ys
  pairs_none [] [] a n = tt
  pairs_none (x ∷ xs) (y ∷ ys) a n = (λ q. n.0 ((alike x y a.0).1 q), pairs_none xs ys a.1 n.1)
  pairs_none [] (y ∷ ys) a n = absurd a
  pairs_none (x ∷ xs) [] a n = absurd a

  -- what is left of both agrees
  pub pairs_drop : (xs : List X) (ys : List Y) (rest : List X) → AllZip R xs ys → DropsThose P xs rest
      → (others : List Y) × DropsThose Q ys others × AllZip R rest others
  pairs_drop [] [] rest a d = ([], refl, subst (λ (zs : List X). AllZip R zs []) (sym d) tt)
  pairs_drop (x ∷ xs) (y ∷ ys) rest a (inl d) =
      let more = pairs_drop xs ys rest a.1 d.1 in (more.0, inl ((alike x y a.0).0 d.0, more.1), more.2)
  pairs_drop (x ∷ xs) (y ∷ ys) rest a (inr d) =
      let more = pairs_drop xs ys d.1 a.1 d.2 in (
        y ∷ more.0,
        inr (λ q. d.0 ((alike x y a.0).1 q), more.0, more.1, refl),
        subst (λ (zs : List X). AllZip R zs (y ∷ more.0)) (sym d.3) (a.0, more.2),
      )
  pairs_drop [] (y ∷ ys) rest a d = absurd a
  pairs_drop (x ∷ xs) [] rest a d = absurd a

  -- the first ones agree, and what is left of both
  pub pairs_first : (xs : List X) (ys : List Y) (first : X) (rest : List X) → AllZip R xs ys → TakesFirst P xs first rest
      → (other : Y) × (others : List Y) × TakesFirst Q ys other others × R first other × AllZip R rest others
  pairs_first [] [] first rest a t = absurd t
  pairs_first (x ∷ xs) (y ∷ ys) first rest a (inl t) = (
    y,
    ys,
    inl ((alike x y a.0).0 t.0, refl, refl),
    subst (λ (z : X). R z y) (sym t.1) a.0,
    subst (λ (zs : List X). AllZip R zs ys) (sym t.2) a.1,
  )
  pairs_first (x ∷ xs) (y ∷ ys) first rest a (inr t) =
      let more = pairs_first xs ys first t.1 a.1 t.2 in (
        more.0,
        y ∷ more.1,
        inr (λ q. t.0 ((alike x y a.0).1 q), more.1, more.2, refl),
        more.3,
        subst (λ (zs : List X). AllZip R zs (y ∷ more.1)) (sym t.3) (a.0, more.4),
      )
  pairs_first [] (y ∷ ys) first rest a t = absurd a
  pairs_first (x ∷ xs) [] first rest a t = absurd a

-- two such lists with one more pair at the end
pub pairs_more : {X Y : Type 0} (R : X → Y → Type 0) (xs : List X) (ys : List Y) (x : X) (y : Y) → AllZip R xs ys → R x y
    → AllZip R (xs ++ x ∷ []) (ys ++ y ∷ [])
pairs_more R [] [] x y a r = (r, tt)
pairs_more R (z ∷ xs) (w ∷ ys) x y a r = (a.0, pairs_more R xs ys x y a.1 r)
pairs_more R [] (w ∷ ys) x y a r = absurd a
pairs_more R (z ∷ xs) [] x y a r = absurd a

-- two such lists under a relation that follows from the first at each pair of members
pub pairs_as : {X Y : Type 0} (R S : X → Y → Type 0) (xs : List X) (ys : List Y) → AllZip R xs ys
    → ((x : X) (y : Y) → Has ys y → R x y → S x y) → AllZip S xs ys
pairs_as R S [] [] a f = tt
pairs_as R S (x ∷ xs) (y ∷ ys) a f = (f x y (inl refl) a.0, pairs_as R S xs ys a.1 (λ z w h r. f z w (inr h) r))
pairs_as R S [] (y ∷ ys) a f = absurd a
pairs_as R S (x ∷ xs) [] a f = absurd a
