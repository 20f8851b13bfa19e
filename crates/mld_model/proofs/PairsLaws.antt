-- Laws of two lists that agree place by place.
use Rattle.std.proofs.Common.{◌≡◌, ℕ, zero, suc, List, [], ◌∷◌, ◌++◌, inl, inr, refl, ap, subst, length, Some, None}
use Rattle.std.specs.Prelude.{slice_get}
use Rattle.tree_clock.specs.Lists.{Has}
use Rattle.std.specs.List.{AllZip}

-- the member of the second list at a place, and how the first list's member there relates to it
pub record PairAt {X Y : Type 0} (R : X → Y → Type 0) (x : X) (ys : List Y) (place : ℕ) : Type 0 where
  pub other : Y
  pub at : slice_get ys place ≡ Some other
  pub stands : Has ys other
  pub relates : R x other

module _ {X Y : Type 0} (R : X → Y → Type 0) where
  -- where the first list has a member the second has one
  pub pair_at : (xs : List X) (ys : List Y) → AllZip R xs ys → (place : ℕ) (x : X) → slice_get xs place ≡ Some x → PairAt R x ys place
  pair_at [] [] all place x is = cc
  pair_at (z ∷ xs) (y ∷ ys) all zero x is =
      let same : z ≡ x = cc in
      record { other = y; at = refl; stands = inl refl; relates = subst (λ (w : X). R w y) same all.0 }
  pair_at (z ∷ xs) (y ∷ ys) all (suc place) x is =
      let rest : PairAt R x ys place = pair_at xs ys all.1 place x is in
      record { other = rest.other; at = rest.at; stands = inr rest.stands; relates = rest.relates }
  pair_at [] (y ∷ ys) all place x is = absurd all
  pair_at (z ∷ xs) [] all place x is = absurd all

  -- where the first list has none the second has none
  pub no_pair_at : (xs : List X) (ys : List Y) → AllZip R xs ys → (place : ℕ) → slice_get xs place ≡ None → slice_get ys place ≡ None
  no_pair_at [] [] all place is = refl
  no_pair_at (x ∷ xs) (y ∷ ys) all zero is = cc
  no_pair_at (x ∷ xs) (y ∷ ys) all (suc place) is = no_pair_at xs ys all.1 place is
  no_pair_at [] (y ∷ ys) all place is = absurd all
  no_pair_at (x ∷ xs) [] all place is = absurd all

  -- both lists have as many members
  pub pairs_count : (xs : List X) (ys : List Y) → AllZip R xs ys → length xs ≡ length ys
  pairs_count [] [] all = refl
  pairs_count (x ∷ xs) (y ∷ ys) all = ap suc (pairs_count xs ys all.1)
  pairs_count [] (y ∷ ys) all = absurd all
  pairs_count (x ∷ xs) [] all = absurd all

  -- two such lists, each with another such pair of lists behind it
  pub pairs_append : (xs : List X) (ys : List Y) (zs : List X) (ws : List Y) → AllZip R xs ys → AllZip R zs ws → AllZip R (xs ++ zs) (ys ++ ws)
  pairs_append [] [] zs ws all more = more
  pairs_append (x ∷ xs) (y ∷ ys) zs ws all more = (all.0, pairs_append xs ys zs ws all.1 more)
  pairs_append [] (y ∷ ys) zs ws all more = absurd all
  pairs_append (x ∷ xs) [] zs ws all more = absurd all
