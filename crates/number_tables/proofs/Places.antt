-- A value that is found at a place of a list in which none stands twice has that place.
use Rattle.std.proofs.Common.{◌≡◌, ◌∙◌, ℕ, zero, suc, ◌+◌, List, [], ◌∷◌, Bool, true, false, Some, cond, refl, sym, subst, ap, arith}
use Rattle.std.specs.Prelude.{position}
use Rattle.std.specs.List.{AllByRecursion, IsDistinct, position_from, slice_get}
use Rattle.std.specs.Bool.{Decides}
use Rattle.std.proofs.lemmas.Bool.{true≢false}
use Rattle.std.proofs.lemmas.Iterator.Adapters.{position_from-zero}
use Rattle.std.proofs.lemmas.Map.Keys.{IsDistinct-head, IsDistinct-tail}
use Rattle.number_tables.proofs.Seeking.{one_inside}

all_at : {X : Type 0} (P : X → Type 0) (xs : List X) (n : ℕ) (x : X) → AllByRecursion P xs → slice_get xs n ≡ Some x → P x
all_at P [] n x a h = cc
all_at P (y ∷ xs) zero x a h = subst P (one_inside y x h) a.0
all_at P (y ∷ xs) (suc n) x a h = all_at P xs n x a.1 h

module _ {X : Type 0} (eq : X → X → Bool) (decides : (a b : X) → Decides (eq a b) (a ≡ b)) where
  at_from : (i : ℕ) (xs : List X) (n : ℕ) (own x : X) → IsDistinct eq xs → slice_get xs n ≡ Some own → eq x own ≡ true → position_from (eq x) i xs ≡ Some (i + n)
  at_from i [] n own x d h e = cc
  at_from i (y ∷ xs) zero own x d h e = by (eq x y) (ap (eq x) (one_inside y own h) ∙ e)
    where
      by : (b : Bool) → b ≡ true → cond b (Some i) (position_from (eq x) (i + 1) xs) ≡ Some (i + 0)
      by true q = let s : i ≡ i + 0 = omega arith in ap (λ k. Some k) s
      by false q = absurd (true≢false (sym q))
  at_from i (y ∷ xs) (suc n) own x d h e = by (eq x y) (λ q. apart q) (at_from (i + 1) xs n own x (IsDistinct-tail eq y xs d) h e)
    where
      away : eq y own ≡ false
      away = all_at (λ z. eq y z ≡ false) xs n own (IsDistinct-head eq y xs d) h

      apart : eq x y ≡ true → ⊥
      apart q = true≢false (sym e ∙ ap (λ w. eq w own) ((decides x y).0 q) ∙ away)

      by : (b : Bool) → (b ≡ true → ⊥) → position_from (eq x) (i + 1) xs ≡ Some (i + 1 + n) → cond b (Some i) (position_from (eq x) (i + 1) xs) ≡ Some (i + suc n)
      by true f rest = absurd (f refl)
      by false f rest = let s : i + 1 + n ≡ i + suc n = omega arith in rest ∙ ap (λ k. Some k) s

  -- a value that is found at a place has that place
  pub at_place : (xs : List X) (n : ℕ) (own x : X) → IsDistinct eq xs → slice_get xs n ≡ Some own → eq x own ≡ true → position (eq x) xs ≡ Some n
  at_place xs n own x d h e = let z : 0 + n ≡ n = omega arith in position_from-zero (eq x) xs ∙ at_from 0 xs n own x d h e ∙ ap (λ k. Some k) z
