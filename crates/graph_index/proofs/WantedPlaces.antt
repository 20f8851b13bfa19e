-- Places of values in tables that only grow.
use Rattle.std.proofs.Common.{◌≡◌, ◌∙◌, ℕ, ◌+◌, List, [], ◌∷◌, ◌++◌, Bool, true, false, get_or, Some, cond, if◌then◌else◌, sym}
use Rattle.std.specs.Prelude.{position}
use Rattle.std.specs.List.{list_any, position_from}
use Rattle.std.specs.Bool.{Decides}
use Rattle.std.proofs.lemmas.Iterator.Adapters.{position_from-zero}
use Rattle.std.proofs.lemmas.List.Quantifiers.{position-Some}
use Rattle.number_tables.specs.TableNumbers.{with_new_value}

module _ {X : Type 0} (p : X → Bool) where
  -- a place stays where a value comes behind
  kept_from : (i : ℕ) (xs : List X) (y : X) (n : ℕ) → position_from p i xs ≡ Some n → position_from p i (xs ++ y ∷ []) ≡ Some n
  kept_from i [] y n h = cc
  kept_from i (x ∷ xs) y n h = by (p x) (kept_from (i + 1) xs y n) h
    where
      by : (b : Bool) → (position_from p (i + 1) xs ≡ Some n → position_from p (i + 1) (xs ++ y ∷ []) ≡ Some n)
          → cond b (Some i) (position_from p (i + 1) xs) ≡ Some n → cond b (Some i) (position_from p (i + 1) (xs ++ y ∷ [])) ≡ Some n
      by true f g = g
      by false f g = f g

  from_zero : (xs : List X) → position p xs ≡ position_from p 0 xs
  from_zero xs = position_from-zero p xs

  pub kept_place : (xs : List X) (y : X) (n : ℕ) → position p xs ≡ Some n → position p (xs ++ y ∷ []) ≡ Some n
  kept_place xs y n h = from_zero (xs ++ y ∷ []) ∙ kept_from 0 xs y n (sym (from_zero xs) ∙ h)

module _ {X : Type 0} (eq : X → X → Bool) where
  -- what had a place keeps it where a value is inserted
  pub kept_inserted : (xs : List X) (y x : X) (n : ℕ) → position (eq x) xs ≡ Some n → position (eq x) (with_new_value eq xs y) ≡ Some n
  kept_inserted xs y x n h = by (list_any (eq y) xs)
    where
      by : (b : Bool) → position (eq x) (if b then xs else xs ++ y ∷ []) ≡ Some n
      by true = h
      by false = kept_place (eq x) xs y n h

  -- what has one place is one value
  pub same_place : ((a b : X) → Decides (eq a b) (a ≡ b)) → (xs : List X) (a b : X) (n : ℕ) → position (eq a) xs ≡ Some n → position (eq b) xs ≡ Some n → a ≡ b
  same_place decides xs a b n h k =
      (decides a (get_or xs n a)).0 (position-Some (eq a) xs n a h).1
      ∙ sym ((decides b (get_or xs n a)).0 (position-Some (eq b) xs n a k).1)

pub some_injective : {X : Type 0} (a b : X) → Some a ≡ Some b → a ≡ b
some_injective a b e = cc
