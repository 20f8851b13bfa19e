-- The texts of chunks, those of their first elements, behind an edit.
use Rattle.std.proofs.Common.{◌≡◌, ℕ, suc, zero, ◌<◌, List, [], ◌∷◌, length, get_or, take, drop, insert, remove, refl, sym, ap, arith}
use Rattle.hinted_chunks.specs.Hinted.{top_key, top_after}
use Rattle.hinted_chunks.specs.Leading.{leading}

module _ {X : Type 0} (key : X → List ℕ) where
  pub top_stays : (chunk : List X) (at : ℕ) (x : X) → (at ≡ 0 → ⊥) → top_after key chunk at x ≡ top_key key chunk
  top_stays chunk zero x n = absurd (n refl)
  top_stays chunk (suc at) x n = refl

  pub top_insert : (chunk : List X) (at : ℕ) (x : X) → 0 < length chunk → top_key key (insert chunk at x) ≡ top_after key chunk at x
  top_insert [] at x l = absurd (omega (arith, l))
  top_insert (y ∷ ys) zero x l = refl
  top_insert (y ∷ ys) (suc at) x l = refl

  pub top_remove : (chunk : List X) (at : ℕ) (x : X) → 1 < length chunk → x ≡ get_or chunk 1 x → top_key key (remove chunk at) ≡ top_after key chunk at x
  top_remove [] at x l e = absurd (omega (arith, l))
  top_remove (y ∷ []) at x l e = absurd (omega (arith, l))
  top_remove (y ∷ z ∷ zs) zero x l e = ap key (sym e)
  top_remove (y ∷ z ∷ zs) (suc at) x l e = refl

  pub top_take : (n : ℕ) (chunk : List X) → 0 < n → top_key key (take n chunk) ≡ top_key key chunk
  top_take zero chunk l = absurd (omega (arith, l))
  top_take (suc n) [] l = refl
  top_take (suc n) (x ∷ xs) l = refl

-- an empty text has no byte behind a place
pub leading_none : (n place : ℕ) → leading n (drop place []) ≡ 0
leading_none zero zero = refl
leading_none zero (suc place) = refl
leading_none (suc n) zero = refl
leading_none (suc n) (suc place) = refl
