-- A number is put before the first one whose name is behind its own.
use Rattle.std.proofs.Common.{◌≡◌, ◌∙◌, ℕ, zero, suc, ◌+◌, ◌<◌, List, [], ◌∷◌, ◌++◌, true, false, length, None, take, drop, get_or, refl, sym, ap, if◌then◌else◌, arith}
use Rattle.std.specs.Prelude.{slice_get, slice_index_or}
use Rattle.std.specs.Option.{unwrap_or}
use Rattle.std.proofs.lemmas.Option.{unwrap_or-slice_get}
use Rattle.jrql_patterns.specs.QueryReading.{is_before, placed}

-- a number without a name
pub unnamed : (named : List (List ℕ)) (number : ℕ) → slice_get named number ≡ None → slice_index_or named number [] ≡ []
unnamed named number none = sym (unwrap_or-slice_get named number []) ∙ ap (λ name. unwrap_or name []) none

module _ (named : List (List ℕ)) (number : ℕ) where
  -- one before which it isn't put
  pub put_behind : (others : List ℕ) (place other : ℕ) → place < length others → other ≡ get_or others place other → is_before named number other ≡ false
      → take place others ++ placed named number (drop place others) ≡ take (place + 1) others ++ placed named number (drop (place + 1) others)
  put_behind [] place other within is behind = absurd (omega arith)
  put_behind (first ∷ rest) zero other within is behind =
      ap (λ b. if b then number ∷ first ∷ rest else first ∷ placed named number rest) (ap (is_before named number) (sym is) ∙ behind)
  put_behind (first ∷ rest) (suc place) other within is behind =
      let next : suc place + 1 ≡ suc (place + 1) = omega arith in
      rw next (ap (λ l. first ∷ l) (put_behind rest place other (omega arith) is behind))

  -- one before which it is
  pub put_before : (others : List ℕ) (place other : ℕ) → place < length others → other ≡ get_or others place other → is_before named number other ≡ true
      → take place others ++ placed named number (drop place others) ≡ take place others ++ number ∷ drop place others
  put_before [] place other within is before = absurd (omega arith)
  put_before (first ∷ rest) zero other within is before =
      ap (λ b. if b then number ∷ first ∷ rest else first ∷ placed named number rest) (ap (is_before named number) (sym is) ∙ before)
  put_before (first ∷ rest) (suc place) other within is before = ap (λ l. first ∷ l) (put_before rest place other (omega arith) is before)

  -- at the end
  pub put_last : (others : List ℕ) → take (length others) others ++ placed named number (drop (length others) others) ≡ take (length others) others ++ number ∷ drop (length others) others
  put_last [] = refl
  put_last (first ∷ rest) = ap (λ l. first ∷ l) (put_last rest)
