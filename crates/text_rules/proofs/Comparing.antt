-- Steps of the loop that looks for the first place where two texts differ, and ranks at a place.
use Rattle.std.proofs.Common.{◌≡◌, ◌≢◌, ℕ, zero, suc, ◌+◌, ◌<◌, ◌≤◌, List, [], ◌∷◌, length, get_or, drop, min, refl, inl, inr, arith}
use Rattle.std.proofs.lemmas.List.{drop_more, drop_all}
use Rattle.std.proofs.lemmas.Bool.{eq-eqb, ne_eqb, cases_lt}
use Rattle.text_rules.specs.Compare.{common, rank, rank_at}

pub rank_at_read : (xs : List ℕ) (i : ℕ) → i < length xs → rank_at xs i ≡ rank (get_or xs i 0)
rank_at_read [] i h = absurd (omega arith)
rank_at_read (x ∷ xs) zero h = refl
rank_at_read (x ∷ xs) (suc i) h = rank_at_read xs i (omega arith)

pub rank_at_past : (xs : List ℕ) (i : ℕ) → length xs ≤ i → rank_at xs i ≡ 8704
rank_at_past [] i h = refl
rank_at_past (x ∷ xs) zero h = absurd (omega arith)
rank_at_past (x ∷ xs) (suc i) h = rank_at_past xs i (omega arith)

pub common_more : (xs ys : List ℕ) (i : ℕ) → i < length xs → i < length ys → get_or xs i 0 ≡ get_or ys i 0 → common (drop i xs) (drop i ys) ≡ suc (common (drop (i + 1) xs) (drop (i + 1) ys))
common_more xs ys i h k e = rw (drop_more xs i 0 h, drop_more ys i 0 k, eq-eqb (get_or xs i 0) (get_or ys i 0) e) refl

pub common_stop : (xs ys : List ℕ) (i : ℕ) → i < length xs → i < length ys → get_or xs i 0 ≢ get_or ys i 0 → common (drop i xs) (drop i ys) ≡ 0
common_stop xs ys i h k n = rw (drop_more xs i 0 h, drop_more ys i 0 k, ne_eqb (get_or xs i 0) (get_or ys i 0) n) refl

common_none : (xs : List ℕ) → common xs [] ≡ 0
common_none [] = refl
common_none (x ∷ xs) = refl

pub common_end : (xs ys : List ℕ) (i : ℕ) → min (length xs) (length ys) ≤ i → common (drop i xs) (drop i ys) ≡ 0
common_end xs ys i h =
    elim (cases_lt i (length xs)) [
      | inl k ↦ let past : length ys ≤ i = omega arith in rw (drop_all i ys past) (common_none (drop i xs))
      | inr k ↦ rw (drop_all i xs k) refl
    ]
