-- Texts with their closing marks: what two share, and their first bytes.
use Rattle.std.proofs.Common.{◌≡◌, ◌∙◌, ℕ, zero, suc, ◌+◌, ◌*◌, ◌^◌, ◌<◌, ◌≤◌, List, [], ◌∷◌, ◌++◌, take, drop, get_or, length, refl, sym, ap, inl, inr, arith}
use Rattle.std.proofs.lemmas.Bool.{cases_eq, eq-eqb, ne_eqb, lt-ltb}
use Rattle.std.proofs.lemmas.List.{drop_all, get_or-drop}
use Rattle.text_rules.specs.Compare.{common}
use Rattle.hinted_chunks.specs.ClosedTexts.{closed_text}
use Rattle.hinted_chunks.specs.Leading.{leading}

-- what two texts have in common, both begin with, whatever stands behind them
shared_front : (xs ys us vs : List ℕ) → take (common xs ys) (xs ++ us) ≡ take (common xs ys) (ys ++ vs)
shared_front [] ys us vs = refl
shared_front (x ∷ xs) [] us vs = refl
shared_front (x ∷ xs) (y ∷ ys) us vs =
    elim (cases_eq x y) [
      | inl e ↦ rw (eq-eqb x y e) (ap (λ z. z ∷ take (common xs ys) (xs ++ us)) e ∙ ap (λ zs. y ∷ zs) (shared_front xs ys us vs))
      | inr n ↦ rw (ne_eqb x y n) refl
    ]

pub common_closed : (n : ℕ) (a b : List ℕ) → n ≡ common a b → take n (closed_text a) ≡ take n (closed_text b)
common_closed n a b e = ap (λ k. take k (closed_text a)) e ∙ shared_front a b _ _ ∙ ap (λ k. take k (closed_text b)) (sym e)

leading_past : (n b : ℕ) → b ≡ 0 → leading (suc n) [] ≡ b * 256 ^ n + leading n []
leading_past zero b e = rw e refl
leading_past (suc n) b e = rw e (omega arith)

-- one byte, and what is behind it
leading_at : (n i b : ℕ) (xs : List ℕ) → b < 256 → b ≡ get_or xs i 0 → leading (suc n) (drop i xs) ≡ b * 256 ^ n + leading n (drop (suc i) xs)
leading_at n zero b [] h e = leading_past n b e
leading_at n zero b (x ∷ xs) h e = rw (sym e, lt-ltb b 256 h) refl
leading_at n (suc i) b [] h e = leading_past n b e
leading_at n (suc i) b (x ∷ xs) h e = leading_at n i b xs h e

-- eight bytes
pub leading_eight : (a b c d e f g h : ℕ) (xs : List ℕ) → a < 256 → b < 256 → c < 256 → d < 256 → e < 256 → f < 256 → g < 256 → h < 256
    → a ≡ get_or xs 0 0 → b ≡ get_or xs 1 0 → c ≡ get_or xs 2 0 → d ≡ get_or xs 3 0 → e ≡ get_or xs 4 0 → f ≡ get_or xs 5 0 → g ≡ get_or xs 6 0 → h ≡ get_or xs 7 0
    → leading 8 xs ≡ a * 256 ^ 7 + b * 256 ^ 6 + c * 256 ^ 5 + d * 256 ^ 4 + e * 256 ^ 3 + f * 256 ^ 2 + g * 256 + h
leading_eight a b c d e f g h xs ah bh ch dh eh fh gh hh ai bi ci di ei fi gi hi =
    let aj = leading_at 7 0 a xs ah ai in
    let bj = leading_at 6 1 b xs bh bi in
    let cj = leading_at 5 2 c xs ch ci in
    let dj = leading_at 4 3 d xs dh di in
    let ej = leading_at 3 4 e xs eh ei in
    let fj = leading_at 2 5 f xs fh fi in
    let gj = leading_at 1 6 g xs gh gi in
    let hj = leading_at 0 7 h xs hh hi in
    omega arith

-- from a place on
pub leading_from : (place a b c d e f g h : ℕ) (xs : List ℕ) → a < 256 → b < 256 → c < 256 → d < 256 → e < 256 → f < 256 → g < 256 → h < 256
    → a ≡ get_or xs place 0 → b ≡ get_or xs (place + 1) 0 → c ≡ get_or xs (place + 2) 0 → d ≡ get_or xs (place + 3) 0 → e ≡ get_or xs (place + 4) 0 → f ≡ get_or xs (place + 5) 0
    → g ≡ get_or xs (place + 6) 0 → h ≡ get_or xs (place + 7) 0
    → leading 8 (drop place xs) ≡ a * 256 ^ 7 + b * 256 ^ 6 + c * 256 ^ 5 + d * 256 ^ 4 + e * 256 ^ 3 + f * 256 ^ 2 + g * 256 + h
leading_from place a b c d e f g h xs ah bh ch dh eh fh gh hh ai bi ci di ei fi gi hi =
    let here : get_or (drop place xs) 0 0 ≡ get_or xs place 0 =
    let n : place + 0 ≡ place = omega arith in
    get_or-drop place xs 0 0 ∙ ap (λ k. get_or xs k 0) n in
    leading_eight a b c d e f g h (drop place xs) ah bh ch dh eh fh gh hh (ai ∙ sym here) (bi ∙ sym (get_or-drop place xs 1 0)) (ci ∙ sym (get_or-drop place xs 2 0))
    (di ∙ sym (get_or-drop place xs 3 0)) (ei ∙ sym (get_or-drop place xs 4 0)) (fi ∙ sym (get_or-drop place xs 5 0)) (gi ∙ sym (get_or-drop place xs 6 0)) (hi ∙ sym (get_or-drop place xs 7 0))

pub leading_behind : (place : ℕ) (xs : List ℕ) → length xs ≤ place → leading 8 (drop place xs) ≡ 0
leading_behind place xs l = ap (leading 8) (drop_all place xs l)
