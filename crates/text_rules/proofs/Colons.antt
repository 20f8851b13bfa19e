-- Where a text has its first colon.
use Rattle.std.proofs.Common.{◌≡◌, ℕ, suc, ◌+◌, ◌<◌, List, [], ◌∷◌, length, Bool, true, false, not, cond, ◌||◌, Option, Some, None, Bor, MatchOption, refl, arith}
use Rattle.std.specs.List.{before_first, after_first, position_or_len}
use Rattle.text_rules.specs.References.{is_colon}
use Rattle.text_rules.specs.TextForms.{has_colon, before_colon, behind_colon}

none_at : (bytes : List ℕ) (colon : Bool) → (position_or_len is_colon bytes ≡ length bytes → has_colon bytes ≡ false)
    → cond (not colon) (1 + position_or_len is_colon bytes) 0 ≡ suc (length bytes) → (colon || has_colon bytes) ≡ false
none_at bytes true rest h = absurd (omega arith)
none_at bytes false rest h = rest (omega arith)

-- a text that has its first colon at its end has none
pub no_colon : (text : List ℕ) → position_or_len is_colon text ≡ length text → has_colon text ≡ false
no_colon [] h = refl
no_colon (byte ∷ bytes) h = none_at bytes (is_colon byte) (no_colon bytes) h

one_at : (bytes : List ℕ) (colon : Bool) → (position_or_len is_colon bytes < length bytes → has_colon bytes ≡ true)
    → cond (not colon) (1 + position_or_len is_colon bytes) 0 < suc (length bytes) → (colon || has_colon bytes) ≡ true
one_at bytes true rest h = refl
one_at bytes false rest h = rest (omega arith)

-- one that has it before its end has one
pub a_colon : (text : List ℕ) → position_or_len is_colon text < length text → has_colon text ≡ true
a_colon [] h = absurd (omega arith)
a_colon (byte ∷ bytes) h = one_at bytes (is_colon byte) (a_colon bytes) h

-- what `split_once` says of a colon
pub cut_at : (text : List ℕ) (r : Option (Bor (List ℕ) × Bor (List ℕ)))
    → MatchOption r (position_or_len is_colon text ≡ length text)
    (λ x. (position_or_len is_colon text < length text) × (x.0.now ≡ before_first is_colon text) × (x.1.now ≡ after_first is_colon text))
    → MatchOption r (has_colon text ≡ false)
    (λ x. (has_colon text ≡ true) × (x.0.now ≡ before_colon text) × (x.1.now ≡ behind_colon text))
cut_at text None h = no_colon text h
cut_at text (Some x) h = (a_colon text h.0, h.1, h.2)
