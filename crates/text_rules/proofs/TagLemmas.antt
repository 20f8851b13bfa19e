-- Language tags are ASCII, and in lower case they stay language tags.
use Rattle.std.proofs.Common.{◌≡◌, ℕ, zero, suc, ◌<◌, List, [], ◌∷◌, length, get_or, Bool, true, false, ◌||◌, IsTrue, refl, inl, inr, arith, eqb}
use Rattle.std.specs.Char.{to_ascii_lowercase}
use Rattle.std.specs.Str.{str_to_ascii_lowercase}
use Rattle.std.proofs.lemmas.Str.Ascii.{lowercase-lowercase}
use Rattle.std.proofs.lemmas.Bool.Decides.{nat_tests}
use Rattle.std.proofs.lemmas.Bool.{and_parts, cases_Bool}
use Rattle.text_rules.specs.Iri.{is_letter, is_digit}
use Rattle.text_rules.specs.Tags.{is_subtags, is_primary, is_language_tag}

-- lower case is in lower case
pub lower_lower : (tag : List ℕ) → str_to_ascii_lowercase (str_to_ascii_lowercase tag) ≡ str_to_ascii_lowercase tag
lower_lower [] = refl
lower_lower (byte ∷ bytes) = λ i. lowercase-lowercase byte i ∷ lower_lower bytes i

-- letters, digits and dashes stay what they are
lower_letter : (byte : ℕ) → is_letter (to_ascii_lowercase byte) ≡ is_letter byte
lower_letter byte = grind (arith, nat_tests)

lower_digit : (byte : ℕ) → is_digit (to_ascii_lowercase byte) ≡ is_digit byte
lower_digit byte = grind (arith, nat_tests)

lower_dash : (byte : ℕ) → eqb (to_ascii_lowercase byte) 45 ≡ eqb byte 45
lower_dash byte = grind (arith, nat_tests)

lower_subtags : (full : Bool) (tag : List ℕ) → is_subtags full (str_to_ascii_lowercase tag) ≡ is_subtags full tag
lower_subtags full [] = refl
lower_subtags full (byte ∷ bytes) = rw (lower_dash byte, lower_letter byte, lower_digit byte, lower_subtags false bytes, lower_subtags true bytes) refl

lower_primary : (full : Bool) (tag : List ℕ) → is_primary full (str_to_ascii_lowercase tag) ≡ is_primary full tag
lower_primary full [] = refl
lower_primary full (byte ∷ bytes) = rw (lower_dash byte, lower_letter byte, lower_subtags false bytes, lower_primary true bytes) refl

-- a tag in lower case is a tag
pub lower_tag : (tag : List ℕ) → is_language_tag (str_to_ascii_lowercase tag) ≡ is_language_tag tag
unfolding is_language_tag
lower_tag tag = lower_primary false tag

letter_small : (byte : ℕ) → is_letter byte ≡ true → byte < 128
letter_small byte h = grind (arith, nat_tests)

subtag_small : (byte : ℕ) → (is_letter byte || is_digit byte) ≡ true → byte < 128
subtag_small byte h = grind (arith, nat_tests)

dash_small : (byte : ℕ) → eqb byte 45 ≡ true → byte < 128
dash_small byte h = grind (arith, nat_tests)

subtags_small : (full : Bool) (tag : List ℕ) (i : ℕ) → is_subtags full tag ≡ true → i < length tag → get_or tag i 0 < 128
subtags_small full [] i h k = absurd (omega arith)
subtags_small full (byte ∷ bytes) i h k =
    elim (cases_Bool (eqb byte 45)) [
      | inl e ↦ let g = rw e at h in at i k (dash_small byte e) (λ j m. subtags_small false bytes j (and_parts full (is_subtags false bytes) g).1 m)
      | inr e ↦ let g = rw e at h in
          let both = and_parts (is_letter byte || is_digit byte) (is_subtags true bytes) g in
          at i k (subtag_small byte both.0) (λ j m. subtags_small true bytes j both.1 m)
    ]
  where
    at : (i : ℕ) → i < suc (length bytes) → byte < 128 → ((j : ℕ) → j < length bytes → get_or bytes j 0 < 128) → get_or (byte ∷ bytes) i 0 < 128
    at zero k s f = s
    at (suc i) k s f = f i (omega arith)

primary_small : (full : Bool) (tag : List ℕ) (i : ℕ) → is_primary full tag ≡ true → i < length tag → get_or tag i 0 < 128
primary_small full [] i h k = absurd (omega arith)
primary_small full (byte ∷ bytes) i h k =
    elim (cases_Bool (eqb byte 45)) [
      | inl e ↦ let g = rw e at h in at i k (dash_small byte e) (λ j m. subtags_small false bytes j (and_parts full (is_subtags false bytes) g).1 m)
      | inr e ↦ let g = rw e at h in
          let both = and_parts (is_letter byte) (is_primary true bytes) g in
          at i k (letter_small byte both.0) (λ j m. primary_small true bytes j both.1 m)
    ]
  where
    at : (i : ℕ) → i < suc (length bytes) → byte < 128 → ((j : ℕ) → j < length bytes → get_or bytes j 0 < 128) → get_or (byte ∷ bytes) i 0 < 128
    at zero k s f = s
    at (suc i) k s f = f i (omega arith)

-- a tag is ASCII
pub tag_small : (tag : List ℕ) (i : ℕ) → IsTrue (is_language_tag tag) → i < length tag → get_or tag i 0 < 128
unfolding is_language_tag
tag_small tag i h k = primary_small false tag i h k
