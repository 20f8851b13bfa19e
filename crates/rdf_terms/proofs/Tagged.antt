-- How a language tag is read, up to the byte behind it.
use Rattle.std.proofs.Common.{◌≡◌, ℕ, suc, List, [], ◌∷◌, ◌++◌, length, Bool, true, false, ◌&&◌, ◌||◌, Some, refl, sym, ap, ◌∙◌, inl, inr, arith, eqb, IsTrue, append_assoc}
use Rattle.std.specs.Str.{str_to_ascii_lowercase}
use Rattle.std.proofs.lemmas.Bool.{cases_Bool, and_parts, or_left}
use Rattle.std.proofs.lemmas.Bool.Decides.{nat_tests}
use Rattle.std.proofs.lemmas.List.{append-nil}
use Rattle.text_rules.specs.Iri.{is_letter, is_digit}
use Rattle.rdf_terms.specs.declared.terms.Term.TheVariants as terms
use Rattle.rdf_terms.specs.Grammar.{is_blank}
use Rattle.text_rules.specs.Tags.{is_language_tag, is_primary, is_subtags}
use Rattle.rdf_terms.specs.Literal.{Tagged}
use Rattle.rdf_terms.specs.TripleReading.{State, Tag, Closed, step, resume, run}
use Rattle.rdf_terms.proofs.Steps.{run_step}

-- what may stand behind an object
abbrev pub is_break : ℕ → Bool
is_break byte = is_blank byte || eqb byte 46

-- a text that goes on with such a byte
abbrev pub StartsBreak : List ℕ → Type 0
StartsBreak [] = ⊥
StartsBreak (byte ∷ bytes) = is_break byte ≡ true

-- where both states do the same with the next byte, they read the rest alike
pub same_step : (one other : State) (byte : ℕ) (rest : List ℕ) → step one byte ≡ step other byte → run (byte ∷ rest) one ≡ run (byte ∷ rest) other
unfolding run
same_step one other byte rest e = ap (resume (run rest) (suc (length rest))) e

-- no byte that ends an object is one of a tag
break_no_dash : (byte : ℕ) → is_break byte ≡ true → eqb byte 45 ≡ false
break_no_dash byte h = grind (arith, nat_tests)

break_no_letter : (byte : ℕ) → is_break byte ≡ true → is_letter byte ≡ false
break_no_letter byte h = grind (arith, nat_tests)

break_no_digit : (byte : ℕ) → is_break byte ≡ true → is_digit byte ≡ false
break_no_digit byte h = grind (arith, nat_tests)

module _ (s p lexical : List ℕ) where
  -- behind a tag, and behind an object with this tag
  abbrev behind : List ℕ → State
  behind tag = Closed s p (terms.Literal (Tagged lexical (str_to_ascii_lowercase tag)))

  -- a dash behind letters or digits
  dash_step : (dashed : Bool) (tag : List ℕ) (byte : ℕ) → eqb byte 45 ≡ true → step (Tag s p lexical dashed true tag) byte ≡ Some (Tag s p lexical true false (tag ++ byte ∷ []))
  unfolding step
  dash_step dashed tag byte h = rw h refl

  -- a letter, or a digit behind a dash
  letter_step : (dashed full : Bool) (tag : List ℕ) (byte : ℕ) → eqb byte 45 ≡ false → (is_letter byte || (dashed && is_digit byte)) ≡ true
      → step (Tag s p lexical dashed full tag) byte ≡ Some (Tag s p lexical dashed true (tag ++ byte ∷ []))
  unfolding step
  letter_step dashed full tag byte h g = rw (h, g) refl

  -- a whole tag ends at a break
  break_step : (dashed : Bool) (tag : List ℕ) (byte : ℕ) → is_break byte ≡ true → step (Tag s p lexical dashed true tag) byte ≡ step (behind tag) byte
  unfolding step
  break_step true tag byte h = rw (break_no_dash byte h, break_no_letter byte h, break_no_digit byte h) refl
  break_step false tag byte h = rw (break_no_dash byte h, break_no_letter byte h) refl

  -- nothing more of a tag
  tag_end : (dashed full : Bool) (tag rest : List ℕ) → full ≡ true → StartsBreak rest → run rest (Tag s p lexical dashed full tag) ≡ run rest (behind (tag ++ []))
  tag_end dashed full tag [] e h = absurd h
  tag_end dashed full tag (byte ∷ rest) e h =
      ap (λ f. run (byte ∷ rest) (Tag s p lexical dashed f tag)) e
      ∙ same_step (Tag s p lexical dashed true tag) (behind tag) byte rest (break_step dashed tag byte h)
      ∙ ap (λ t. run (byte ∷ rest) (behind t)) (sym (append-nil tag))

  -- subtags are read
  subtags_read : (full : Bool) (tag written rest : List ℕ) → is_subtags full written ≡ true → StartsBreak rest
      → run (written ++ rest) (Tag s p lexical true full tag) ≡ run rest (behind (tag ++ written))
  subtags_read full tag [] rest h g = tag_end true full tag rest h g
  subtags_read full tag (byte ∷ written) rest h g =
      elim (cases_Bool (eqb byte 45)) [
        | inl e ↦ let both = and_parts full (is_subtags false written) (rw e at h) in
            ap (λ f. run (byte ∷ (written ++ rest)) (Tag s p lexical true f tag)) both.0
            ∙ run_step (Tag s p lexical true true tag) (Tag s p lexical true false (tag ++ byte ∷ [])) byte (written ++ rest) (dash_step true tag byte e)
            ∙ subtags_read false (tag ++ byte ∷ []) written rest both.1 g
            ∙ ap (λ t. run rest (behind t)) (append_assoc tag (byte ∷ []) written)
        | inr e ↦ let both = and_parts (is_letter byte || is_digit byte) (is_subtags true written) (rw e at h) in
            run_step (Tag s p lexical true full tag) (Tag s p lexical true true (tag ++ byte ∷ [])) byte (written ++ rest) (letter_step true full tag byte e both.0)
            ∙ subtags_read true (tag ++ byte ∷ []) written rest both.1 g
            ∙ ap (λ t. run rest (behind t)) (append_assoc tag (byte ∷ []) written)
      ]

  -- a first part and subtags are read
  primary_read : (full : Bool) (tag written rest : List ℕ) → is_primary full written ≡ true → StartsBreak rest
      → run (written ++ rest) (Tag s p lexical false full tag) ≡ run rest (behind (tag ++ written))
  primary_read full tag [] rest h g = tag_end false full tag rest h g
  primary_read full tag (byte ∷ written) rest h g =
      elim (cases_Bool (eqb byte 45)) [
        | inl e ↦ let both = and_parts full (is_subtags false written) (rw e at h) in
            ap (λ f. run (byte ∷ (written ++ rest)) (Tag s p lexical false f tag)) both.0
            ∙ run_step (Tag s p lexical false true tag) (Tag s p lexical true false (tag ++ byte ∷ [])) byte (written ++ rest) (dash_step false tag byte e)
            ∙ subtags_read false (tag ++ byte ∷ []) written rest both.1 g
            ∙ ap (λ t. run rest (behind t)) (append_assoc tag (byte ∷ []) written)
        | inr e ↦ let both = and_parts (is_letter byte) (is_primary true written) (rw e at h) in
            run_step (Tag s p lexical false full tag) (Tag s p lexical false true (tag ++ byte ∷ [])) byte (written ++ rest) (letter_step false full tag byte e (or_left (is_letter byte) false both.0))
            ∙ primary_read true (tag ++ byte ∷ []) written rest both.1 g
            ∙ ap (λ t. run rest (behind t)) (append_assoc tag (byte ∷ []) written)
      ]

  -- a language tag is read
  pub tag_read : (written rest : List ℕ) → IsTrue (is_language_tag written) → StartsBreak rest
      → run (written ++ rest) (Tag s p lexical false false []) ≡ run rest (Closed s p (terms.Literal (Tagged lexical (str_to_ascii_lowercase written))))
  unfolding is_language_tag
  tag_read written rest h g = primary_read false [] written rest h g
