-- How the pieces of a term are read, up to the mark that closes it.
use Rattle.std.proofs.Common.{◌≡◌, ℕ, suc, ◌+◌, ◌*◌, ◌<◌, List, [], ◌∷◌, ◌++◌, length, true, false, Option, Some, None, refl, sym, ap, subst, ◌∙◌, inl, inr, arith, eqb, append_assoc}
use Rattle.std.specs.Char.{IsScalar, digit_value, encode_utf8}
use Rattle.std.specs.List.{list_all, AllByRecursion, flat_map}
use Rattle.std.proofs.lemmas.Bool.{cases_Bool, and_parts}
use Rattle.std.proofs.lemmas.Bool.Decides.{nat_tests}
use Rattle.std.proofs.lemmas.List.{append-nil}
use Rattle.text_rules.specs.Iri.{is_letter, is_scheme_byte, is_excluded}
use Rattle.text_rules.specs.declared.spots.Spot.{Spot}
use Rattle.text_rules.specs.declared.spots.Spot.TheVariants.{SchemeStart, Scheme, IriRest, Lexical}
use Rattle.rdf_terms.specs.Escapes.{Piece, Plain, Letter, Short, Long, NamesScalar, piece_text, piece_value, letter_value, code_with, code_of, is_hexadecimal, is_plain_byte, is_escape_letter, IsIriPiece, IsLexicalPiece}
use Rattle.rdf_terms.specs.TripleReading.{Slot, Within, Between, Behind, Digits, may_begin, spot_behind, after_plain, closes, closed, step, run, run_from}
use Rattle.rdf_terms.proofs.SpotLaws.{spot_from, spot_from-append, spot_from-encode}
use Rattle.rdf_terms.proofs.Steps.{run_step}
use Rattle.rdf_terms.proofs.MayBegin.{none_some, may_begin-from_code}

-- two results are one
some_inj : {A : Type 0} {x y : A} → Some x ≡ Some y → x ≡ y
some_inj h = cc

-- ---- escapes

module _ (slot : Slot) (spot next : Spot) (value rest : List ℕ) where
  -- the last digit of an escape
  last_step : (code digit : ℕ) → is_hexadecimal digit ≡ true → IsScalar (16 * code + digit_value digit) → spot_behind spot (16 * code + digit_value digit) ≡ Some next
      → step (Within slot spot (Digits 1 code) value) digit ≡ Some (Within slot next Between (value ++ encode_utf8 (16 * code + digit_value digit)))
  unfolding step
  last_step code digit h g e = rw (h, g, e) refl

  -- a digit before the last one
  digit_step : (count code digit : ℕ) → is_hexadecimal digit ≡ true → may_begin spot (suc count) (16 * code + digit_value digit) ≡ true
      → step (Within slot spot (Digits (suc (suc count)) code) value) digit ≡ Some (Within slot spot (Digits (suc count) (16 * code + digit_value digit)) value)
  unfolding step
  digit_step count code digit h g = rw (h, g) refl

  -- the digits of an escape
  digits_read : (code digit : ℕ) (digits : List ℕ) → length digits < 8 → list_all is_hexadecimal (digit ∷ digits) ≡ true
      → IsScalar (code_with code (digit ∷ digits)) → spot_behind spot (code_with code (digit ∷ digits)) ≡ Some next
      → run (digit ∷ (digits ++ rest)) (Within slot spot (Digits (suc (length digits)) code) value)
      ≡ run rest (Within slot next Between (value ++ encode_utf8 (code_with code (digit ∷ digits))))
  digits_read code digit [] small h g e =
      run_step (Within slot spot (Digits 1 code) value) (Within slot next Between (value ++ encode_utf8 (16 * code + digit_value digit))) digit rest
      (last_step code digit (and_parts (is_hexadecimal digit) true h).0 g e)
  digits_read code digit (other ∷ digits) small h g e =
      let p = and_parts (is_hexadecimal digit) (list_all is_hexadecimal (other ∷ digits)) h in
      let further : ℕ = 16 * code + digit_value digit in
      run_step (Within slot spot (Digits (suc (suc (length digits))) code) value) (Within slot spot (Digits (suc (length digits)) further) value) digit (other ∷ (digits ++ rest))
      (digit_step (length digits) code digit p.0 (may_begin-from_code spot next further other digits (omega arith) p.1 g e))
      ∙ digits_read further other digits (omega arith) p.1 g e

  -- so many digits that name a character
  named_read : (count : ℕ) (digits : List ℕ) → count < 8 → NamesScalar (suc count) digits → spot_behind spot (code_of digits) ≡ Some next
      → run (digits ++ rest) (Within slot spot (Digits (suc count) 0) value) ≡ run rest (Within slot next Between (value ++ encode_utf8 (code_of digits)))
  named_read count [] small h e = let many = h.many in absurd (omega arith)
  named_read count (digit ∷ digits) small h e =
      let many = h.many in
      let same : length digits ≡ count = omega arith in
      ap (λ n. run (digit ∷ (digits ++ rest)) (Within slot spot (Digits (suc n) 0) value)) (sym same)
      ∙ digits_read 0 digit digits (omega arith) h.hexadecimal h.scalar e

  -- an escape of four digits
  short_read : (digits : List ℕ) → NamesScalar 4 digits → spot_behind spot (code_of digits) ≡ Some next
      → run (piece_text (Short digits) ++ rest) (Within slot spot Between value) ≡ run rest (Within slot next Between (value ++ piece_value (Short digits)))
  unfolding step
  short_read digits h e =
      run_step (Within slot spot Between value) (Within slot spot Behind value) 92 (117 ∷ (digits ++ rest)) refl
      ∙ run_step (Within slot spot Behind value) (Within slot spot (Digits 4 0) value) 117 (digits ++ rest) refl
      ∙ named_read 3 digits (omega arith) h e

  -- an escape of eight digits
  long_read : (digits : List ℕ) → NamesScalar 8 digits → spot_behind spot (code_of digits) ≡ Some next
      → run (piece_text (Long digits) ++ rest) (Within slot spot Between value) ≡ run rest (Within slot next Between (value ++ piece_value (Long digits)))
  unfolding step
  long_read digits h e =
      run_step (Within slot spot Between value) (Within slot spot Behind value) 92 (85 ∷ (digits ++ rest)) refl
      ∙ run_step (Within slot spot Behind value) (Within slot spot (Digits 8 0) value) 85 (digits ++ rest) refl
      ∙ named_read 7 digits (omega arith) h e

-- ---- pieces of IRIs

-- a spot of an IRI
abbrev pub IsIriSpot : Spot → Type 0
IsIriSpot SchemeStart = Unit {0}
IsIriSpot Scheme = Unit {0}
IsIriSpot IriRest = Unit {0}
IsIriSpot Lexical = ⊥

-- a byte that may stand there is no backslash, and closes nothing
record IsPlainAt (spot next : Spot) (byte : ℕ) : Type 0 where
  no_escape : eqb byte 92 ≡ false
  open_yet : closes spot byte ≡ false
  leads : after_plain spot byte ≡ Some next

-- no byte that an IRI may have at a spot is a backslash, and none in its rest is `>`
letter_plain : (byte : ℕ) → is_letter byte ≡ true → eqb byte 92 ≡ false
letter_plain byte h = grind (arith, nat_tests)

colon_plain : (byte : ℕ) → eqb byte 58 ≡ true → eqb byte 92 ≡ false
colon_plain byte h = grind (arith, nat_tests)

scheme_plain : (byte : ℕ) → is_scheme_byte byte ≡ true → eqb byte 92 ≡ false
scheme_plain byte h = grind (arith, nat_tests)

rest_plain : (byte : ℕ) → is_excluded byte ≡ false → eqb byte 92 ≡ false
rest_plain byte h = grind (arith, nat_tests)

rest_open : (byte : ℕ) → is_excluded byte ≡ false → eqb byte 62 ≡ false
rest_open byte h = grind (arith, nat_tests)

-- a byte that an IRI may have stands for itself
plain_at : (spot next : Spot) (byte : ℕ) → IsIriSpot spot → spot_behind spot byte ≡ Some next → IsPlainAt spot next byte
plain_at SchemeStart next byte i e =
    elim (cases_Bool (is_letter byte)) [
      | inl h ↦ record { no_escape = letter_plain byte h; open_yet = refl; leads = e }
      | inr h ↦ absurd (none_some (rw h at e))
    ]
plain_at Scheme next byte i e =
    elim (cases_Bool (eqb byte 58)) [
      | inl h ↦ record { no_escape = colon_plain byte h; open_yet = refl; leads = e }
      | inr h ↦ elim (cases_Bool (is_scheme_byte byte)) [
        | inl g ↦ record { no_escape = scheme_plain byte g; open_yet = refl; leads = e }
        | inr g ↦ absurd (none_some (rw (h, g) at e))
      ]
    ]
plain_at IriRest next byte i e =
    elim (cases_Bool (is_excluded byte)) [
      | inl h ↦ absurd (none_some (rw h at e))
      | inr h ↦ record { no_escape = rest_plain byte h; open_yet = rest_open byte h; leads = e }
    ]
plain_at Lexical next byte i e = absurd i

-- and it is read as it is
plain_step : (slot : Slot) (spot next : Spot) (value : List ℕ) (byte : ℕ) → IsPlainAt spot next byte
    → step (Within slot spot Between value) byte ≡ Some (Within slot next Between (value ++ byte ∷ []))
unfolding step
plain_step slot spot next value byte h = rw (h.no_escape, h.open_yet, h.leads) refl

-- what stands behind a character of an IRI is in the IRI
iri_spot_after : (spot next : Spot) (code : ℕ) → IsIriSpot spot → spot_behind spot code ≡ Some next → IsIriSpot next
iri_spot_after SchemeStart next code i e =
    elim (cases_Bool (is_letter code)) [
      | inl h ↦ subst IsIriSpot (some_inj (rw h at e)) tt
      | inr h ↦ absurd (none_some (rw h at e))
    ]
iri_spot_after Scheme next code i e =
    elim (cases_Bool (eqb code 58)) [
      | inl h ↦ subst IsIriSpot (some_inj (rw h at e)) tt
      | inr h ↦ elim (cases_Bool (is_scheme_byte code)) [
        | inl g ↦ subst IsIriSpot (some_inj (rw (h, g) at e)) tt
        | inr g ↦ absurd (none_some (rw (h, g) at e))
      ]
    ]
iri_spot_after IriRest next code i e =
    elim (cases_Bool (is_excluded code)) [
      | inl h ↦ absurd (none_some (rw h at e))
      | inr h ↦ subst IsIriSpot (some_inj (rw h at e)) tt
    ]
iri_spot_after Lexical next code i e = absurd i

-- the first piece of an IRI leads to a spot, and the others from there to its end
record Reads (slot : Slot) (spot : Spot) (value : List ℕ) (piece : Piece) (further : List ℕ) : Type 0 where
  next : Spot
  iri : IsIriSpot next
  reads : (rest : List ℕ) → run (piece_text piece ++ rest) (Within slot spot Between value) ≡ run rest (Within slot next Between (value ++ piece_value piece))
  onward : spot_from (Some next) further ≡ Some IriRest

-- what is behind a spot goes on there
next_spot : (found : Option Spot) (further : List ℕ) → spot_from found further ≡ Some IriRest → (next : Spot) × (found ≡ Some next)
next_spot None further e = absurd (none_some e)
next_spot (Some next) further e = (next, refl)

-- a character of an escape
escaped_reads : (slot : Slot) (spot : Spot) (value : List ℕ) (piece : Piece) (code : ℕ) (further : List ℕ) → IsIriSpot spot → IsScalar code → piece_value piece ≡ encode_utf8 code
    → ((next : Spot) (rest : List ℕ) → spot_behind spot code ≡ Some next → run (piece_text piece ++ rest) (Within slot spot Between value) ≡ run rest (Within slot next Between (value ++ piece_value piece)))
    → spot_from (Some spot) (piece_value piece ++ further) ≡ Some IriRest → Reads slot spot value piece further
escaped_reads slot spot value piece code further i h is read e =
    let whole : spot_from (spot_behind spot code) further ≡ Some IriRest =
    ap (λ o. spot_from o further) (sym (ap (λ l. spot_from (Some spot) l) is ∙ spot_from-encode spot code h)) ∙ sym (spot_from-append (Some spot) (piece_value piece) further) ∙ e in
    let n = next_spot (spot_behind spot code) further whole in
    record {
      next = n.0;
      iri = iri_spot_after spot n.0 code i n.1;
      reads = λ rest. read n.0 rest n.1;
      onward = ap (λ o. spot_from o further) (sym n.1) ∙ whole;
    }

-- the first piece of an IRI
iri_piece_reads : (slot : Slot) (spot : Spot) (value : List ℕ) (piece : Piece) (further : List ℕ) → IsIriSpot spot → IsIriPiece piece
    → spot_from (Some spot) (piece_value piece ++ further) ≡ Some IriRest → Reads slot spot value piece further
iri_piece_reads slot spot value (Plain byte) further i h e =
    let n = next_spot (spot_behind spot byte) further e in
    record {
      next = n.0;
      iri = iri_spot_after spot n.0 byte i n.1;
      reads = λ rest. run_step (Within slot spot Between value) (Within slot n.0 Between (value ++ byte ∷ [])) byte rest (plain_step slot spot n.0 value byte (plain_at spot n.0 byte i n.1));
      onward = ap (λ o. spot_from o further) (sym n.1) ∙ e;
    }
iri_piece_reads slot spot value (Letter letter) further i h e = absurd h
iri_piece_reads slot spot value (Short digits) further i h e =
    escaped_reads slot spot value (Short digits) (code_of digits) further i h.scalar refl (λ next rest f. short_read slot spot next value rest digits h f) e
iri_piece_reads slot spot value (Long digits) further i h e =
    escaped_reads slot spot value (Long digits) (code_of digits) further i h.scalar refl (λ next rest f. long_read slot spot next value rest digits h f) e

-- at the end of an IRI its mark closes it
iri_end : (slot : Slot) (spot : Spot) (value rest : List ℕ) → Some spot ≡ Some IriRest → run (62 ∷ rest) (Within slot spot Between value) ≡ run_from (closed slot value) rest
unfolding run step
iri_end slot spot value rest e = ap (λ s. run (62 ∷ rest) (Within slot s Between value)) (some_inj e)

-- the pieces of an IRI are read up to its end
pub iri_pieces_read : (slot : Slot) (spot : Spot) (value : List ℕ) (pieces : List Piece) (rest : List ℕ) → IsIriSpot spot → AllByRecursion IsIriPiece pieces
    → spot_from (Some spot) (flat_map piece_value pieces) ≡ Some IriRest
    → run (flat_map piece_text pieces ++ 62 ∷ rest) (Within slot spot Between value) ≡ run_from (closed slot (value ++ flat_map piece_value pieces)) rest
iri_pieces_read slot spot value [] rest i h e = iri_end slot spot value rest e ∙ ap (λ v. run_from (closed slot v) rest) (sym (append-nil value))
iri_pieces_read slot spot value (piece ∷ pieces) rest i h e =
    let r = iri_piece_reads slot spot value piece (flat_map piece_value pieces) i h.0 e in
    ap (λ l. run l (Within slot spot Between value)) (append_assoc (piece_text piece) (flat_map piece_text pieces) (62 ∷ rest))
    ∙ r.reads (flat_map piece_text pieces ++ 62 ∷ rest)
    ∙ iri_pieces_read slot r.next (value ++ piece_value piece) pieces rest r.iri h.1 r.onward
    ∙ ap (λ v. run_from (closed slot v) rest) (append_assoc value (piece_value piece) (flat_map piece_value pieces))

-- ---- pieces of lexical forms

-- a byte that a lexical form may have is no backslash and no quote
no_backslash : (byte : ℕ) → is_plain_byte byte ≡ true → eqb byte 92 ≡ false
no_backslash byte h = grind (arith, nat_tests)

no_quote : (byte : ℕ) → is_plain_byte byte ≡ true → eqb byte 34 ≡ false
no_quote byte h = grind (arith, nat_tests)

-- and it is read as it is
lexical_step : (slot : Slot) (value : List ℕ) (byte : ℕ) → is_plain_byte byte ≡ true → step (Within slot Lexical Between value) byte ≡ Some (Within slot Lexical Between (value ++ byte ∷ []))
unfolding step
lexical_step slot value byte h = rw (h, no_backslash byte h, no_quote byte h) refl

-- a letter behind a backslash begins no digits
no_u : (letter : ℕ) → is_escape_letter letter ≡ true → eqb letter 117 ≡ false
no_u letter h = grind (arith, nat_tests)

no_capital_u : (letter : ℕ) → is_escape_letter letter ≡ true → eqb letter 85 ≡ false
no_capital_u letter h = grind (arith, nat_tests)

-- and it is read as what it stands for
letter_step : (slot : Slot) (value : List ℕ) (letter : ℕ) → is_escape_letter letter ≡ true
    → step (Within slot Lexical Behind value) letter ≡ Some (Within slot Lexical Between (value ++ letter_value letter ∷ []))
unfolding step
letter_step slot value letter h = rw (no_u letter h, no_capital_u letter h, h) refl

-- a piece of a lexical form is read
lexical_piece_read : (slot : Slot) (value : List ℕ) (piece : Piece) (rest : List ℕ) → IsLexicalPiece piece
    → run (piece_text piece ++ rest) (Within slot Lexical Between value) ≡ run rest (Within slot Lexical Between (value ++ piece_value piece))
unfolding step
lexical_piece_read slot value (Plain byte) rest h = run_step (Within slot Lexical Between value) (Within slot Lexical Between (value ++ byte ∷ [])) byte rest (lexical_step slot value byte h)
lexical_piece_read slot value (Letter letter) rest h =
    run_step (Within slot Lexical Between value) (Within slot Lexical Behind value) 92 (letter ∷ rest) refl
    ∙ run_step (Within slot Lexical Behind value) (Within slot Lexical Between (value ++ letter_value letter ∷ [])) letter rest (letter_step slot value letter h)
lexical_piece_read slot value (Short digits) rest h = short_read slot Lexical Lexical value rest digits h refl
lexical_piece_read slot value (Long digits) rest h = long_read slot Lexical Lexical value rest digits h refl

-- the pieces of a lexical form are read up to its end
pub lexical_pieces_read : (slot : Slot) (value : List ℕ) (pieces : List Piece) (rest : List ℕ) → AllByRecursion IsLexicalPiece pieces
    → run (flat_map piece_text pieces ++ 34 ∷ rest) (Within slot Lexical Between value) ≡ run_from (closed slot (value ++ flat_map piece_value pieces)) rest
unfolding run step
lexical_pieces_read slot value [] rest h = ap (λ v. run_from (closed slot v) rest) (sym (append-nil value))
lexical_pieces_read slot value (piece ∷ pieces) rest h =
    ap (λ l. run l (Within slot Lexical Between value)) (append_assoc (piece_text piece) (flat_map piece_text pieces) (34 ∷ rest))
    ∙ lexical_piece_read slot value piece (flat_map piece_text pieces ++ 34 ∷ rest) h.0
    ∙ lexical_pieces_read slot (value ++ piece_value piece) pieces rest h.1
    ∙ ap (λ v. run_from (closed slot v) rest) (append_assoc value (piece_value piece) (flat_map piece_value pieces))
