-- Facts of texts: when two are the same, where they have colons, what stands behind a front.
use Rattle.std.proofs.Common.{◌≡◌, ◌∙◌, ℕ, suc, ◌+◌, List, [], ◌∷◌, ◌++◌, length, take, drop, Bool, true, false, cond, not, ◌&&◌, ◌||◌, Some, None, IsTrue, nat_le, nat_eq, nat_cmp, Less, refl, sym, ap, arith}
use Rattle.std.proofs.Math.Seq.{take-append_seam, drop-append-add}
use Rattle.std.specs.Cmp.Lexicographic.{slice_cmp}
use Rattle.std.specs.List.{list_all, starts_with, position_or_len}
use Rattle.std.specs.Ordering.{is_eq}
use Rattle.std.proofs.lemmas.Bool.{and_parts, or_parts, or_from, or_right, not-true, false_from_ne_true}
use Rattle.std.proofs.lemmas.Bool.Decides.{Decides-eqb, nat_tests}
use Rattle.std.proofs.lemmas.Map.Text.{is_eq-slice_cmp}
use Rattle.std.proofs.lemmas.Slice.Eq.{slice_eq-Decides, starts_is}
use Rattle.text_rules.specs.Iri.{has_scheme, ends_scheme, is_letter, is_scheme_byte, is_excluded, is_iri, is_absolute, iri_limit}
use Rattle.text_rules.specs.References.{is_colon, is_slash}
use Rattle.text_rules.specs.Resolution.{is_empty}
use Rattle.rdf_terms.specs.Literal.{is_same}
use Rattle.std.specs.List.{list_any}
use Rattle.jsonld_context.specs.ShortForms.{rest_behind}
use Rattle.text_rules.specs.TextForms.{has_colon, before_colon, behind_colon, begins_as_keyword, is_variable, is_term_name, is_plain_letter, is_plain}

-- two texts that are the same are equal
pub same : (text other : List ℕ) → is_same text other ≡ true → text ≡ other
same text other h = (slice_eq-Decides Decides-eqb text other (is_same text other) refl).0 h

-- a text is the same as itself
pub itself : (text : List ℕ) → is_same text text ≡ true
itself text = (slice_eq-Decides Decides-eqb text text (is_same text text) refl).1 refl

-- texts that differ aren't the same
pub differ : (text other : List ℕ) → (text ≡ other → ⊥) → is_same text other ≡ false
differ text other apart = false_from_ne_true (is_same text other) (λ h. apart (same text other h))

-- nor are two of which one is less
pub less_differ : (text other : List ℕ) → slice_cmp nat_cmp text other ≡ Less → is_same text other ≡ false
less_differ text other less = sym (is_eq-slice_cmp text other) ∙ ap is_eq less

behind_at : (front text rest : List ℕ) (begins : Bool) → begins ≡ starts_with nat_eq text front
    → cond begins (Some (drop (length front) text)) None ≡ Some rest → text ≡ front ++ rest
behind_at front text rest true begins h =
    let is : drop (length front) text ≡ rest = cc h in
    (starts_is Decides-eqb text front true begins).0 refl ∙ ap (λ end. front ++ end) is
behind_at front text rest false begins h = cc h

-- what stands behind a front
pub behind_front : (front text rest : List ℕ) → rest_behind front text ≡ Some rest → text ≡ front ++ rest
behind_front front text rest h = behind_at front text rest (starts_with nat_eq text front) refl h

not_colon : (byte : ℕ) → is_plain_letter byte ≡ true → is_colon byte ≡ false
not_colon byte h = grind (arith, nat_tests)

bytes_no_colon : (text : List ℕ) → list_all is_plain_letter text ≡ true → has_colon text ≡ false
bytes_no_colon [] h = refl
bytes_no_colon (byte ∷ bytes) h =
    let parts = and_parts (is_plain_letter byte) (list_all is_plain_letter bytes) h in
    or_from (is_colon byte) (has_colon bytes) (not_colon byte parts.0) (bytes_no_colon bytes parts.1)

-- a plain text has no colon
pub plain_no_colon : (text : List ℕ) → is_plain text ≡ true → has_colon text ≡ false
plain_no_colon text h = bytes_no_colon text (and_parts (not (is_empty text)) (list_all is_plain_letter text) h).1

-- nor has a term
pub term_no_colon : (name : List ℕ) → is_term_name name ≡ true → has_colon name ≡ false
unfolding is_term_name
term_no_colon name h =
    let a = and_parts (not (is_empty name) && not (has_colon name) && not (list_any is_slash name) && not (begins_as_keyword name)) (not (is_variable name)) h in
    let b = and_parts (not (is_empty name) && not (has_colon name) && not (list_any is_slash name)) (not (begins_as_keyword name)) a.0 in
    let d = and_parts (not (is_empty name) && not (has_colon name)) (not (list_any is_slash name)) b.0 in
    not-true (has_colon name) (and_parts (not (is_empty name)) (not (has_colon name)) d.0).1

place_at : (colon : Bool) (place size : ℕ) → colon ≡ false → place ≡ size → cond (not colon) (1 + place) 0 ≡ suc size
place_at colon place size off is = rw (off, is) (omega arith)

place : (name rest : List ℕ) → has_colon name ≡ false → position_or_len is_colon (name ++ 58 ∷ rest) ≡ length name
place [] rest h = refl
place (byte ∷ bytes) rest h =
    let parts = or_parts (is_colon byte) (has_colon bytes) h in
    place_at (is_colon byte) (position_or_len is_colon (bytes ++ 58 ∷ rest)) (length bytes) parts.0 (place bytes rest parts.1)

-- a text with a colon in it
pub joined_colon : (name rest : List ℕ) → has_colon (name ++ 58 ∷ rest) ≡ true
joined_colon [] rest = refl
joined_colon (byte ∷ bytes) rest = or_right (is_colon byte) (has_colon (bytes ++ 58 ∷ rest)) (joined_colon bytes rest)

-- what stands before its first one
pub joined_front : (name rest : List ℕ) → has_colon name ≡ false → before_colon (name ++ 58 ∷ rest) ≡ name
joined_front name rest h = ap (λ n. take n (name ++ 58 ∷ rest)) (place name rest h) ∙ take-append_seam name (58 ∷ rest)

-- and what behind it
pub joined_rest : (name rest : List ℕ) → has_colon name ≡ false → behind_colon (name ++ 58 ∷ rest) ≡ rest
joined_rest name rest h = ap (λ n. drop (n + 1) (name ++ 58 ∷ rest)) (place name rest h) ∙ drop-append-add name (58 ∷ rest) 1

ends_at : (bytes : List ℕ) (colon scheme : Bool) → cond colon true (scheme && ends_scheme bytes) ≡ true
    → (ends_scheme bytes ≡ true → has_colon bytes ≡ true) → (colon || has_colon bytes) ≡ true
ends_at bytes true scheme h rest = refl
ends_at bytes false scheme h rest = rest (and_parts scheme (ends_scheme bytes) h).1

ends_with_colon : (text : List ℕ) → ends_scheme text ≡ true → has_colon text ≡ true
ends_with_colon [] h = cc h
ends_with_colon (byte ∷ bytes) h = ends_at bytes (is_colon byte) (is_scheme_byte byte) h (ends_with_colon bytes)

scheme_colon : (text : List ℕ) → has_scheme text ≡ true → has_colon text ≡ true
scheme_colon [] h = cc h
scheme_colon (byte ∷ bytes) h =
    or_right (is_colon byte) (has_colon bytes) (ends_with_colon bytes (and_parts (is_letter byte) (ends_scheme bytes) h).1)

-- an absolute IRI has a colon
pub absolute_colon : (iri : List ℕ) → IsTrue (is_absolute iri) → has_colon iri ≡ true
unfolding is_iri
absolute_colon iri h =
    let parts = and_parts (nat_le (length iri) iri_limit) (has_scheme iri && list_all (λ byte. not (is_excluded byte)) iri) h in
    scheme_colon iri (and_parts (has_scheme iri) (list_all (λ byte. not (is_excluded byte)) iri) parts.1).0
