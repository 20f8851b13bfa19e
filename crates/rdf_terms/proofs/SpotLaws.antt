-- Spots along a value: where the next character stands behind it, and when it is an IRI.
use Rattle.std.proofs.Common.{◌≡◌, ℕ, ◌+◌, ◌/◌, ◌≤◌, List, [], ◌∷◌, ◌++◌, Bool, true, false, not, ◌&&◌, Option, Some, None, refl, sym, ap, ◌∙◌, IsTrue, leb, ◌==◌, inl, inr, arith}
use Rattle.std.specs.Char.{IsScalar}
use Rattle.std.specs.List.{list_all}
use Rattle.std.proofs.lemmas.Bool.{cases_Bool, cases_lt, and_parts, and_from, eqb-true, leb-true, le-leb, not-true, false≢true, le-ltb, lt-ltb}
use Rattle.std.proofs.lemmas.Bool.Decides.{nat_tests}
use Rattle.std.proofs.lemmas.Str.{encode_ascii}
use lib.Utf8.{encode, next}
use Rattle.text_rules.specs.Iri.{is_iri, ends_scheme, is_letter, is_scheme_byte, is_excluded}
use Rattle.text_rules.specs.declared.spots.Spot.{Spot}
use Rattle.text_rules.specs.declared.spots.Spot.TheVariants.{SchemeStart, Scheme, IriRest, Lexical}
use Rattle.rdf_terms.specs.TripleReading.{spot_behind}

-- where the next character stands behind a value, byte by byte, from a spot if there is one
abbrev pub spot_from : Option Spot → List ℕ → Option Spot
spot_from None value = None
spot_from (Some spot) [] = Some spot
spot_from (Some spot) (byte ∷ bytes) = spot_from (spot_behind spot byte) bytes

-- behind two values in a row
pub spot_from-append : (spot : Option Spot) (a b : List ℕ) → spot_from spot (a ++ b) ≡ spot_from (spot_from spot a) b
spot_from-append None [] b = refl
spot_from-append None (x ∷ a) b = refl
spot_from-append (Some spot) [] b = refl
spot_from-append (Some spot) (x ∷ a) b = spot_from-append (spot_behind spot x) a b

-- beyond ASCII: only the rest of an IRI and lexical forms go on
abbrev beyond : Spot → Option Spot
beyond SchemeStart = None
beyond Scheme = None
beyond IriRest = Some IriRest
beyond Lexical = Some Lexical

after_beyond : (spot : Spot) (code : ℕ) → 128 ≤ code → spot_behind spot code ≡ beyond spot
after_beyond SchemeStart code h = grind (arith, nat_tests)
after_beyond Scheme code h = grind (arith, nat_tests)
after_beyond IriRest code h = grind (arith, nat_tests)
after_beyond Lexical code h = refl

-- bytes beyond ASCII in a row
all_beyond : (spot : Spot) (byte : ℕ) (bytes : List ℕ) → 128 ≤ byte → list_all (λ b. leb 128 b) bytes ≡ true → spot_from (Some spot) (byte ∷ bytes) ≡ beyond spot
all_beyond spot byte bytes h g = ap (λ (s : Option Spot). spot_from s bytes) (after_beyond spot byte h) ∙ rest spot bytes g
  where
    rest : (spot : Spot) (bytes : List ℕ) → list_all (λ b. leb 128 b) bytes ≡ true → spot_from (beyond spot) bytes ≡ beyond spot
    rest SchemeStart bytes g = refl
    rest Scheme bytes g = refl
    rest IriRest [] g = refl
    rest IriRest (byte ∷ bytes) g =
        let p = and_parts (leb 128 byte) (list_all (λ b. leb 128 b) bytes) g in
        ap (λ (s : Option Spot). spot_from s bytes) (after_beyond IriRest byte (leb-true 128 byte p.0)) ∙ rest IriRest bytes p.1
    rest Lexical [] g = refl
    rest Lexical (byte ∷ bytes) g = rest Lexical bytes (and_parts (leb 128 byte) (list_all (λ b. leb 128 b) bytes) g).1

-- beyond ASCII a character's bytes are, and there are some
encode_beyond : (code : ℕ) → 128 ≤ code → (byte : ℕ) × (bytes : List ℕ) × (encode code ≡ byte ∷ bytes) × (128 ≤ byte) × (list_all (λ b. leb 128 b) bytes ≡ true)
unfolding encode
encode_beyond code h = elim (cases_lt code 2048) [
  | inl two ↦ (192 + code / 64, next code ∷ [], rw (le-ltb code 128 h, lt-ltb code 2048 two) refl, omega arith, one code)
  | inr more ↦ elim (cases_lt code 65536) [
    | inl three ↦ (
      224 + code / 4096,
      next (code / 64) ∷ next code ∷ [],
      rw (le-ltb code 128 h, le-ltb code 2048 more, lt-ltb code 65536 three) refl,
      omega arith,
      and_from (leb 128 (next (code / 64))) (list_all (λ b. leb 128 b) (next code ∷ [])) (low (code / 64)) (one code),
    )
    | inr four ↦ (
      240 + code / 262144,
      next (code / 4096) ∷ next (code / 64) ∷ next code ∷ [],
      rw (le-ltb code 128 h, le-ltb code 2048 more, le-ltb code 65536 four) refl,
      omega arith,
      and_from (leb 128 (next (code / 4096))) (list_all (λ b. leb 128 b) (next (code / 64) ∷ next code ∷ [])) (low (code / 4096))
          (and_from (leb 128 (next (code / 64))) (list_all (λ b. leb 128 b) (next code ∷ [])) (low (code / 64)) (one code)),
    )
  ]
]
  where
    low : (n : ℕ) → leb 128 (next n) ≡ true
    low n = le-leb 128 (next n) (omega arith)

    one : (n : ℕ) → list_all (λ b. leb 128 b) (next n ∷ []) ≡ true
    one n = and_from (leb 128 (next n)) true (low n) refl

-- behind one byte
spot_from-one : (spot : Option Spot) → spot_from spot [] ≡ spot
spot_from-one None = refl
spot_from-one (Some spot) = refl

-- behind the bytes of a character is behind the character
pub spot_from-encode : (spot : Spot) (code : ℕ) → IsScalar code → spot_from (Some spot) (encode code) ≡ spot_behind spot code
spot_from-encode spot code h = elim (cases_lt code 128) [
  | inl small ↦ ap (spot_from (Some spot)) (encode_ascii code small) ∙ spot_from-one (spot_behind spot code)
  | inr large ↦ let p = encode_beyond code large in ap (spot_from (Some spot)) p.2 ∙ all_beyond spot p.0 p.1 p.3 p.4 ∙ sym (after_beyond spot code large)
]

-- no byte that IRIs may not have
abbrev is_clean : List ℕ → Bool
is_clean = list_all (λ byte. not (is_excluded byte))

no_spot : {A : Type 0} → None ≡ Some IriRest → A
no_spot h = absurd (impossible h)
  where
    impossible : None ≡ Some IriRest → ⊥
    impossible h = cc

-- one byte at each spot
rest_stops : (byte : ℕ) → is_excluded byte ≡ true → spot_behind IriRest byte ≡ None
rest_stops byte h = rw h refl

rest_goes : (byte : ℕ) → is_excluded byte ≡ false → spot_behind IriRest byte ≡ Some IriRest
rest_goes byte h = rw h refl

scheme_colon : (byte : ℕ) → (byte == 58) ≡ true → spot_behind Scheme byte ≡ Some IriRest
scheme_colon byte h = rw h refl

scheme_goes : (byte : ℕ) → (byte == 58) ≡ false → is_scheme_byte byte ≡ true → spot_behind Scheme byte ≡ Some Scheme
scheme_goes byte h g = rw (h, g) refl

scheme_stops : (byte : ℕ) → (byte == 58) ≡ false → is_scheme_byte byte ≡ false → spot_behind Scheme byte ≡ None
scheme_stops byte h g = rw (h, g) refl

start_goes : (byte : ℕ) → is_letter byte ≡ true → spot_behind SchemeStart byte ≡ Some Scheme
start_goes byte h = rw h refl

start_stops : (byte : ℕ) → is_letter byte ≡ false → spot_behind SchemeStart byte ≡ None
start_stops byte h = rw h refl

-- behind a byte that leads to a spot
onward : (spot : Spot) (next : Option Spot) (byte : ℕ) (bytes : List ℕ) → spot_behind spot byte ≡ next → spot_from (Some spot) (byte ∷ bytes) ≡ spot_from next bytes
onward spot next byte bytes e = ap (λ (s : Option Spot). spot_from s bytes) e

rest_clean : (value : List ℕ) → spot_from (Some IriRest) value ≡ Some IriRest → is_clean value ≡ true
rest_clean [] h = refl
rest_clean (byte ∷ bytes) h = elim (cases_Bool (is_excluded byte)) [
  | inl e ↦ no_spot (sym (onward IriRest None byte bytes (rest_stops byte e)) ∙ h)
  | inr e ↦ and_from (not (is_excluded byte)) (is_clean bytes) (ap not e) (rest_clean bytes (sym (onward IriRest (Some IriRest) byte bytes (rest_goes byte e)) ∙ h))
]

clean_rest : (value : List ℕ) → is_clean value ≡ true → spot_from (Some IriRest) value ≡ Some IriRest
clean_rest [] h = refl
clean_rest (byte ∷ bytes) h =
    let p = and_parts (not (is_excluded byte)) (is_clean bytes) h in
    onward IriRest (Some IriRest) byte bytes (rest_goes byte (not-true (is_excluded byte) p.0)) ∙ clean_rest bytes p.1

-- values in a lexical form
pub spot_from-lexical : (value : List ℕ) → spot_from (Some Lexical) value ≡ Some Lexical
spot_from-lexical [] = refl
spot_from-lexical (byte ∷ bytes) = spot_from-lexical bytes

scheme_clean : (byte : ℕ) → is_scheme_byte byte ≡ true → not (is_excluded byte) ≡ true
scheme_clean byte h = grind (arith, nat_tests)

letter_clean : (byte : ℕ) → is_letter byte ≡ true → not (is_excluded byte) ≡ true
letter_clean byte h = grind (arith, nat_tests)

not_started : Some SchemeStart ≡ Some IriRest → ⊥
not_started h = cc

not_ended : Some Scheme ≡ Some IriRest → ⊥
not_ended h = cc

-- from within a scheme: scheme bytes, a colon, and nothing excluded
scheme_ends : (value : List ℕ) → spot_from (Some Scheme) value ≡ Some IriRest → (ends_scheme value ≡ true) × (is_clean value ≡ true)
scheme_ends [] h = absurd (not_ended h)
scheme_ends (byte ∷ bytes) h = elim (cases_Bool (byte == 58)) [
  | inl e ↦ (
    rw e refl,
    and_from (not (is_excluded byte)) (is_clean bytes) (ap (λ b. not (is_excluded b)) (eqb-true byte 58 e)) (rest_clean bytes (sym (onward Scheme (Some IriRest) byte bytes (scheme_colon byte e)) ∙ h)),
  )
  | inr e ↦ elim (cases_Bool (is_scheme_byte byte)) [
    | inl f ↦
        let q = scheme_ends bytes (sym (onward Scheme (Some Scheme) byte bytes (scheme_goes byte e f)) ∙ h) in
        (rw (e, f) q.0, and_from (not (is_excluded byte)) (is_clean bytes) (scheme_clean byte f) q.1)
    | inr f ↦ no_spot (sym (onward Scheme None byte bytes (scheme_stops byte e f)) ∙ h)
  ]
]

ends_scheme_spot : (value : List ℕ) → ends_scheme value ≡ true → is_clean value ≡ true → spot_from (Some Scheme) value ≡ Some IriRest
ends_scheme_spot [] h g = absurd (false≢true h)
ends_scheme_spot (byte ∷ bytes) h g =
    let p = and_parts (not (is_excluded byte)) (is_clean bytes) g in
    elim (cases_Bool (byte == 58)) [
      | inl e ↦ onward Scheme (Some IriRest) byte bytes (scheme_colon byte e) ∙ clean_rest bytes p.1
      | inr e ↦
          let q = and_parts (is_scheme_byte byte) (ends_scheme bytes) (rw e at h) in
          onward Scheme (Some Scheme) byte bytes (scheme_goes byte e q.0) ∙ ends_scheme_spot bytes q.1 p.1
    ]

-- a value that leads to the rest of an IRI is one
pub is_iri-from_spot : (value : List ℕ) → spot_from (Some SchemeStart) value ≡ Some IriRest → IsTrue (is_iri value)
unfolding is_iri
is_iri-from_spot [] h = absurd (not_started h)
is_iri-from_spot (byte ∷ bytes) h = elim (cases_Bool (is_letter byte)) [
  | inl e ↦
      let q = scheme_ends bytes (sym (onward SchemeStart (Some Scheme) byte bytes (start_goes byte e)) ∙ h) in
      and_from (is_letter byte && ends_scheme bytes) (is_clean (byte ∷ bytes)) (and_from (is_letter byte) (ends_scheme bytes) e q.0) (and_from (not (is_excluded byte)) (is_clean bytes) (letter_clean byte e) q.1)
  | inr e ↦ no_spot (sym (onward SchemeStart None byte bytes (start_stops byte e)) ∙ h)
]

-- an IRI leads there
pub spot-from_is_iri : (value : List ℕ) → IsTrue (is_iri value) → spot_from (Some SchemeStart) value ≡ Some IriRest
unfolding is_iri
spot-from_is_iri [] h = absurd (false≢true h)
spot-from_is_iri (byte ∷ bytes) h =
    let p = and_parts (is_letter byte && ends_scheme bytes) (is_clean (byte ∷ bytes)) h in
    let q = and_parts (is_letter byte) (ends_scheme bytes) p.0 in
    let r = and_parts (not (is_excluded byte)) (is_clean bytes) p.1 in
    onward SchemeStart (Some Scheme) byte bytes (start_goes byte q.0) ∙ ends_scheme_spot bytes q.1 r.1
