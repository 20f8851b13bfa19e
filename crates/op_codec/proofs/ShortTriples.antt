-- How many bytes are written for a triple.
use Rattle.std.proofs.Common.{◌≡◌, ◌∙◌, ℕ, ◌+◌, ◌-◌, ◌*◌, ◌<◌, ◌≤◌, ◌↔◌, List, [], ◌∷◌, ◌++◌, Some, None, IsTrue, nat_lt, length, length-append, get_or, take, ◌==◌, ap, subst, inl, inr, arith}
use Rattle.std.proofs.lemmas.Bool.{cases_Bool, ltb-true, lt-ltb}
use Rattle.std.proofs.lemmas.List.{length-take-le}
use Rattle.rdf_terms.specs.Grammar.{IsTermWithin, IsTripleWithin}
use Rattle.rdf_terms.specs.Literal.{LiteralValue, Typed, Tagged, lexical_form, language_of, lexical_limit, xsd_string, is_same}
use Rattle.text_rules.proofs.Appending.{escaped_more}
use Rattle.rdf_terms.specs.Spelling.{iri_text, datatype_text, term_text, triple_text}
use Rattle.rdf_terms.specs.declared.terms.Term.{Term}
use Rattle.rdf_terms.specs.declared.terms.Term.TheVariants as terms
use Rattle.rdf_terms.specs.declared.terms.Triple.{Triple}
use Rattle.text_rules.specs.Escaped.{escaped, escaped_byte}
use Rattle.text_rules.specs.Marks.{space, quote, dot, greater, at_sign, line_feed, carriage_return, backslash}
use Rattle.op_codec.specs.Stored.{IsShortTriple}

-- at most two bytes for a byte
byte_count : (byte : ℕ) → length (escaped_byte byte) ≤ 2
byte_count byte = elim (cases_Bool (byte == quote)) [
  | inl t ↦ rw t (omega arith)
  | inr f ↦ rw f (elim (cases_Bool (byte == backslash)) [
    | inl t ↦ rw t (omega arith)
    | inr g ↦ rw g (elim (cases_Bool (byte == line_feed)) [
      | inl t ↦ rw t (omega arith)
      | inr h ↦ rw h (elim (cases_Bool (byte == carriage_return)) [
        | inl t ↦ rw t (omega arith)
        | inr k ↦ rw k (omega arith)
      ])
    ])
  ])
]

-- at most twice as many for a lexical form
pub escaped_count : (text : List ℕ) → length (escaped text) ≤ 2 * length text
escaped_count [] = omega arith
escaped_count (byte ∷ text) =
    let first = byte_count byte in
    let rest = escaped_count text in
    let both = length-append (escaped_byte byte) (escaped text) in
    omega (arith, first, rest, both)

iri_count : (iri : List ℕ) → length (iri_text iri) ≡ length iri + 2
iri_count iri = let l = length-append iri (greater ∷ []) in omega (arith, l)

-- a datatype, its two marks and brackets at most
datatype_count : (datatype : List ℕ) → length (datatype_text datatype) ≤ length datatype + 4
datatype_count datatype = elim (cases_Bool (is_same datatype xsd_string)) [
  | inl t ↦ rw t (omega arith)
  | inr f ↦ rw f (let i = iri_count datatype in omega (arith, i))
]

-- a triple by its terms
triple_count : (triple : Triple) → length (triple_text triple) ≡ length triple.s + length triple.p + length (term_text triple.o) + 8
unfolding triple_text
triple_count triple =
    let last = length-append (term_text triple.o) (space ∷ dot ∷ []) in
    let more = length-append (iri_text triple.p) (space ∷ (term_text triple.o ++ space ∷ dot ∷ [])) in
    let all = length-append (iri_text triple.s) (space ∷ (iri_text triple.p ++ space ∷ (term_text triple.o ++ space ∷ dot ∷ []))) in
    let s = iri_count triple.s in
    let p = iri_count triple.p in
    omega (arith, last, more, all, s, p)

object_iri : (iri : List ℕ) → length (term_text (terms.Iri iri)) ≡ length iri + 2
unfolding term_text
object_iri iri = iri_count iri

object_typed : (lexical datatype : List ℕ) → length (term_text (terms.Literal (Typed lexical datatype))) ≤ length (escaped lexical) + length datatype + 6
unfolding term_text
object_typed lexical datatype =
    let l = length-append (escaped lexical) (quote ∷ datatype_text datatype) in
    let d = datatype_count datatype in
    omega (arith, l, d)

object_tagged : (lexical tag : List ℕ) → length (term_text (terms.Literal (Tagged lexical tag))) ≡ length (escaped lexical) + 3 + length tag
unfolding term_text
object_tagged lexical tag = let l = length-append (escaped lexical) (quote ∷ at_sign ∷ tag) in omega (arith, l)

module _ (triple : Triple) (within : IsTripleWithin triple) where
  object_within : (object : Term) → triple.o ≡ object → IsTermWithin object
  object_within object e = subst IsTermWithin e within.object

  count_by : (object : Term) → triple.o ≡ object → length (triple_text triple) ≡ length triple.s + length triple.p + length (term_text object) + 8
  count_by object e = triple_count triple ∙ ap (λ (o : Term). length triple.s + length triple.p + length (term_text o) + 8) e

  -- a triple whose object is an IRI is short
  pub short_iri : (iri : List ℕ) → triple.o ≡ terms.Iri iri → IsShortTriple triple
  short_iri iri e =
      let o = object_within (terms.Iri iri) e in
      let c = count_by (terms.Iri iri) e in
      let i = object_iri iri in
      omega (arith, c, i, o, within.subject, within.predicate)

  -- the lexical form isn't too long
  pub lexical_within : (literal : LiteralValue) → triple.o ≡ terms.Literal literal → length (lexical_form literal) ≤ lexical_limit
  lexical_within (Typed lexical datatype) e = (object_within (terms.Literal (Typed lexical datatype)) e).0
  lexical_within (Tagged lexical tag) e = object_within (terms.Literal (Tagged lexical tag)) e

  -- a triple whose object has no language tag is short
  pub short_typed : (literal : LiteralValue) → triple.o ≡ terms.Literal literal → language_of literal ≡ None → IsShortTriple triple
  short_typed (Typed lexical datatype) e n =
      let o = object_within (terms.Literal (Typed lexical datatype)) e in
      let c = count_by (terms.Literal (Typed lexical datatype)) e in
      let t = object_typed lexical datatype in
      let l = escaped_count lexical in
      omega (arith, c, t, l, o.0, o.1, within.subject, within.predicate)
  short_typed (Tagged lexical tag) e n = absurd (let f : Some tag ≡ None = n in cc)

  -- and one with a language tag by its count
  pub tagged_count : (literal : LiteralValue) (tag : List ℕ) → triple.o ≡ terms.Literal literal → language_of literal ≡ Some tag
      → length (triple_text triple) ≡ (length triple.s + length triple.p + length (escaped (lexical_form literal)) + 11) + length tag
  tagged_count (Typed lexical datatype) tag e n = absurd (let f : None ≡ Some tag = n in cc)
  tagged_count (Tagged lexical other) tag e n =
      let same : other ≡ tag = let f : Some other ≡ Some tag = n in cc in
      let c = count_by (terms.Literal (Tagged lexical other)) e in
      let t = object_tagged lexical other in
      let k : length other ≡ length tag = ap length same in
      omega (arith, c, t, k)

-- ---- counting

-- how many bytes are written for a front of a lexical form that isn't too long
pub front_count : (text : List ℕ) (place : ℕ) → place ≤ length text → length text ≤ lexical_limit → length (escaped (take place text)) ≤ 2097152
front_count text place within limited =
    let most = escaped_count (take place text) in
    let size = length-take-le place text within in
    omega (arith, most, size)

-- and for one byte more
pub byte_more : (text : List ℕ) (place count more : ℕ) → place < length text → count ≡ length (escaped (take place text))
    → more ≡ length (escaped_byte (get_or text place 0)) → count + more ≡ length (escaped (take (place + 1) text))
byte_more text place count more within so_far is =
    let longer : length (escaped (take (place + 1) text)) ≡ length (escaped (take place text) ++ escaped_byte (get_or text place 0)) =
    ap length (escaped_more text place within) in
    let both = length-append (escaped (take place text)) (escaped_byte (get_or text place 0)) in
    omega (arith, longer, both, so_far, is)

-- the count of a lexical form by what its bytes are
pub form_count : (bytes form : List ℕ) (count : ℕ) → bytes ≡ form → count ≡ length (escaped bytes) → length form ≤ lexical_limit
    → (count ≡ length (escaped form)) × (count ≤ 2097152)
form_count bytes form count same is limited =
    let e : count ≡ length (escaped form) = is ∙ ap (λ (text : List ℕ). length (escaped text)) same in
    let most = escaped_count form in
    (e, omega (arith, e, most))

-- a text is short where its last part is shorter than what is left
pub short_by_parts : (size count tag : ℕ) → size ≡ count + tag → count ≤ 4294967296 → IsTrue (nat_lt tag (4294967296 - count)) ↔ (size < 4294967296)
short_by_parts size count tag is within = (
  λ h. let l = ltb-true tag (4294967296 - count) h in omega (arith, l, is, within),
  λ h. lt-ltb tag (4294967296 - count) (omega (arith, h, is, within)),
)
