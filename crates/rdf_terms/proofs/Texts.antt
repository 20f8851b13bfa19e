-- What is written for a triple is UTF-8, since its texts are.
use Rattle.std.specs.Prelude.{◌≡◌, ℕ, zero, suc, ◌<◌, ◌≤◌, List, [], ◌∷◌, ◌++◌, length, get_or, Bool, true, false, cond, ◌==◌, IsTrue}
use Rattle.std.proofs.Common.{refl, sym, ap, ◌∙◌, subst, inl, inr, arith, append_assoc, append-nil, leb, lit<}
use lib.Utf8.{scalar, scalars, encode, encodes}
use Rattle.std.specs.Str.{IsUtf8}
use Rattle.std.proofs.lemmas.Bool.Decides.{nat_tests}
use Rattle.std.proofs.lemmas.Bool.{and_parts, leb-true, cases_lt}
use Rattle.std.proofs.lemmas.Str.{IsUtf8-append, IsUtf8-from_ascii, IsUtf8-encode, IsUtf8-nil, encode_ascii, inside_one}
use Rattle.text_rules.specs.Iri.{is_iri, is_absolute, iri_limit}
use Rattle.rdf_terms.specs.declared.terms.Term.{Term}
use Rattle.rdf_terms.specs.declared.terms.Term.TheVariants as terms
use Rattle.rdf_terms.specs.declared.terms.Triple.{Triple}
use Rattle.rdf_terms.specs.Building.{IsSoundTerm}
use Rattle.rdf_terms.specs.Grammar.{SpellsTriple, IsTermWithin}
use Rattle.rdf_terms.specs.Literal.{Typed, Tagged, xsd_string, is_same, lexical_limit}
use Rattle.text_rules.specs.Escaped.{escaped, escaped_byte}
use Rattle.rdf_terms.specs.Spelling.{iri_text, datatype_text, term_text, triple_text}
use Rattle.rdf_terms.specs.Written.{IsWritableTerm, IsUtf8Term, IsWrittenSo}
use Rattle.rdf_terms.proofs.Written.{written_spelled}

-- bytes one after another
escaped-append : (xs ys : List ℕ) → escaped (xs ++ ys) ≡ escaped xs ++ escaped ys
escaped-append [] ys = refl
escaped-append (x ∷ xs) ys = ap (λ (l : List ℕ). escaped_byte x ++ l) (escaped-append xs ys) ∙ sym (append_assoc (escaped_byte x) (escaped xs) (escaped ys))

-- a byte that isn't ASCII is written as it is
escaped_high : (byte : ℕ) → 128 ≤ byte → escaped_byte byte ≡ byte ∷ []
escaped_high byte h = grind (arith, nat_tests)

-- and so are bytes none of which is
escaped_same : (bytes : List ℕ) → ((k : ℕ) → k < length bytes → 128 ≤ get_or bytes k 0) → escaped bytes ≡ bytes
escaped_same [] h = refl
escaped_same (byte ∷ bytes) h =
    ap (λ (l : List ℕ). l ++ escaped bytes) (escaped_high byte (h 0 (omega arith)))
    ∙ ap (λ (l : List ℕ). byte ∷ l) (escaped_same bytes (λ k lt. let more : suc k < suc (length bytes) = omega arith in h (suc k) more))

-- one byte and two bytes of ASCII
utf8_one : (x : ℕ) → x < 128 → IsUtf8 (x ∷ [])
utf8_one x h = IsUtf8-from_ascii (x ∷ []) (λ i. at i) where
  at : (i : ℕ) → get_or (x ∷ []) i 0 < 128
  at zero = h
  at (suc i) = omega arith

utf8_two : (x y : ℕ) → x < 128 → y < 128 → IsUtf8 (x ∷ y ∷ [])
utf8_two x y h g = IsUtf8-append (x ∷ []) (y ∷ []) (utf8_one x h) (utf8_one y g)

utf8_cond : (b : Bool) (x y : List ℕ) → IsUtf8 x → IsUtf8 y → IsUtf8 (cond b x y)
utf8_cond true x y h g = h
utf8_cond false x y h g = g

-- a byte of ASCII as it is written
escaped_low : (byte : ℕ) → byte < 128 → IsUtf8 (escaped_byte byte)
escaped_low byte h =
    utf8_cond (byte == 34) (92 ∷ 34 ∷ []) _ (utf8_two 92 34 (lit< tt) (lit< tt))
    (utf8_cond (byte == 92) (92 ∷ 92 ∷ []) _ (utf8_two 92 92 (lit< tt) (lit< tt))
    (utf8_cond (byte == 10) (92 ∷ 110 ∷ []) _ (utf8_two 92 110 (lit< tt) (lit< tt))
    (utf8_cond (byte == 13) (92 ∷ 114 ∷ []) _ (utf8_two 92 114 (lit< tt) (lit< tt)) (utf8_one byte h))))

-- a character as it is written
escaped_char : (c : ℕ) → scalar c ≡ true → IsUtf8 (escaped (encode c))
escaped_char c s = elim (cases_lt c 128) [
  | inl low ↦ subst (λ (l : List ℕ). IsUtf8 (escaped l)) (sym (encode_ascii c low)) (IsUtf8-append (escaped_byte c) [] (escaped_low c low) IsUtf8-nil)
  | inr high ↦ subst IsUtf8 (sym (escaped_same (encode c) (λ k lt. high_bytes c high k lt))) (IsUtf8-encode c s)
] where
  high_bytes : (c' : ℕ) → 128 ≤ c' → (k : ℕ) → k < length (encode c') → 128 ≤ get_or (encode c') k 0
  high_bytes c' high k lt = elim (cases_lt (get_or (encode c') k 0) 128) [
    | inl small ↦ let e : c' ≡ get_or (encode c') k 0 = inside_one c' [] (encode c') k (sym (append-nil (encode c'))) lt small in omega arith
    | inr large ↦ large
  ]

-- a lexical form as it is written
escaped_text : (cs : List ℕ) → scalars cs ≡ true → IsUtf8 (escaped (encodes cs))
escaped_text [] h = IsUtf8-nil
escaped_text (c ∷ cs) h =
    let p = and_parts (scalar c) (scalars cs) h in
    subst IsUtf8 (sym (escaped-append (encode c) (encodes cs))) (IsUtf8-append (escaped (encode c)) (escaped (encodes cs)) (escaped_char c p.0) (escaped_text cs p.1))

escaped_utf8 : (bytes : List ℕ) → IsUtf8 bytes → IsUtf8 (escaped bytes)
escaped_utf8 bytes u = subst (λ (l : List ℕ). IsUtf8 (escaped l)) u.1.1 (escaped_text u.0 u.1.0)

-- an IRI as it is written
iri_utf8 : (iri : List ℕ) → IsUtf8 iri → IsUtf8 (iri_text iri)
iri_utf8 iri u = IsUtf8-append (60 ∷ []) (iri ++ 62 ∷ []) (utf8_one 60 (lit< tt)) (IsUtf8-append iri (62 ∷ []) u (utf8_one 62 (lit< tt)))

-- a lexical form in its quotes, and what is behind them
quoted_utf8 : (lexical rest : List ℕ) → IsUtf8 lexical → IsUtf8 rest → IsUtf8 (34 ∷ (escaped lexical ++ 34 ∷ rest))
quoted_utf8 lexical rest u v =
    IsUtf8-append (34 ∷ []) (escaped lexical ++ 34 ∷ rest) (utf8_one 34 (lit< tt))
    (IsUtf8-append (escaped lexical) (34 ∷ rest) (escaped_utf8 lexical u) (IsUtf8-append (34 ∷ []) rest (utf8_one 34 (lit< tt)) v))

-- a term as it is written
term_utf8 : (term : Term) → IsUtf8Term term → IsUtf8 (term_text term)
unfolding term_text
term_utf8 (terms.Iri iri) u = iri_utf8 iri u
term_utf8 (terms.Literal (Typed lexical datatype)) u =
    quoted_utf8 lexical (datatype_text datatype) u.0 (utf8_cond (is_same datatype xsd_string) [] (94 ∷ 94 ∷ iri_text datatype) IsUtf8-nil (IsUtf8-append (94 ∷ 94 ∷ []) (iri_text datatype) (utf8_two 94 94 (lit< tt) (lit< tt)) (iri_utf8 datatype u.1)))
term_utf8 (terms.Literal (Tagged lexical tag)) u =
    quoted_utf8 lexical (64 ∷ tag) u.0 (IsUtf8-append (64 ∷ []) tag (utf8_one 64 (lit< tt)) u.1)

-- a triple as it is written
triple_utf8 : (t : Triple) → IsUtf8 t.s → IsUtf8 t.p → IsUtf8Term t.o → IsUtf8 (triple_text t)
unfolding triple_text
triple_utf8 t s p o =
    IsUtf8-append (iri_text t.s) (32 ∷ (iri_text t.p ++ 32 ∷ (term_text t.o ++ 32 ∷ 46 ∷ []))) (iri_utf8 t.s s)
    (IsUtf8-append (32 ∷ []) (iri_text t.p ++ 32 ∷ (term_text t.o ++ 32 ∷ 46 ∷ [])) (utf8_one 32 (lit< tt))
    (IsUtf8-append (iri_text t.p) (32 ∷ (term_text t.o ++ 32 ∷ 46 ∷ [])) (iri_utf8 t.p p)
    (IsUtf8-append (32 ∷ []) (term_text t.o ++ 32 ∷ 46 ∷ []) (utf8_one 32 (lit< tt))
    (IsUtf8-append (term_text t.o) (32 ∷ 46 ∷ []) (term_utf8 t.o o) (utf8_two 32 46 (lit< tt) (lit< tt))))))

-- an absolute IRI is within the limit, and is an IRI
absolute_parts : (iri : List ℕ) → IsTrue (is_absolute iri) → (length iri ≤ iri_limit) × IsTrue (is_iri iri)
absolute_parts iri h = let p = and_parts (leb (length iri) iri_limit) (is_iri iri) h in (leb-true (length iri) iri_limit p.0, p.1)

-- a sound object is within the limits, and may be written
object_within : (term : Term) → IsSoundTerm term → IsTermWithin term
object_within (terms.Iri iri) h = (absolute_parts iri h).0
object_within (terms.Literal (Typed lexical datatype)) h = (leb-true (length lexical) lexical_limit h.0, (absolute_parts datatype h.1).0)
object_within (terms.Literal (Tagged lexical tag)) h = leb-true (length lexical) lexical_limit h.0

object_writable : (term : Term) → IsSoundTerm term → IsWritableTerm term
object_writable (terms.Iri iri) h = (absolute_parts iri h).1
object_writable (terms.Literal (Typed lexical datatype)) h = ((absolute_parts datatype h.1).1, h.2)
object_writable (terms.Literal (Tagged lexical tag)) h = (h.1, h.2)

-- what is written for a triple of sound terms whose texts are UTF-8
pub written_so : (t : Triple) → IsTrue (is_absolute t.s) → IsTrue (is_absolute t.p) → IsSoundTerm t.o → IsUtf8 t.s → IsUtf8 t.p → IsUtf8Term t.o → IsWrittenSo t
written_so t s p o us up uo =
    let subject = absolute_parts t.s s in
    let predicate = absolute_parts t.p p in
    record {
      spelled = subst (λ (l : List ℕ). SpellsTriple l t) (append-nil (triple_text t)) (written_spelled t [] (record { subject = subject.1; predicate = predicate.1; object = object_writable t.o o }) refl);
      within = record { subject = subject.0; predicate = predicate.0; object = object_within t.o o };
      utf8 = triple_utf8 t us up uo;
    }
