-- Which texts are the written form of a triple.
use Rattle.std.proofs.Common.{◌≡◌, ℕ, List, Bool, true, false, ◌&&◌, Some, None, if◌then◌else◌, length, refl, inl, inr}
use Rattle.std.proofs.lemmas.Bool.{cases_Bool, and_from, le-leb}
use Rattle.std.proofs.lemmas.Str.{IsUtf8-from_is_utf8, is_utf8-from_IsUtf8}
use Rattle.std.specs.Str.{IsUtf8, is_utf8}
use Rattle.rdf_terms.proofs.Complete.{spelled_read}
use Rattle.rdf_terms.proofs.Sound.{read_spelled}
use Rattle.rdf_terms.proofs.Values.{IsWithin-from_test}
use Rattle.rdf_terms.specs.declared.terms.Term.{Term}
use Rattle.rdf_terms.specs.declared.terms.Term.TheVariants as terms
use Rattle.rdf_terms.specs.declared.terms.Triple.{Triple}
use Rattle.rdf_terms.specs.Building.{is_within, is_term_within}
use Rattle.rdf_terms.specs.Grammar.{SpellsTriple, IsTripleWithin, IsTermWithin}
use Rattle.rdf_terms.specs.Literal.{Typed, Tagged, is_same, lexical_limit}
use Rattle.rdf_terms.specs.TripleReading.{ReadingEnd, Spelled, Stopped, Before, Subject, run}
use Rattle.rdf_terms.specs.Spelling.{triple_text}
use Rattle.op_codec.specs.Triples.{written_triple, triple_of}

-- the lengths of a term decide its test
term_test : (o : Term) → IsTermWithin o → is_term_within o ≡ true
term_test (terms.Iri iri) h = le-leb (length iri) _ h
term_test (terms.Literal (Typed lexical datatype)) h =
    and_from _ _ (le-leb (length lexical) lexical_limit h.0) (le-leb (length datatype) _ h.1)
term_test (terms.Literal (Tagged lexical tag)) h = le-leb (length lexical) lexical_limit h

-- the lengths of a triple decide its test
within_test : (t : Triple) → IsTripleWithin t → is_within t ≡ true
unfolding is_within
within_test t h =
    and_from _ (is_term_within t.o) (and_from _ _ (le-leb (length t.s) _ h.subject) (le-leb (length t.p) _ h.predicate)) (term_test t.o h.object)

-- bytes that aren't UTF-8 are no triple's
pub not_utf8 : (text : List ℕ) → ¬ IsUtf8 text → triple_of text ≡ None
unfolding triple_of
not_utf8 text n = elim (cases_Bool (is_utf8 text)) [
  | inl t ↦ absurd (n (IsUtf8-from_is_utf8 text t))
  | inr f ↦ rw f
]

-- the triple of a text that spells it, by what its tests say
spelled_triple : (text : List ℕ) (t : Triple) (b : Bool) → IsUtf8 text → SpellsTriple text t → (is_within t && is_same (triple_text t) text) ≡ b
    → triple_of text ≡ (if b then Some t else None)
unfolding triple_of
spelled_triple text t b u s e =
    let read : run text (Before Subject) ≡ Spelled t = spelled_read text t s in
    rw (is_utf8-from_IsUtf8 text u, read, e)

-- a text that spells a triple as it is written is that triple's
pub triple_written : (text : List ℕ) (t : Triple) → IsUtf8 text → SpellsTriple text t → IsTripleWithin t → is_same (triple_text t) text ≡ true → triple_of text ≡ Some t
triple_written text t u s w e =
    spelled_triple text t true u s (and_from (is_within t) (is_same (triple_text t) text) (within_test t w) e)

-- a text that spells a triple otherwise is no triple's
pub otherwise_written : (text : List ℕ) (t : Triple) → IsUtf8 text → SpellsTriple text t → IsTripleWithin t → is_same (triple_text t) text ≡ false → triple_of text ≡ None
otherwise_written text t u s w e = spelled_triple text t false u s (rw (within_test t w) e)

-- a text that spells a triple that is too long is no triple's
pub too_long : (text : List ℕ) (t : Triple) → IsUtf8 text → SpellsTriple text t → ¬ IsTripleWithin t → triple_of text ≡ None
too_long text t u s n = elim (cases_Bool (is_within t)) [
  | inl e ↦ absurd (n (IsWithin-from_test t e))
  | inr e ↦ spelled_triple text t false u s (rw e)
]

-- a text that spells no triple is no triple's
pub not_spelled : (text : List ℕ) → ((t : Triple) → ¬ SpellsTriple text t) → triple_of text ≡ None
unfolding triple_of
not_spelled text n = elim (cases_Bool (is_utf8 text)) [
  | inl e ↦ rw e (by (run text (Before Subject)) refl)
  | inr e ↦ rw e
]
  where
    by : (verdict : ReadingEnd) → run text (Before Subject) ≡ verdict → written_triple text verdict ≡ None
    by (Spelled t) e = absurd (n t (read_spelled text t e))
    by (Stopped left) e = refl
