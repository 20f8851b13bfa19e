-- From the lengths of a triple that a text spells to a value that may be made.
use Rattle.std.proofs.Common.{◌≡◌, ℕ, ◌-◌, ◌≤◌, List, length, true, false, ◌&&◌, not, IsTrue, sym, subst, ap, ◌∙◌, leb, inl, inr, arith}
use Rattle.std.specs.Str.{str_to_ascii_lowercase}
use Rattle.std.proofs.lemmas.Bool.{and_parts, and_from, leb-true, le-leb, false≢true}
use Rattle.text_rules.specs.Iri.{is_iri, is_absolute, iri_limit}
use Rattle.rdf_terms.specs.declared.faults.TripleFault.{TripleFault}
use Rattle.rdf_terms.specs.declared.faults.TripleFault.TheVariants.{NotTriple, TooLong, NoMemory}
use Rattle.rdf_terms.specs.declared.terms.Term.{Term}
use Rattle.rdf_terms.specs.declared.terms.Term.TheVariants as terms
use Rattle.rdf_terms.specs.declared.terms.Triple.{Triple}
use Rattle.rdf_terms.specs.Building.{is_term_within, is_within, IsSoundTerm, IsSoundTriple, IsNoTriple, RefusesTriple}
use Rattle.rdf_terms.specs.Grammar.{SpellsObject, SpellsTriple, IsTripleWithin, IsTermWithin}
use Rattle.text_rules.specs.Tags.{is_language_tag}
use Rattle.rdf_terms.specs.Literal.{Typed, Tagged, rdf_lang_string, is_same, lexical_limit}
use Rattle.rdf_terms.specs.TripleReading.{run, Before, Subject, Spelled, StopsAt}
use Rattle.rdf_terms.proofs.Plain.{string_absolute, string_typed}
use Rattle.rdf_terms.proofs.Sound.{read_spelled}
use Rattle.rdf_terms.proofs.Stopping.{stopped_exactly}
use Rattle.text_rules.proofs.TagLemmas.{lower_tag, lower_lower}

term_within : (o : Term) → is_term_within o ≡ true → IsTermWithin o
term_within (terms.Iri iri) h = leb-true (length iri) iri_limit h
term_within (terms.Literal (Typed lexical datatype)) h =
    let p = and_parts (leb (length lexical) lexical_limit) (leb (length datatype) iri_limit) h in
    (leb-true (length lexical) lexical_limit p.0, leb-true (length datatype) iri_limit p.1)
term_within (terms.Literal (Tagged lexical tag)) h = leb-true (length lexical) lexical_limit h

within_term : (o : Term) → IsTermWithin o → is_term_within o ≡ true
within_term (terms.Iri iri) h = le-leb (length iri) iri_limit h
within_term (terms.Literal (Typed lexical datatype)) h =
    and_from (leb (length lexical) lexical_limit) (leb (length datatype) iri_limit) (le-leb (length lexical) lexical_limit h.0) (le-leb (length datatype) iri_limit h.1)
within_term (terms.Literal (Tagged lexical tag)) h = le-leb (length lexical) lexical_limit h

-- the test says what the lengths are
pub IsWithin-from_test : (t : Triple) → is_within t ≡ true → IsTripleWithin t
unfolding is_within
IsWithin-from_test t h =
    let p = and_parts (leb (length t.s) iri_limit && leb (length t.p) iri_limit) (is_term_within t.o) h in
    let q = and_parts (leb (length t.s) iri_limit) (leb (length t.p) iri_limit) p.0 in
    record { subject = leb-true (length t.s) iri_limit q.0; predicate = leb-true (length t.p) iri_limit q.1; object = term_within t.o p.1 }

test_from_IsWithin : (t : Triple) → IsTripleWithin t → is_within t ≡ true
unfolding is_within
test_from_IsWithin t h =
    and_from (leb (length t.s) iri_limit && leb (length t.p) iri_limit) (is_term_within t.o)
    (and_from (leb (length t.s) iri_limit) (leb (length t.p) iri_limit) (le-leb (length t.s) iri_limit h.subject) (le-leb (length t.p) iri_limit h.predicate)) (within_term t.o h.object)

-- an IRI within the limit
pub absolute : (iri : List ℕ) → length iri ≤ iri_limit → IsTrue (is_iri iri) → IsTrue (is_absolute iri)
absolute iri h g = and_from (leb (length iri) iri_limit) (is_iri iri) (le-leb (length iri) iri_limit h) g

object_is_sound : (w : List ℕ) (o : Term) → SpellsObject w o → IsTermWithin o → IsSoundTerm o
object_is_sound w (terms.Iri iri) s h = absolute iri h s.absolute
object_is_sound w (terms.Literal (Typed lexical datatype)) s h =
    elim s.3 [
      | inl k ↦ (le-leb (length lexical) lexical_limit h.0, absolute datatype h.1 (subst (λ d. IsTrue (is_iri d)) (sym k.1) string_absolute), subst (λ d. IsTrue (not (is_same d rdf_lang_string))) (sym k.1) string_typed)
      | inr k ↦ let named = k.1 in (le-leb (length lexical) lexical_limit h.0, absolute datatype h.1 named.absolute, k.2)
    ]
object_is_sound w (terms.Literal (Tagged lexical tag)) s h =
    let k = s.3 in
    (le-leb (length lexical) lexical_limit h, subst (λ t. is_language_tag t ≡ true) (sym k.2) (lower_tag k.0 ∙ k.1), lower k.0 tag k.2)
  where
    lower : (written tag : List ℕ) → tag ≡ str_to_ascii_lowercase written → str_to_ascii_lowercase tag ≡ tag
    lower written tag e = ap str_to_ascii_lowercase e ∙ lower_lower written ∙ sym e

-- a triple that is spelled and within the lengths may be made
sound_from_spelled : (text : List ℕ) (t : Triple) → SpellsTriple text t → IsTripleWithin t → IsSoundTriple t
unfolding SpellsTriple
sound_from_spelled text t s h =
    let b = s.1 in
    let subject = b.subject in
    let predicate = b.predicate in
    record { subject = absolute t.s h.subject subject.absolute; predicate = absolute t.p h.predicate predicate.absolute; object = object_is_sound s.0.object t.o b.object h.object }

-- a triple that was read, and is within the lengths
pub sound_from_read : (text : List ℕ) (t : Triple) → run text (Before Subject) ≡ Spelled t → is_within t ≡ true → IsSoundTriple t
sound_from_read text t e h = sound_from_spelled text t (read_spelled text t e) (IsWithin-from_test t h)

-- a triple that was read, and is not within the lengths
pub too_long_from_read : (text : List ℕ) (t : Triple) → run text (Before Subject) ≡ Spelled t → is_within t ≡ false → RefusesTriple text TooLong
too_long_from_read text t e h = (t, read_spelled text t e, λ w. false≢true (sym h ∙ test_from_IsWithin t w))

-- reading that stops refuses the text
pub refused_from_read : (text : List ℕ) (fault : TripleFault) → StopsAt text 0 (Before Subject) fault → RefusesTriple text fault
refused_from_read text (NotTriple place) h =
    let back : length text - (length text - place) ≡ place = let within : place ≤ length text = h.0 in omega arith in
    subst (λ (n : ℕ). IsNoTriple text n) back (stopped_exactly text (length text - place) h.1)
refused_from_read text TooLong h = absurd h
refused_from_read text NoMemory h = tt
