-- What is spelled is read.
use Rattle.std.proofs.Common.{◌≡◌, ℕ, List, [], ◌∷◌, ◌++◌, Bool, true, false, not, Some, refl, sym, ap, subst, ◌∙◌, inl, inr, arith, eqb, IsTrue, append_assoc}
use Rattle.std.specs.List.{list_all, flat_map}
use Rattle.std.proofs.lemmas.Bool.{and_from, and_parts, or_left, not-true}
use Rattle.std.proofs.lemmas.Bool.Decides.{nat_tests}
use Rattle.std.proofs.lemmas.List.{append-nil}
use Rattle.text_rules.specs.Iri.{is_iri}
use Rattle.text_rules.specs.declared.spots.Spot.TheVariants.{SchemeStart, Lexical}
use Rattle.rdf_terms.specs.declared.terms.Term.{Term}
use Rattle.rdf_terms.specs.declared.terms.Term.TheVariants as terms
use Rattle.rdf_terms.specs.declared.terms.Triple.{Triple}
use Rattle.rdf_terms.specs.Escapes.{piece_value}
use Rattle.rdf_terms.specs.Grammar.{is_blank, is_blanks, SpellsIri, SpellsLexical, SpellsDatatype, SpellsTag, SpellsLiteral, SpellsObject, Layout, SpellsTriple}
use Rattle.rdf_terms.specs.Literal.{LiteralValue, Typed, Tagged, xsd_string, rdf_lang_string, is_same}
use Rattle.rdf_terms.specs.TripleReading.{Slot, Subject, Predicate, Object, LexicalForm, Datatype, State, Before, Within, Between, Quoted, Hat, Tag, Closed, Ended, closed, step, Spelled, verdict, run, run_from}
use Rattle.rdf_terms.proofs.SpotLaws.{spot-from_is_iri}
use Rattle.rdf_terms.proofs.Steps.{run_step}
use Rattle.rdf_terms.proofs.Pieces.{iri_pieces_read, lexical_pieces_read}
use Rattle.rdf_terms.proofs.Tagged.{is_break, StartsBreak, same_step, tag_read}

-- ---- blanks

-- a test of every element of two lists in a row is one of each list
all_first : (test : ℕ → Bool) (a b : List ℕ) → list_all test (a ++ b) ≡ true → list_all test a ≡ true
all_first test [] b h = refl
all_first test (x ∷ a) b h = let p = and_parts (test x) (list_all test (a ++ b)) h in and_from (test x) (list_all test a) p.0 (all_first test a b p.1)

all_second : (test : ℕ → Bool) (a b : List ℕ) → list_all test (a ++ b) ≡ true → list_all test b ≡ true
all_second test [] b h = h
all_second test (x ∷ a) b h = all_second test a b (and_parts (test x) (list_all test (a ++ b)) h).1

-- a state that blanks leave as it is
abbrev PassesBlanks : State → Type 0
PassesBlanks state = (byte : ℕ) → is_blank byte ≡ true → step state byte ≡ Some state

-- blanks are passed over
blanks_read : (state : State) (blanks rest : List ℕ) → PassesBlanks state → IsTrue (is_blanks blanks) → run (blanks ++ rest) state ≡ run rest state
blanks_read state [] rest passes h = refl
blanks_read state (byte ∷ blanks) rest passes h =
    let p = and_parts (is_blank byte) (list_all is_blank blanks) h in
    run_step state state byte (blanks ++ rest) (passes byte p.0) ∙ blanks_read state blanks rest passes p.1

-- the states that blanks leave as they are
before_subject : PassesBlanks (Before Subject)
unfolding step
before_subject byte h = rw h refl

before_predicate : (s : List ℕ) → PassesBlanks (Before (Predicate s))
unfolding step
before_predicate s byte h = rw h refl

before_object : (s p : List ℕ) → PassesBlanks (Before (Object s p))
unfolding step
before_object s p byte h = rw h refl

behind_object : (s p : List ℕ) (o : Term) → PassesBlanks (Closed s p o)
unfolding step
behind_object s p o byte h = rw h refl

behind_dot : (s p : List ℕ) (o : Term) → PassesBlanks (Ended s p o)
unfolding step
behind_dot s p o byte h = rw h refl

-- ---- terms

-- behind `<` an IRI is read up to its end
pub iri_read : (slot : Slot) (text iri rest : List ℕ) → SpellsIri text iri → step (Before slot) 60 ≡ Some (Within slot SchemeStart Between [])
    → run (text ++ rest) (Before slot) ≡ run_from (closed slot iri) rest
iri_read slot text iri rest h opens =
    let pieces = h.pieces.pieces in
    let start = subst (λ (v : List ℕ). IsTrue (is_iri v)) h.pieces.meant h.absolute in
    ap (λ l. run (l ++ rest) (Before slot)) h.whole
    ∙ run_step (Before slot) (Within slot SchemeStart Between []) 60 ((h.body ++ 62 ∷ []) ++ rest) opens
    ∙ ap (λ l. run l (Within slot SchemeStart Between [])) (append_assoc h.body (62 ∷ []) rest ∙ ap (λ b. b ++ 62 ∷ rest) h.pieces.spelled)
    ∙ iri_pieces_read slot SchemeStart [] pieces rest tt h.pieces.each (spot-from_is_iri (flat_map piece_value pieces) start)
    ∙ ap (λ v. run_from (closed slot v) rest) (sym h.pieces.meant)

-- a lexical form is read up to its closing quote
lexical_read : (s p text lexical rest : List ℕ) → SpellsLexical text lexical → run (text ++ rest) (Before (Object s p)) ≡ run rest (Quoted s p lexical)
unfolding step
lexical_read s p text lexical rest h =
    let pieces = h.pieces.pieces in
    let slot = LexicalForm s p in
    ap (λ l. run (l ++ rest) (Before (Object s p))) h.whole
    ∙ run_step (Before (Object s p)) (Within slot Lexical Between []) 34 ((h.body ++ 34 ∷ []) ++ rest) refl
    ∙ ap (λ l. run l (Within slot Lexical Between [])) (append_assoc h.body (34 ∷ []) rest ∙ ap (λ b. b ++ 34 ∷ rest) h.pieces.spelled)
    ∙ lexical_pieces_read slot [] pieces rest h.pieces.each
    ∙ ap (λ v. run_from (closed slot v) rest) (sym h.pieces.meant)

-- no byte that ends an object begins a tag or a datatype
break_no_at : (byte : ℕ) → is_break byte ≡ true → eqb byte 64 ≡ false
break_no_at byte h = grind (arith, nat_tests)

break_no_hat : (byte : ℕ) → is_break byte ≡ true → eqb byte 94 ≡ false
break_no_hat byte h = grind (arith, nat_tests)

-- a byte that ends an object does so behind the quotes
break_step : (s p lexical : List ℕ) (byte : ℕ) → is_break byte ≡ true → step (Quoted s p lexical) byte ≡ step (Closed s p (terms.Literal (Typed lexical xsd_string))) byte
unfolding step
break_step s p lexical byte h = rw (break_no_at byte h, break_no_hat byte h) refl

-- nothing behind the quotes
plain_read : (s p lexical rest : List ℕ) → StartsBreak rest → run rest (Quoted s p lexical) ≡ run rest (Closed s p (terms.Literal (Typed lexical xsd_string)))
plain_read s p lexical [] h = absurd h
plain_read s p lexical (byte ∷ rest) h = same_step (Quoted s p lexical) (Closed s p (terms.Literal (Typed lexical xsd_string))) byte rest (break_step s p lexical byte h)

-- behind the mark of a datatype that a literal may have
closed_datatype : (s p lexical datatype : List ℕ) → IsTrue (not (is_same datatype rdf_lang_string))
    → closed (Datatype s p lexical) datatype ≡ Some (Closed s p (terms.Literal (Typed lexical datatype)))
closed_datatype s p lexical datatype h = rw (not-true (is_same datatype rdf_lang_string) h) refl

-- a datatype behind the quotes
typed_read : (s p lexical named datatype rest : List ℕ) → SpellsIri named datatype → IsTrue (not (is_same datatype rdf_lang_string))
    → run (94 ∷ 94 ∷ (named ++ rest)) (Quoted s p lexical) ≡ run rest (Closed s p (terms.Literal (Typed lexical datatype)))
unfolding step
typed_read s p lexical named datatype rest h g =
    run_step (Quoted s p lexical) (Hat s p lexical) 94 (94 ∷ (named ++ rest)) refl
    ∙ run_step (Hat s p lexical) (Before (Datatype s p lexical)) 94 (named ++ rest) refl
    ∙ iri_read (Datatype s p lexical) named datatype rest h refl
    ∙ ap (λ o. run_from o rest) (closed_datatype s p lexical datatype g)

-- what stands behind the quotes of a typed literal
datatype_read : (s p lexical suffix datatype rest : List ℕ) → SpellsDatatype suffix datatype → StartsBreak rest
    → run (suffix ++ rest) (Quoted s p lexical) ≡ run rest (Closed s p (terms.Literal (Typed lexical datatype)))
datatype_read s p lexical suffix datatype rest h g =
    elim h [
      | inl k ↦ ap (λ l. run (l ++ rest) (Quoted s p lexical)) k.0 ∙ plain_read s p lexical rest g
          ∙ ap (λ (d : List ℕ). run rest (Closed s p (terms.Literal (Typed lexical d)))) (sym k.1)
      | inr k ↦ ap (λ l. run (l ++ rest) (Quoted s p lexical)) k.3 ∙ typed_read s p lexical k.0 datatype rest k.1 k.2
    ]

-- a language tag behind the quotes
tagged_read : (s p lexical suffix tag rest : List ℕ) → SpellsTag suffix tag → StartsBreak rest
    → run (suffix ++ rest) (Quoted s p lexical) ≡ run rest (Closed s p (terms.Literal (Tagged lexical tag)))
unfolding step
tagged_read s p lexical suffix tag rest h g =
    ap (λ l. run (l ++ rest) (Quoted s p lexical)) h.3
    ∙ run_step (Quoted s p lexical) (Tag s p lexical false false []) 64 (h.0 ++ rest) refl
    ∙ tag_read s p lexical h.0 rest h.1 g
    ∙ ap (λ (t : List ℕ). run rest (Closed s p (terms.Literal (Tagged lexical t)))) (sym h.2)

-- a literal is read
literal_read : (s p text : List ℕ) (literal : LiteralValue) (rest : List ℕ) → SpellsLiteral text literal → StartsBreak rest
    → run (text ++ rest) (Before (Object s p)) ≡ run rest (Closed s p (terms.Literal literal))
literal_read s p text (Typed lexical datatype) rest h g =
    ap (λ l. run l (Before (Object s p))) (ap (λ l. l ++ rest) h.4 ∙ append_assoc h.0 h.1 rest)
    ∙ lexical_read s p h.0 lexical (h.1 ++ rest) h.2
    ∙ datatype_read s p lexical h.1 datatype rest h.3 g
literal_read s p text (Tagged lexical tag) rest h g =
    ap (λ l. run l (Before (Object s p))) (ap (λ l. l ++ rest) h.4 ∙ append_assoc h.0 h.1 rest)
    ∙ lexical_read s p h.0 lexical (h.1 ++ rest) h.2
    ∙ tagged_read s p lexical h.1 tag rest h.3 g

-- an object is read
object_read : (s p text : List ℕ) (o : Term) (rest : List ℕ) → SpellsObject text o → StartsBreak rest
    → run (text ++ rest) (Before (Object s p)) ≡ run rest (Closed s p o)
unfolding step
object_read s p text (terms.Iri iri) rest h g = iri_read (Object s p) text iri rest h refl
object_read s p text (terms.Literal literal) rest h g = literal_read s p text literal rest h g

-- ---- triples

-- what stands behind an object ends it
break_after : (blanks rest : List ℕ) → IsTrue (is_blanks blanks) → StartsBreak (blanks ++ 46 ∷ rest)
break_after [] rest h = refl
break_after (byte ∷ blanks) rest h = or_left (is_blank byte) (eqb byte 46) (and_parts (is_blank byte) (is_blanks blanks) h).0

-- the dot, and the blanks around it
end_read : (s p : List ℕ) (o : Term) (before behind : List ℕ) → IsTrue (is_blanks before) → IsTrue (is_blanks behind)
    → run (before ++ 46 ∷ behind) (Closed s p o) ≡ Spelled (record { s = s; p = p; o = o })
unfolding step run verdict
end_read s p o before behind h g =
    blanks_read (Closed s p o) before (46 ∷ behind) (behind_object s p o) h
    ∙ run_step (Closed s p o) (Ended s p o) 46 behind refl
    ∙ ap (λ l. run l (Ended s p o)) (sym (append-nil behind))
    ∙ blanks_read (Ended s p o) behind [] (behind_dot s p o) g

-- a triple that is spelled is read
pub spelled_read : (text : List ℕ) (t : Triple) → SpellsTriple text t → run text (Before Subject) ≡ Spelled t
unfolding SpellsTriple step
spelled_read text t h =
    let l : Layout = h.0 in
    let b = h.1 in
    let four = l.before ++ l.after_subject ++ l.after_predicate ++ l.after_object in
    let three = l.before ++ l.after_subject ++ l.after_predicate in
    let two = l.before ++ l.after_subject in
    let f4 = all_first is_blank four l.after_dot b.blanks in
    let f3 = all_first is_blank three l.after_object f4 in
    let f2 = all_first is_blank two l.after_predicate f3 in
    let dot_blanks = all_second is_blank four l.after_dot b.blanks in
    let object_blanks = all_second is_blank three l.after_object f4 in
    let x4 = l.after_object ++ 46 ∷ l.after_dot in
    let x3 = l.object ++ x4 in
    let x2 = l.predicate ++ (l.after_predicate ++ x3) in
    let x1 = l.subject ++ (l.after_subject ++ x2) in
    ap (λ z. run z (Before Subject)) b.whole
    ∙ blanks_read (Before Subject) l.before x1 before_subject (all_first is_blank l.before l.after_subject f2)
    ∙ iri_read Subject l.subject t.s (l.after_subject ++ x2) b.subject refl
    ∙ blanks_read (Before (Predicate t.s)) l.after_subject x2 (before_predicate t.s) (all_second is_blank l.before l.after_subject f2)
    ∙ iri_read (Predicate t.s) l.predicate t.p (l.after_predicate ++ x3) b.predicate refl
    ∙ blanks_read (Before (Object t.s t.p)) l.after_predicate x3 (before_object t.s t.p) (all_second is_blank two l.after_predicate f3)
    ∙ object_read t.s t.p l.object t.o x4 b.object (break_after l.after_object l.after_dot object_blanks)
    ∙ end_read t.s t.p t.o l.after_object l.after_dot object_blanks dot_blanks

-- one verdict tells one triple
pub spelled_inj : {t u : Triple} → Spelled t ≡ Spelled u → t ≡ u
spelled_inj h = cc

-- one text spells one triple
pub one_spelled : (text : List ℕ) (t u : Triple) → SpellsTriple text t → SpellsTriple text u → t ≡ u
one_spelled text t u h g = spelled_inj (sym (spelled_read text t h) ∙ spelled_read text u g)
