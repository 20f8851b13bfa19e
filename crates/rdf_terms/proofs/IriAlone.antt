-- The text of an IRI alone: what is read is spelled, and what is spelled is read.
use Rattle.std.proofs.Common.{◌≡◌, ◌≢◌, ℕ, ◌<◌, ◌≤◌, List, [], ◌∷◌, ◌++◌, length, drop, refl, sym, ap, subst, ◌∙◌, inl, inr, arith, eqb, IsTrue, Result, Err, MatchResult}
use Rattle.std.proofs.lemmas.Bool.{cases_Bool, eqb-true, ne_eqb}
use Rattle.std.proofs.lemmas.List.{append-nil, drop_all, length-drop}
use Rattle.text_rules.specs.Iri.{is_absolute, iri_limit}
use Rattle.rdf_terms.specs.declared.faults.TripleFault.{TripleFault}
use Rattle.rdf_terms.specs.declared.faults.TripleFault.TheVariants.{NotTriple, TooLong}
use Rattle.rdf_terms.specs.declared.terms.Triple.{Triple}
use Rattle.rdf_terms.specs.Grammar.{SpellsIri, IsIriText}
use Rattle.rdf_terms.specs.TripleReading.{Slot, Alone, Before, Single, Spelled, thrice, step, run, verdict, StopsAt}
use Rattle.rdf_terms.specs.TripleReads.{IsIri, NeedsIri, TakesIri}
use Rattle.rdf_terms.proofs.FoundPieces.{stopped_spelled}
use Rattle.rdf_terms.proofs.Sound.{ReadsIri, iri_found}
use Rattle.rdf_terms.proofs.Complete.{iri_read, spelled_inj}
use Rattle.rdf_terms.proofs.Values.{absolute}

-- one verdict tells one IRI
one_thrice : {iri other : List ℕ} → Spelled (thrice iri) ≡ Spelled (thrice other) → iri ≡ other
one_thrice h = ap (λ (t : Triple). t.s) (spelled_inj h)

-- behind an IRI alone nothing stands
ends_alone : (written rest iri other : List ℕ) → SpellsIri written other → run rest (Single other) ≡ Spelled (thrice iri) → SpellsIri (written ++ rest) iri
unfolding run verdict step
ends_alone written [] iri other spelled h =
    subst (λ l. SpellsIri l iri) (sym (append-nil written)) (subst (SpellsIri written) (one_thrice h) spelled)
ends_alone written (byte ∷ rest) iri other spelled h = stopped_spelled h

-- what is read is spelled
pub alone_found : (text iri : List ℕ) → run text (Before Alone) ≡ Spelled (thrice iri) → SpellsIri text iri
unfolding run verdict step
alone_found [] iri h = stopped_spelled h
alone_found (byte ∷ text) iri h = elim (cases_Bool (eqb byte 60)) [
  | inl e ↦
      let g = rw e at h in
      let r : ReadsIri Alone (60 ∷ text) (thrice iri) = iri_found Alone text (thrice iri) g in
      subst (λ l. SpellsIri l iri) (sym (ap (λ b. b ∷ text) (eqb-true byte 60 e) ∙ r.whole)) (ends_alone r.written r.rest iri r.iri r.spelled r.goes)
  | inr e ↦ stopped_spelled (rw e at h)
]

-- what is spelled is read
pub alone_read : (text iri : List ℕ) → SpellsIri text iri → run text (Before Alone) ≡ Spelled (thrice iri)
unfolding run verdict step
alone_read text iri h = ap (λ l. run l (Before Alone)) (sym (append-nil text)) ∙ iri_read Alone text iri [] h refl

-- one text spells one IRI
pub one_iri : (text iri other : List ℕ) → SpellsIri text iri → SpellsIri text other → iri ≡ other
one_iri text iri other h g = one_thrice (sym (alone_read text iri h) ∙ alone_read text other g)

-- ---- what the reader answers

-- an IRI up to the end of the text
iri_whole : (text iri : List ℕ) (next : ℕ) → IsIri text 0 iri next → length text ≤ next → SpellsIri text iri
unfolding run verdict
iri_whole text iri next found past = alone_found text iri (found.leads Alone tt ∙ ap (λ l. run l (Single iri)) (drop_all next text past))

pub iri_text_read : (text iri : List ℕ) (next : ℕ) → IsIri text 0 iri next → length text ≤ next → length iri ≤ iri_limit → IsIriText text iri
iri_text_read text iri next found past short = record { spelled = iri_whole text iri next found past; within = short }

pub absolute_read : (text iri : List ℕ) (next : ℕ) → IsIri text 0 iri next → length text ≤ next → length iri ≤ iri_limit → IsTrue (is_absolute iri)
absolute_read text iri next found past short = let spelled = iri_whole text iri next found past in absolute iri short spelled.absolute

-- the only one, which is too long
pub iri_long : (text iri : List ℕ) (next : ℕ) → IsIri text 0 iri next → length text ≤ next → iri_limit < length iri → (other : List ℕ) → ¬ IsIriText text other
iri_long text iri next found past long other h =
    let same : iri ≡ other = one_iri text iri other (iri_whole text iri next found past) h.spelled in
    let short : length other ≤ iri_limit = h.within in
    absurd (omega (arith, ap length same))

-- behind an IRI alone reading stops at any byte
more_alone : (rest iri other : List ℕ) → 1 ≤ length rest → run rest (Single iri) ≡ Spelled (thrice other) → ⊥
unfolding run step
more_alone [] iri other some h = absurd (omega arith)
more_alone (byte ∷ rest) iri other some h = stopped_spelled h

pub iri_ends_early : (text iri : List ℕ) (next : ℕ) → IsIri text 0 iri next → next ≢ length text → (other : List ℕ) → ¬ IsIriText text other
iri_ends_early text iri next found no_end other h =
    let within : next ≤ length text = found.within in
    let some : 1 ≤ length (drop next text) = omega (arith, length-drop next text) in
    more_alone (drop next text) iri other some (sym (found.leads Alone tt) ∙ alone_read text other h.spelled)

-- no byte but `<` begins an IRI alone
alone_needs : (text : List ℕ) → NeedsIri Alone text 0
alone_needs text byte here other = rw (ne_eqb byte 60 other) refl

-- reading an IRI stops where the fault says
abbrev StopsIri : List ℕ → TripleFault → Type 0
StopsIri text fault = (slot : Slot) → TakesIri slot → NeedsIri slot text 0 → StopsAt text 0 (Before slot) fault

module _ {X : Type 0} (text : List ℕ) (value : X → List ℕ) (next : X → ℕ) (result : Result X TripleFault) where
  -- what the reader answers
  abbrev Answers : Type 0
  Answers = MatchResult result (λ read. IsIri text 0 (value read) (next read)) (StopsIri text)

  alone_stops : (fault other : TripleFault) → Answers → result ≡ Err fault → fault ≡ other → StopsAt text 0 (Before Alone) other
  alone_stops fault other answers e same =
      let stops : StopsIri text fault = subst (λ r. MatchResult r (λ read. IsIri text 0 (value read) (next read)) (StopsIri text)) e answers in
      subst (StopsAt text 0 (Before Alone)) same (stops Alone tt (alone_needs text))

  -- where reading stops nothing is spelled
  pub iri_refused : {place : ℕ} (fault : TripleFault) → Answers → result ≡ Err fault → fault ≡ NotTriple place → (other : List ℕ) → ¬ IsIriText text other
  iri_refused {place} fault answers e same other h =
      let stopped = alone_stops fault (NotTriple place) answers e same in
      stopped_spelled (sym stopped.1 ∙ alone_read text other h.spelled)

  -- the reader knows no limit
  pub iri_unlimited : (fault : TripleFault) → Answers → result ≡ Err fault → fault ≡ TooLong → ⊥
  iri_unlimited fault answers e same = alone_stops fault TooLong answers e same
