-- Steps of reading a triple.
use Rattle.std.proofs.Common.{◌≡◌, ◌≢◌, ℕ, suc, ◌+◌, ◌-◌, ◌<◌, ◌≤◌, List, [], length, get_or, drop, Bool, true, false, cond, Some, None, refl, sym, ap, ◌∙◌, subst, inl, inr, arith, Result, Ok, Err, MatchResult}
use Rattle.std.specs.Str.{IsUtf8, IsCharBoundary}
use Rattle.std.proofs.lemmas.Str.{IsCharBoundary-after_ascii}
use Rattle.std.proofs.lemmas.Bool.{cases_lt, ne_eqb}
use Rattle.std.proofs.lemmas.List.{drop_all, length-drop}
use Rattle.rdf_terms.specs.declared.faults.TripleFault.{TripleFault}
use Rattle.rdf_terms.specs.declared.faults.TripleFault.TheVariants.{NotTriple}
use Rattle.text_rules.specs.declared.spots.Spot.TheVariants.{SchemeStart, Lexical}
use Rattle.rdf_terms.specs.declared.terms.Term.{Term}
use Rattle.rdf_terms.specs.declared.terms.Term.TheVariants as terms
use Rattle.rdf_terms.specs.Grammar.{is_blank}
use Rattle.rdf_terms.specs.Literal.{Typed, xsd_string, rdf_lang_string, is_same}
use Rattle.rdf_terms.specs.TripleReading.{Slot, Alone, Subject, Predicate, Object, LexicalForm, Datatype, State, Before, Within, Between, Quoted, Hat, Tag, Closed, Ended, Stopped, step, verdict, resume, run, run_from, Leads, StopsAt}
use Rattle.text_rules.specs.BytePlaces.{HasByte, LacksByte}
use Rattle.rdf_terms.specs.TripleReads.{SkipsBlanks, PassesBlanks, PassesMark, MissesMark, NeedsIri, TakesIri, IsIri, IsBody, StopsWithin, IsObject, StopsObject, ReadsEnd}
use Rattle.rdf_terms.proofs.Stops.{leads_on, stops_here, stops_at_end, stops_later, byte_is, byte_here}

-- a blank more was passed
pub blank_passed : (text : List ℕ) (begin i byte : ℕ) → ((state : State) → SkipsBlanks state → Leads text begin state i state) → HasByte text i byte → is_blank byte ≡ true
    → (state : State) → SkipsBlanks state → Leads text begin state (i + 1) state
blank_passed text begin i byte leads here blank state skips = leads state skips ∙ leads_on text i byte state state here (skips byte blank)

-- the text may be cut behind a byte of ASCII
pub boundary_behind_byte : (text : List ℕ) (place byte : ℕ) → IsUtf8 text → byte < 128 → HasByte text place byte → IsCharBoundary text (place + 1)
boundary_behind_byte text place byte utf8 small here = IsCharBoundary-after_ascii text place utf8 here.within (subst (λ (b : ℕ). b < 128) (sym (byte_is text place byte here)) small)

-- the text may be cut behind a mark
pub boundary_behind_mark : (text : List ℕ) (place mark next : ℕ) → IsUtf8 text → mark < 128 → PassesMark text place mark next → IsCharBoundary text next
boundary_behind_mark text place mark next utf8 small passed =
    subst (λ (n : ℕ). IsCharBoundary text n) (sym passed.next_is) (boundary_behind_byte text place mark utf8 small passed.here)

-- `<` before a term
step_less : (slot : Slot) → TakesIri slot → step (Before slot) 60 ≡ Some (Within slot SchemeStart Between [])
unfolding step
step_less Alone h = refl
step_less Subject h = refl
step_less (Predicate s) h = refl
step_less (Object s p) h = refl
step_less (LexicalForm s p) h = absurd h
step_less (Datatype s p lexical) h = refl

-- where a mark is missing reading stops
mark_missed : (text : List ℕ) (place mark : ℕ) (fault : TripleFault) (state : State) → place ≤ length text → MissesMark text place mark fault → verdict state ≡ Stopped 0
    → ((byte : ℕ) → HasByte text place byte → byte ≢ mark → step state byte ≡ None) → StopsAt text place state fault
mark_missed text place mark fault state within missed ended refuses =
    subst (λ (f : TripleFault). StopsAt text place state f) (sym missed.fault_is) (elim missed.lacks [
      | inl past ↦ stops_at_end text place state within past ended
      | inr other ↦ stops_here text place other.0 state other.1 (refuses other.0 other.1 other.2)
    ])

pub less_missed : (text : List ℕ) (place : ℕ) (fault : TripleFault) → place ≤ length text → MissesMark text place 60 fault → (slot : Slot) → TakesIri slot → NeedsIri slot text place → StopsAt text place (Before slot) fault
unfolding verdict step
less_missed text place fault within missed slot takes needs = mark_missed text place 60 fault (Before slot) within missed refl needs

-- an IRI behind its `<`
pub iri_ends : {X : Type 0} (text : List ℕ) (place begun : ℕ) (value : X → List ℕ) (next : X → ℕ) (result : Result X TripleFault) → PassesMark text place 60 begun
    → MatchResult result (λ read. IsBody text begun SchemeStart [] (value read) (next read)) (StopsWithin text begun SchemeStart [])
    → MatchResult result (λ read. IsIri text place (value read) (next read)) (λ fault. (slot : Slot) → TakesIri slot → NeedsIri slot text place → StopsAt text place (Before slot) fault)
iri_ends text place begun value next (Ok read) passed body =
    let on : begun < next read = body.forward in
    let one : begun ≡ place + 1 = passed.next_is in
    record {
      within = body.within;
      forward = omega arith;
      leads = λ slot takes. subst (λ (n : ℕ). Leads text place (Before slot) n (Within slot SchemeStart Between [])) (sym passed.next_is) (leads_on text place 60 (Before slot) (Within slot SchemeStart Between []) passed.here (step_less slot takes))
          ∙ body.leads slot;
    }
iri_ends text place begun value next (Err fault) passed stops = λ slot takes needs.
    stops_later text place (Before slot) begun (Within slot SchemeStart Between []) fault
    (subst (λ (n : ℕ). Leads text place (Before slot) n (Within slot SchemeStart Between [])) (sym passed.next_is) (leads_on text place 60 (Before slot) (Within slot SchemeStart Between []) passed.here (step_less slot takes)))
    (stops slot)

-- a result that is read later is read from here
pub object_ends : {X : Type 0} (text : List ℕ) (begin place : ℕ) (from other : List ℕ → List ℕ → State) (object : X → Term) (next : X → ℕ) (result : Result X TripleFault)
    → ((s p : List ℕ) → Leads text begin (from s p) place (other s p)) → MatchResult result (λ read. IsObject text place other (object read) (next read)) (StopsObject text place other)
    → MatchResult result (λ read. IsObject text begin from (object read) (next read)) (StopsObject text begin from)
object_ends text begin place from other object next (Ok read) leads found = record { within = found.within; leads = λ s p. leads s p ∙ found.leads s p }
object_ends text begin place from other object next (Err fault) leads stops = λ s p. stops_later text begin (from s p) place (other s p) fault (leads s p) (stops s p)

-- `@` and `^` behind the quotes
pub at_leads : (text : List ℕ) (place : ℕ) (lexical s p : List ℕ) → HasByte text place 64 → Leads text place (Quoted s p lexical) (place + 1) (Tag s p lexical false false [])
unfolding step
at_leads text place lexical s p here = leads_on text place 64 (Quoted s p lexical) (Tag s p lexical false false []) here refl

pub hat_leads : (text : List ℕ) (place : ℕ) (lexical s p : List ℕ) → HasByte text place 94 → Leads text place (Quoted s p lexical) (place + 1) (Hat s p lexical)
unfolding step
hat_leads text place lexical s p here = leads_on text place 94 (Quoted s p lexical) (Hat s p lexical) here refl

-- another byte, or the end, behind the quotes
step_quoted : (lexical s p : List ℕ) (byte : ℕ) → byte ≢ 64 → byte ≢ 94 → step (Quoted s p lexical) byte ≡ step (Closed s p (terms.Literal (Typed lexical xsd_string))) byte
unfolding step
step_quoted lexical s p byte no_at no_hat = rw (ne_eqb byte 64 no_at, ne_eqb byte 94 no_hat) refl

quoted_leads : (text : List ℕ) (place byte : ℕ) (lexical : List ℕ) → HasByte text place byte → byte ≢ 64 → byte ≢ 94
    → IsObject text place (λ s p. Quoted s p lexical) (terms.Literal (Typed lexical xsd_string)) place
unfolding run
quoted_leads text place byte lexical here no_at no_hat =
    let inside : place < length text = here.within in
    record {
      within = omega arith;
      leads = λ s p. ap (λ l. run l (Quoted s p lexical)) here.here
          ∙ ap (resume (run (drop (place + 1) text)) (suc (length (drop (place + 1) text)))) (step_quoted lexical s p byte no_at no_hat)
          ∙ sym (ap (λ l. run l (Closed s p (terms.Literal (Typed lexical xsd_string)))) here.here);
    }

quoted_end : (text : List ℕ) (place : ℕ) (lexical : List ℕ) → place ≤ length text → length text ≤ place → IsObject text place (λ s p. Quoted s p lexical) (terms.Literal (Typed lexical xsd_string)) place
unfolding run verdict
quoted_end text place lexical within past = record { within = within; leads = λ s p. rw (drop_all place text past) refl }

-- a byte that isn't there is no byte that is there
pub lacks_byte : (text : List ℕ) (place mark : ℕ) → LacksByte text place mark → (byte : ℕ) → HasByte text place byte → byte ≢ mark
lacks_byte text place mark (inl past) byte here e = let inside : place < length text = here.within in absurd (omega arith)
lacks_byte text place mark (inr other) byte here e = other.2 (sym (byte_is text place other.0 other.1) ∙ byte_is text place byte here ∙ e)

-- neither `@` nor `^` behind the quotes
pub quoted_other : (text : List ℕ) (place : ℕ) (lexical : List ℕ) → place ≤ length text → LacksByte text place 64 → LacksByte text place 94
    → IsObject text place (λ s p. Quoted s p lexical) (terms.Literal (Typed lexical xsd_string)) place
quoted_other text place lexical within no_at no_hat = elim (cases_lt place (length text)) [
  | inl inside ↦ let here = byte_here text place inside in
      quoted_leads text place (get_or text place 0) lexical here (lacks_byte text place 64 no_at (get_or text place 0) here) (lacks_byte text place 94 no_hat (get_or text place 0) here)
  | inr past ↦ quoted_end text place lexical within past
]

-- the second `^`
pub second_hat : (text : List ℕ) (place next : ℕ) (lexical s p : List ℕ) → PassesMark text place 94 next → Leads text place (Hat s p lexical) next (Before (Datatype s p lexical))
unfolding step
second_hat text place next lexical s p passed =
    subst (λ (n : ℕ). Leads text place (Hat s p lexical) n (Before (Datatype s p lexical))) (sym passed.next_is) (leads_on text place 94 (Hat s p lexical) (Before (Datatype s p lexical)) passed.here refl)

pub second_hat_missed : (text : List ℕ) (place : ℕ) (fault : TripleFault) (lexical : List ℕ) → place ≤ length text → MissesMark text place 94 fault → StopsObject text place (λ s p. Hat s p lexical) fault
unfolding step verdict
second_hat_missed text place fault lexical within missed s p = mark_missed text place 94 fault (Hat s p lexical) within missed refl (λ byte here other. rw (ne_eqb byte 94 other) refl)

-- before a datatype only `<` may stand
pub datatype_needs : (text : List ℕ) (place : ℕ) (s p lexical : List ℕ) → NeedsIri (Datatype s p lexical) text place
datatype_needs text place s p lexical byte here other = rw (ne_eqb byte 60 other) refl

pub datatype_stops : (text : List ℕ) (place begun : ℕ) (fault : TripleFault) (lexical : List ℕ) → PassesMark text place 94 begun
    → ((slot : Slot) → TakesIri slot → NeedsIri slot text begun → StopsAt text begun (Before slot) fault) → StopsObject text place (λ s p. Hat s p lexical) fault
datatype_stops text place begun fault lexical passed stops s p =
    stops_later text place (Hat s p lexical) begun (Before (Datatype s p lexical)) fault (second_hat text place begun lexical s p passed) (stops (Datatype s p lexical) tt (datatype_needs text begun s p lexical))

-- a datatype that literals may have
pub datatype_leads : (text : List ℕ) (place begun : ℕ) (datatype : List ℕ) (next : ℕ) (lexical : List ℕ) → PassesMark text place 94 begun → IsIri text begun datatype next → is_same datatype rdf_lang_string ≡ false
    → IsObject text place (λ s p. Hat s p lexical) (terms.Literal (Typed lexical datatype)) next
datatype_leads text place begun datatype next lexical passed found other = record {
  within = found.within;
  leads = λ s p. second_hat text place begun lexical s p passed ∙ found.leads (Datatype s p lexical) tt ∙ ap (λ (b : Bool). run_from (cond b None (Some (Closed s p (terms.Literal (Typed lexical datatype))))) (drop next text)) other;
}

-- rdf:langString, which is refused at its `>`
pub lang_string_stops : (text : List ℕ) (place begun : ℕ) (datatype : List ℕ) (next : ℕ) (lexical : List ℕ) → PassesMark text place 94 begun → IsIri text begun datatype next → is_same datatype rdf_lang_string ≡ true
    → StopsObject text place (λ s p. Hat s p lexical) (NotTriple (next - 1))
lang_string_stops text place begun datatype next lexical passed found same s p =
    let within : next ≤ length text = found.within in
    let some : begun < next = found.forward in
    let left : suc (length (drop next text)) ≡ length text - (next - 1) = omega (arith, length-drop next text) in (
      omega arith,
      second_hat text place begun lexical s p passed ∙ found.leads (Datatype s p lexical) tt
          ∙ ap (λ (b : Bool). run_from (cond b None (Some (Closed s p (terms.Literal (Typed lexical datatype))))) (drop next text)) same ∙ ap Stopped left,
    )

-- a literal's first quote before an object
pub quote_leads : (text : List ℕ) (place : ℕ) (s p : List ℕ) → HasByte text place 34 → Leads text place (Before (Object s p)) (place + 1) (Within (LexicalForm s p) Lexical Between [])
unfolding step
quote_leads text place s p here = leads_on text place 34 (Before (Object s p)) (Within (LexicalForm s p) Lexical Between []) here refl

-- before an object that is no literal only `<` may stand
pub object_needs : (text : List ℕ) (place : ℕ) (s p : List ℕ) → ((byte : ℕ) → HasByte text place byte → is_blank byte ≡ false) → LacksByte text place 34 → NeedsIri (Object s p) text place
object_needs text place s p unblank unquoted byte here other = rw (unblank byte here, ne_eqb byte 60 other, ne_eqb byte 34 (lacks_byte text place 34 unquoted byte here)) refl

-- before a subject and a predicate, behind the blanks, only `<` may stand
pub subject_needs : (text : List ℕ) (place : ℕ) → ((byte : ℕ) → HasByte text place byte → is_blank byte ≡ false) → NeedsIri Subject text place
subject_needs text place unblank byte here other = rw (unblank byte here, ne_eqb byte 60 other) refl

pub predicate_needs : (text : List ℕ) (place : ℕ) (s : List ℕ) → ((byte : ℕ) → HasByte text place byte → is_blank byte ≡ false) → NeedsIri (Predicate s) text place
predicate_needs text place s unblank byte here other = rw (unblank byte here, ne_eqb byte 60 other) refl

-- blanks before the terms, before the dot and behind it
pub subject_skips : SkipsBlanks (Before Subject)
unfolding step
subject_skips byte blank = rw blank refl

pub predicate_skips : (s : List ℕ) → SkipsBlanks (Before (Predicate s))
unfolding step
predicate_skips s byte blank = rw blank refl

pub object_skips : (s p : List ℕ) → SkipsBlanks (Before (Object s p))
unfolding step
object_skips s p byte blank = rw blank refl

pub closed_skips : (s p : List ℕ) (o : Term) → SkipsBlanks (Closed s p o)
unfolding step
closed_skips s p o byte blank = rw blank refl

pub ended_skips : (s p : List ℕ) (o : Term) → SkipsBlanks (Ended s p o)
unfolding step
ended_skips s p o byte blank = rw blank refl

-- a dot behind an object
dot_leads : (text : List ℕ) (place next : ℕ) (s p : List ℕ) (o : Term) → PassesMark text place 46 next → Leads text place (Closed s p o) next (Ended s p o)
unfolding step
dot_leads text place next s p o passed =
    subst (λ (n : ℕ). Leads text place (Closed s p o) n (Ended s p o)) (sym passed.next_is) (leads_on text place 46 (Closed s p o) (Ended s p o) passed.here refl)

step_no_dot : (s p : List ℕ) (o : Term) (byte : ℕ) → is_blank byte ≡ false → byte ≢ 46 → step (Closed s p o) byte ≡ None
unfolding step
step_no_dot s p o byte unblank other = rw (unblank, ne_eqb byte 46 other) refl

verdict_closed : (s p : List ℕ) (o : Term) → verdict (Closed s p o) ≡ Stopped 0
unfolding verdict
verdict_closed s p o = refl

-- no dot behind an object and blanks
pub dot_missed : (text : List ℕ) (begin place : ℕ) (fault : TripleFault) → PassesBlanks text begin place → MissesMark text place 46 fault → (s p : List ℕ) (o : Term) → StopsAt text begin (Closed s p o) fault
dot_missed text begin place fault blanks missed s p o =
    stops_later text begin (Closed s p o) place (Closed s p o) fault (blanks.leads (Closed s p o) (closed_skips s p o))
    (mark_missed text place 46 fault (Closed s p o) blanks.within missed (verdict_closed s p o) (λ byte here other. step_no_dot s p o byte (blanks.stops byte here) other))

-- from an object to the blanks behind the dot
ended : (text : List ℕ) (begin dot behind place : ℕ) (s p : List ℕ) (o : Term) → PassesBlanks text begin dot → PassesMark text dot 46 behind → PassesBlanks text behind place → Leads text begin (Closed s p o) place (Ended s p o)
ended text begin dot behind place s p o before passed after =
    before.leads (Closed s p o) (closed_skips s p o) ∙ dot_leads text dot behind s p o passed ∙ after.leads (Ended s p o) (ended_skips s p o)

step_ended : (s p : List ℕ) (o : Term) (byte : ℕ) → is_blank byte ≡ false → step (Ended s p o) byte ≡ None
unfolding step
step_ended s p o byte unblank = rw unblank refl

-- another byte behind the dot
pub more_behind : (text : List ℕ) (begin dot behind place : ℕ) → PassesBlanks text begin dot → PassesMark text dot 46 behind → PassesBlanks text behind place → place < length text
    → (s p : List ℕ) (o : Term) → StopsAt text begin (Closed s p o) (NotTriple place)
more_behind text begin dot behind place before passed after more s p o =
    let here = byte_here text place more in
    stops_later text begin (Closed s p o) place (Ended s p o) (NotTriple place) (ended text begin dot behind place s p o before passed after)
    (stops_here text place (get_or text place 0) (Ended s p o) here (step_ended s p o (get_or text place 0) (after.stops (get_or text place 0) here)))

-- the end of a triple
pub end_read : (text : List ℕ) (begin dot behind place : ℕ) → PassesBlanks text begin dot → PassesMark text dot 46 behind → PassesBlanks text behind place → length text ≤ place → ReadsEnd text begin
unfolding run verdict
end_read text begin dot behind place before passed after past s p o =
    ended text begin dot behind place s p o before passed after ∙ ap (λ l. run l (Ended s p o)) (drop_all place text past)
