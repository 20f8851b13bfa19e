-- What was read goes on to a whole triple's text.
use Rattle.std.proofs.Common.{◌≡◌, ℕ, zero, suc, ◌+◌, ◌*◌, List, [], ◌∷◌, ◌++◌, ◌⊎◌, length, Bool, true, false, Some, refl, sym, ap, ◌∙◌, inl, inr, arith, length-append, encode_utf8}
use Rattle.std.specs.Char.{digit_value}
use Rattle.std.proofs.lemmas.Bool.{cases_Bool, false_from_ne_true}
use Rattle.std.proofs.lemmas.Slice.Eq.{bytes_eq-Decides}
use Rattle.text_rules.specs.declared.spots.Spot.{Spot}
use Rattle.text_rules.specs.declared.spots.Spot.TheVariants.{SchemeStart, Scheme, IriRest, Lexical}
use Rattle.rdf_terms.specs.declared.terms.Term.{Term}
use Rattle.rdf_terms.specs.declared.terms.Term.TheVariants as terms
use Rattle.rdf_terms.specs.declared.terms.Triple.{Triple}
use Rattle.rdf_terms.specs.Literal.{Typed, rdf_lang_string, is_same}
use Rattle.rdf_terms.specs.TripleReading.{State, Before, Within, Quoted, Hat, Tag, Closed, Ended, Single, Slot, Alone, Subject, Predicate, Object, LexicalForm, Datatype, Part, Between, Behind, Digits, Spelled, thrice, may_begin, closed, step, run, verdict}
use Rattle.rdf_terms.proofs.Steps.{run_step}
use Rattle.rdf_terms.proofs.Opening.{IsOpen, IsOpenPart, IsOpenSlot}
use Rattle.rdf_terms.proofs.Progress.{NextDigit, LastDigit, next_digit, last_digit, short_begins}

-- some bytes more make a triple of it
abbrev pub IsLive : State → Type 0
IsLive state = (rest : List ℕ) × (t : Triple) × (run rest state ≡ Spelled t)

-- a byte that leads to such a state
live_by : (state next : State) (byte : ℕ) → step state byte ≡ Some next → IsLive next → IsLive state
live_by state next byte e l = (byte ∷ l.0, l.1, run_step state next byte l.0 e ∙ l.2)

live_ended : (s p : List ℕ) (o : Term) → IsLive (Ended s p o)
unfolding run verdict
live_ended s p o = ([], record { s = s; p = p; o = o }, refl)

live_single : (iri : List ℕ) → IsLive (Single iri)
unfolding run verdict
live_single iri = ([], thrice iri, refl)

live_closed : (s p : List ℕ) (o : Term) → IsLive (Closed s p o)
unfolding step
live_closed s p o = live_by (Closed s p o) (Ended s p o) 46 refl (live_ended s p o)

live_quoted : (s p lexical : List ℕ) → IsLive (Quoted s p lexical)
unfolding step
live_quoted s p lexical = live_by (Quoted s p lexical) _ 46 refl (live_ended s p _)

live_full : (s p lexical : List ℕ) (dashed : Bool) (tag : List ℕ) → IsLive (Tag s p lexical dashed true tag)
unfolding step
live_full s p lexical true tag = live_by (Tag s p lexical true true tag) _ 46 refl (live_ended s p _)
live_full s p lexical false tag = live_by (Tag s p lexical false true tag) _ 46 refl (live_ended s p _)

live_tag : (s p lexical : List ℕ) (dashed full : Bool) (tag : List ℕ) → IsLive (Tag s p lexical dashed full tag)
unfolding step
live_tag s p lexical dashed true tag = live_full s p lexical dashed tag
live_tag s p lexical dashed false tag = live_by (Tag s p lexical dashed false tag) (Tag s p lexical dashed true (tag ++ 97 ∷ [])) 97 refl (live_full s p lexical dashed (tag ++ 97 ∷ []))

-- within a term each state between characters goes on
abbrev AreLive : Slot → Type 0
AreLive slot = (spot : Spot) (value : List ℕ) → IsLive (Within slot spot Between value)

-- a term whose closing mark is allowed, or is behind one letter more
abbrev Closes : Slot → List ℕ → Type 0
Closes slot value = (next : State) × (closed slot value ≡ Some next) × IsLive next

close_iri : (slot : Slot) (value : List ℕ) → Closes slot value → IsLive (Within slot IriRest Between value)
unfolding step
close_iri slot value c = live_by (Within slot IriRest Between value) c.0 62 c.1 c.2

close_lexical : (slot : Slot) (value : List ℕ) → Closes slot value → IsLive (Within slot Lexical Between value)
unfolding step
close_lexical slot value c = live_by (Within slot Lexical Between value) c.0 34 c.1 c.2

letter_iri : (slot : Slot) (value : List ℕ) → Closes slot (value ++ 97 ∷ []) → IsLive (Within slot IriRest Between value)
unfolding step
letter_iri slot value c = live_by (Within slot IriRest Between value) (Within slot IriRest Between (value ++ 97 ∷ [])) 97 refl (close_iri slot (value ++ 97 ∷ []) c)

letter_lexical : (slot : Slot) (value : List ℕ) → Closes slot (value ++ 97 ∷ []) → IsLive (Within slot Lexical Between value)
unfolding step
letter_lexical slot value c = live_by (Within slot Lexical Between value) (Within slot Lexical Between (value ++ 97 ∷ [])) 97 refl (close_lexical slot (value ++ 97 ∷ []) c)

-- a term closes at once or behind one letter more
abbrev ClosesSoon : Slot → Type 0
ClosesSoon slot = (value : List ℕ) → Closes slot value ⊎ Closes slot (value ++ 97 ∷ [])

live_rest : (slot : Slot) (value : List ℕ) → ClosesSoon slot → IsLive (Within slot IriRest Between value)
live_rest slot value c = elim (c value) [ inl k ↦ close_iri slot value k | inr k ↦ letter_iri slot value k ]

live_scheme : (slot : Slot) (value : List ℕ) → ClosesSoon slot → IsLive (Within slot Scheme Between value)
unfolding step
live_scheme slot value c =
    live_by (Within slot Scheme Between value) (Within slot IriRest Between (value ++ 58 ∷ [])) 58 refl (live_rest slot (value ++ 58 ∷ []) c)

live_between : (slot : Slot) → ClosesSoon slot → AreLive slot
unfolding step
live_between slot c SchemeStart value =
    live_by (Within slot SchemeStart Between value) (Within slot Scheme Between (value ++ 97 ∷ [])) 97 refl (live_scheme slot (value ++ 97 ∷ []) c)
live_between slot c Scheme value = live_scheme slot value c
live_between slot c IriRest value = live_rest slot value c
live_between slot c Lexical value = elim (c value) [ inl k ↦ close_lexical slot value k | inr k ↦ letter_lexical slot value k ]

-- ---- slot by slot, the last first

alone_live : AreLive Alone
alone_live = live_between Alone (λ value. inl (Single value, refl, live_single value))

object_live : (s p : List ℕ) → AreLive (Object s p)
object_live s p = live_between (Object s p) (λ value. inl (Closed s p (terms.Iri value), refl, live_closed s p (terms.Iri value)))

before_object : (s p : List ℕ) → IsLive (Before (Object s p))
unfolding step
before_object s p = live_by (Before (Object s p)) (Within (Object s p) SchemeStart Between []) 60 refl (object_live s p SchemeStart [])

predicate_live : (s : List ℕ) → AreLive (Predicate s)
predicate_live s = live_between (Predicate s) (λ value. inl (Before (Object s value), refl, before_object s value))

before_predicate : (s : List ℕ) → IsLive (Before (Predicate s))
unfolding step
before_predicate s = live_by (Before (Predicate s)) (Within (Predicate s) SchemeStart Between []) 60 refl (predicate_live s SchemeStart [])

subject_live : AreLive Subject
subject_live = live_between Subject (λ value. inl (Before (Predicate value), refl, before_predicate value))

lexical_live : (s p : List ℕ) → AreLive (LexicalForm s p)
lexical_live s p = live_between (LexicalForm s p) (λ value. inl (Quoted s p value, refl, live_quoted s p value))

-- a datatype other than rdf:langString closes
other_closes : (s p lexical value : List ℕ) → is_same value rdf_lang_string ≡ false → Closes (Datatype s p lexical) value
other_closes s p lexical value h =
    let o : Term = terms.Literal (Typed lexical value) in
    (Closed s p o, rw h refl, live_closed s p o)

-- and with one letter more rdf:langString is another
longer_other : (value : List ℕ) → is_same value rdf_lang_string ≡ true → is_same (value ++ 97 ∷ []) rdf_lang_string ≡ false
longer_other value h = false_from_ne_true (is_same (value ++ 97 ∷ []) rdf_lang_string) (λ k.
    let e : value ≡ rdf_lang_string = (bytes_eq-Decides value rdf_lang_string).0 h in
    let f : value ++ 97 ∷ [] ≡ rdf_lang_string = (bytes_eq-Decides (value ++ 97 ∷ []) rdf_lang_string).0 k in
    let g : length (value ++ 97 ∷ []) ≡ length value = ap length (f ∙ sym e) in
    omega (arith, length-append value (97 ∷ [])))

datatype_live : (s p lexical : List ℕ) → AreLive (Datatype s p lexical)
datatype_live s p lexical = live_between (Datatype s p lexical) (λ value.
    elim (cases_Bool (is_same value rdf_lang_string)) [
      | inl h ↦ inr (other_closes s p lexical (value ++ 97 ∷ []) (longer_other value h))
      | inr h ↦ inl (other_closes s p lexical value h)
    ])

before_datatype : (s p lexical : List ℕ) → IsLive (Before (Datatype s p lexical))
unfolding step
before_datatype s p lexical =
    live_by (Before (Datatype s p lexical)) (Within (Datatype s p lexical) SchemeStart Between []) 60 refl (datatype_live s p lexical SchemeStart [])

live_hat : (s p lexical : List ℕ) → IsLive (Hat s p lexical)
unfolding step
live_hat s p lexical = live_by (Hat s p lexical) (Before (Datatype s p lexical)) 94 refl (before_datatype s p lexical)

live_before : (slot : Slot) → IsOpenSlot slot → IsLive (Before slot)
unfolding step
live_before Alone h = live_by (Before Alone) (Within Alone SchemeStart Between []) 60 refl (alone_live SchemeStart [])
live_before Subject h = live_by (Before Subject) (Within Subject SchemeStart Between []) 60 refl (subject_live SchemeStart [])
live_before (Predicate s) h = before_predicate s
live_before (Object s p) h = before_object s p
live_before (LexicalForm s p) h = absurd h
live_before (Datatype s p lexical) h = before_datatype s p lexical

each_live : (slot : Slot) → AreLive slot
each_live Alone = alone_live
each_live Subject = subject_live
each_live (Predicate s) = predicate_live s
each_live (Object s p) = object_live s p
each_live (LexicalForm s p) = lexical_live s p
each_live (Datatype s p lexical) = datatype_live s p lexical

-- ---- within escapes

-- a last digit leads behind its character
last_step : (slot : Slot) (spot : Spot) (code : ℕ) (value : List ℕ) (d : LastDigit spot code)
    → step (Within slot spot (Digits 1 code) value) d.digit ≡ Some (Within slot d.next Between (value ++ encode_utf8 (16 * code + digit_value d.digit)))
unfolding step
last_step slot spot code value d = rw (d.hexadecimal, d.is_scalar, d.leads) refl

-- a digit before it leads to one digit less to come
next_step : (slot : Slot) (spot : Spot) (n code : ℕ) (value : List ℕ) (d : NextDigit spot (suc n) code)
    → step (Within slot spot (Digits (suc (suc n)) code) value) d.digit ≡ Some (Within slot spot (Digits (suc n) (16 * code + digit_value d.digit)) value)
unfolding step
next_step slot spot n code value d = rw (d.hexadecimal, d.fits) refl

live_digits : (n : ℕ) (slot : Slot) (spot : Spot) (code : ℕ) (value : List ℕ) → may_begin spot (suc n) code ≡ true → IsLive (Within slot spot (Digits (suc n) code) value)
live_digits zero slot spot code value h =
    let d : LastDigit spot code = last_digit spot code h in
    live_by (Within slot spot (Digits 1 code) value) (Within slot d.next Between (value ++ encode_utf8 (16 * code + digit_value d.digit))) d.digit
    (last_step slot spot code value d) (each_live slot d.next (value ++ encode_utf8 (16 * code + digit_value d.digit)))
live_digits (suc n) slot spot code value h =
    let d : NextDigit spot (suc n) code = next_digit spot n code h in
    live_by (Within slot spot (Digits (suc (suc n)) code) value) (Within slot spot (Digits (suc n) (16 * code + digit_value d.digit)) value) d.digit
    (next_step slot spot n code value d) (live_digits n slot spot (16 * code + digit_value d.digit) value d.fits)

live_within : (slot : Slot) (spot : Spot) (part : Part) (value : List ℕ) → IsOpenPart spot part → IsLive (Within slot spot part value)
unfolding step
live_within slot spot Between value h = each_live slot spot value
live_within slot spot Behind value h =
    live_by (Within slot spot Behind value) (Within slot spot (Digits 4 0) value) 117 refl (live_digits 3 slot spot 0 value (short_begins spot))
live_within slot spot (Digits zero code) value h = absurd h
live_within slot spot (Digits (suc n) code) value h = live_digits n slot spot code value h

-- each open state goes on to a triple
pub live : (state : State) → IsOpen state → IsLive state
live (Before slot) h = live_before slot h
live (Within slot spot part value) h = live_within slot spot part value h
live (Quoted s p lexical) h = live_quoted s p lexical
live (Hat s p lexical) h = live_hat s p lexical
live (Tag s p lexical dashed full tag) h = live_tag s p lexical dashed full tag
live (Closed s p o) h = live_closed s p o
live (Ended s p o) h = live_ended s p o
live (Single iri) h = live_single iri
