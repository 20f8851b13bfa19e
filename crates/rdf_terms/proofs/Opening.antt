-- The states of reading that a text leads to.
use Rattle.std.proofs.Common.{◌≡◌, ℕ, zero, suc, ◌+◌, ◌*◌, List, [], ◌∷◌, ◌++◌, Bool, true, false, ◌&&◌, ◌||◌, Option, Some, None, subst, encode_utf8, cond, eqb}
use Rattle.std.specs.Char.{digit_value}
use Rattle.std.specs.Str.{str_to_ascii_lowercase}
use lib.Utf8.{scalar}
use Rattle.std.proofs.lemmas.Bool.{cond_both}
use Rattle.text_rules.specs.Iri.{is_letter, is_digit}
use Rattle.text_rules.specs.declared.spots.Spot.{Spot}
use Rattle.text_rules.specs.declared.spots.Spot.TheVariants.{SchemeStart, Scheme, IriRest, Lexical}
use Rattle.rdf_terms.specs.declared.terms.Term.{Term}
use Rattle.rdf_terms.specs.declared.terms.Term.TheVariants as terms
use Rattle.rdf_terms.specs.Escapes.{is_hexadecimal, is_escape_letter, letter_value}
use Rattle.rdf_terms.specs.Grammar.{is_blank}
use Rattle.rdf_terms.specs.Literal.{Typed, Tagged, xsd_string, rdf_lang_string, is_same}
use Rattle.rdf_terms.specs.TripleReading.{State, Before, Within, Quoted, Hat, Tag, Closed, Ended, Single, Slot, Alone, Subject, Predicate, Object, LexicalForm, Datatype, Part, Between, Behind, Digits, spot_behind, after_plain, closes, may_begin, closed, within, with_digit, with_letter, step_within, step_before, step_closed, step_tag, step}
use Rattle.rdf_terms.proofs.Progress.{short_begins, long_begins}

-- ---- the states that are reached

-- an escape that was begun may become a character
abbrev pub IsOpenPart : Spot → Part → Type 0
IsOpenPart spot Between = Unit {0}
IsOpenPart spot Behind = Unit {0}
IsOpenPart spot (Digits zero code) = ⊥
IsOpenPart spot (Digits (suc digits) code) = may_begin spot (suc digits) code ≡ true

-- a term of this kind is looked for
abbrev pub IsOpenSlot : Slot → Type 0
IsOpenSlot Alone = Unit {0}
IsOpenSlot Subject = Unit {0}
IsOpenSlot (Predicate s) = Unit {0}
IsOpenSlot (Object s p) = Unit {0}
IsOpenSlot (LexicalForm s p) = ⊥
IsOpenSlot (Datatype s p lexical) = Unit {0}

-- what was read can go on
abbrev pub IsOpen : State → Type 0
IsOpen (Before slot) = IsOpenSlot slot
IsOpen (Within slot spot part value) = IsOpenPart spot part
IsOpen (Quoted s p lexical) = Unit {0}
IsOpen (Hat s p lexical) = Unit {0}
IsOpen (Tag s p lexical dashed full tag) = Unit {0}
IsOpen (Closed s p o) = Unit {0}
IsOpen (Ended s p o) = Unit {0}
IsOpen (Single iri) = Unit {0}

-- ---- a byte more keeps what was read open

-- the state, if there is one, is open
abbrev IsOpenIf : Option State → Type 0
IsOpenIf None = Unit {0}
IsOpenIf (Some state) = IsOpen state

-- whichever way a test goes
either : (b : Bool) (x y : Option State) → IsOpenIf x → IsOpenIf y → IsOpenIf (cond b x y)
either true x y h g = h
either false x y h g = g

open_closed : (slot : Slot) (value : List ℕ) → IsOpenIf (closed slot value)
open_closed Alone value = tt
open_closed Subject value = tt
open_closed (Predicate s) value = tt
open_closed (Object s p) value = tt
open_closed (LexicalForm s p) value = tt
open_closed (Datatype s p lexical) value = either (is_same value rdf_lang_string) None (Some (Closed s p (terms.Literal (Typed lexical value)))) tt tt

open_within : (slot : Slot) (value : List ℕ) (o : Option Spot) → IsOpenIf (within slot value o)
open_within slot value None = tt
open_within slot value (Some spot) = tt

open_digit : (slot : Slot) (spot : Spot) (value : List ℕ) (digits code : ℕ) → IsOpenIf (with_digit slot spot value digits code)
open_digit slot spot value zero code = either (scalar code) (within slot (value ++ encode_utf8 code) (spot_behind spot code)) None (open_within slot (value ++ encode_utf8 code) (spot_behind spot code)) tt
open_digit slot spot value (suc digits) code =
    cond_both (may_begin spot (suc digits) code) (Some (Within slot spot (Digits (suc digits) code) value)) None IsOpenIf (λ h. h) (λ h. tt)

open_letter : (slot : Slot) (spot : Spot) (value : List ℕ) (letter : ℕ) → IsOpenIf (with_letter slot spot value letter)
open_letter slot SchemeStart value letter = tt
open_letter slot Scheme value letter = tt
open_letter slot IriRest value letter = tt
open_letter slot Lexical value letter = either (is_escape_letter letter) (Some (Within slot Lexical Between (value ++ letter_value letter ∷ []))) None tt tt

open_part : (slot : Slot) (spot : Spot) (part : Part) (value : List ℕ) (byte : ℕ) → IsOpenIf (step_within slot spot part value byte)
open_part slot spot Between value byte =
    let plain : Option State = within slot (value ++ byte ∷ []) (after_plain spot byte) in
    either (eqb byte 92) (Some (Within slot spot Behind value)) (cond (closes spot byte) (closed slot value) plain) tt
    (either (closes spot byte) (closed slot value) plain (open_closed slot value) (open_within slot (value ++ byte ∷ []) (after_plain spot byte)))
open_part slot spot Behind value byte =
    let long : Option State = Some (Within slot spot (Digits 8 0) value) in
    let letter : Option State = with_letter slot spot value byte in
    either (eqb byte 117) (Some (Within slot spot (Digits 4 0) value)) (cond (eqb byte 85) long letter) (short_begins spot)
    (either (eqb byte 85) long letter (long_begins spot) (open_letter slot spot value byte))
open_part slot spot (Digits zero code) value byte = tt
open_part slot spot (Digits (suc digits) code) value byte =
    let next : ℕ = 16 * code + digit_value byte in
    either (is_hexadecimal byte) (with_digit slot spot value digits next) None (open_digit slot spot value digits next) tt

-- a term's opening mark
open_mark : (slot : Slot) (byte : ℕ) → IsOpenIf (cond (eqb byte 60) (Some (Within slot SchemeStart Between [])) None)
open_mark slot byte = either (eqb byte 60) (Some (Within slot SchemeStart Between [])) None tt tt

open_before : (slot : Slot) (byte : ℕ) → IsOpenIf (step_before slot byte)
open_before Alone byte = open_mark Alone byte
open_before Subject byte = either (is_blank byte) (Some (Before Subject)) _ tt (open_mark Subject byte)
open_before (Predicate s) byte = either (is_blank byte) (Some (Before (Predicate s))) _ tt (open_mark (Predicate s) byte)
open_before (Object s p) byte =
    let lexical : Option State = cond (eqb byte 34) (Some (Within (LexicalForm s p) Lexical Between [])) None in
    let iri : Option State = Some (Within (Object s p) SchemeStart Between []) in
    either (is_blank byte) (Some (Before (Object s p))) (cond (eqb byte 60) iri lexical) tt
    (either (eqb byte 60) iri lexical tt (either (eqb byte 34) (Some (Within (LexicalForm s p) Lexical Between [])) None tt tt))
open_before (LexicalForm s p) byte = tt
open_before (Datatype s p lexical) byte = open_mark (Datatype s p lexical) byte

open_behind : (s p : List ℕ) (o : Term) (byte : ℕ) → IsOpenIf (step_closed s p o byte)
open_behind s p o byte =
    let dot : Option State = cond (eqb byte 46) (Some (Ended s p o)) None in
    either (is_blank byte) (Some (Closed s p o)) dot tt (either (eqb byte 46) (Some (Ended s p o)) None tt tt)

open_tag : (s p lexical : List ℕ) (dashed full : Bool) (tag : List ℕ) (byte : ℕ) → IsOpenIf (step_tag s p lexical dashed full tag byte)
open_tag s p lexical dashed full tag byte =
    let more : Option State = Some (Tag s p lexical true false (tag ++ byte ∷ [])) in
    let letter : Option State = Some (Tag s p lexical dashed true (tag ++ byte ∷ [])) in
    let end : Option State = step_closed s p (terms.Literal (Tagged lexical (str_to_ascii_lowercase tag))) byte in
    let may_end : Option State = cond full end None in
    let is_tag_letter : Bool = is_letter byte || (dashed && is_digit byte) in
    either (eqb byte 45) (cond full more None) (cond is_tag_letter letter may_end) (either full more None tt tt)
    (either is_tag_letter letter may_end tt (either full end None (open_behind s p (terms.Literal (Tagged lexical (str_to_ascii_lowercase tag))) byte) tt))

open_quoted : (s p lexical : List ℕ) (byte : ℕ) → IsOpenIf (step (Quoted s p lexical) byte)
unfolding step
open_quoted s p lexical byte =
    let end : Option State = step_closed s p (terms.Literal (Typed lexical xsd_string)) byte in
    let hat : Option State = cond (eqb byte 94) (Some (Hat s p lexical)) end in
    either (eqb byte 64) (Some (Tag s p lexical false false [])) hat tt
    (either (eqb byte 94) (Some (Hat s p lexical)) end tt (open_behind s p (terms.Literal (Typed lexical xsd_string)) byte))

-- what a byte makes of a state is open
open_if : (state : State) (byte : ℕ) → IsOpenIf (step state byte)
unfolding step
open_if (Before slot) byte = open_before slot byte
open_if (Within slot spot part value) byte = open_part slot spot part value byte
open_if (Quoted s p lexical) byte = open_quoted s p lexical byte
open_if (Hat s p lexical) byte = either (eqb byte 94) (Some (Before (Datatype s p lexical))) None tt tt
open_if (Tag s p lexical dashed full tag) byte = open_tag s p lexical dashed full tag byte
open_if (Closed s p o) byte = open_behind s p o byte
open_if (Ended s p o) byte = either (is_blank byte) (Some (Ended s p o)) None tt tt
open_if (Single iri) byte = tt

-- a state that a byte leads to is open
pub open_step : (state next : State) (byte : ℕ) → step state byte ≡ Some next → IsOpen next
open_step state next byte e = subst IsOpenIf e (open_if state byte)
