-- Steps of reading an escape.
use Rattle.std.proofs.Common.{◌≡◌, ℕ, suc, zero, ◌+◌, ◌-◌, ◌*◌, ◌^◌, ◌<◌, ◌≤◌, List, [], ◌∷◌, ◌++◌, length, ◌≢◌, Bool, true, false, ltb, Result, Ok, Err, MatchResult, Some, None, refl, sym, ap, ◌∙◌, subst, inl, inr, arith}
use Rattle.std.specs.Bool.{OnTrue}
use Rattle.std.specs.Char.{IsScalar, digit_value}
use Rattle.std.proofs.lemmas.Bool.{cases_Bool, and_parts, ne_eqb}
use Rattle.std.proofs.lemmas.Bool.Decides.{nat_tests}
use Rattle.std.proofs.lemmas.Str.{encode_ascii}
use Rattle.std.proofs.Math.Nat.{mul-le-mul_left, one-le-pow}
use Rattle.std.proofs.lemmas.Nat.{pow-add}
use lib.Utf8.{scalar, encode, scalar_cases}
use Rattle.rdf_terms.specs.declared.escapes.Escape.{Escape}
use Rattle.rdf_terms.specs.declared.faults.TripleFault.{TripleFault}
use Rattle.rdf_terms.specs.declared.faults.TripleFault.TheVariants.{NotTriple}
use Rattle.text_rules.specs.declared.spots.Spot.{Spot}
use Rattle.text_rules.specs.declared.spots.Spot.TheVariants.{SchemeStart, Scheme, IriRest, Lexical}
use Rattle.rdf_terms.specs.Escapes.{is_hexadecimal}
use Rattle.rdf_terms.specs.TripleReading.{Slot, Part, State, Within, Between, Behind, Digits, step, verdict, with_digit, with_letter, within, spot_behind, may_hold, may_begin, Leads}
use Rattle.text_rules.specs.BytePlaces.{HasByte}
use Rattle.rdf_terms.specs.TripleReads.{HasDigit, HasNoDigit, HasLetter, HasNoLetter, IsEscape, StopsBehind}
use Rattle.rdf_terms.proofs.Stops.{leads_on, stops_here, stops_at_end, stops_later, byte_is}

-- how many codes begin with the same digits, where at most seven are to come
pub width_within : (digits : ℕ) → digits < 8 → (1 ≤ 16 ^ digits) × (16 ^ digits ≤ 268435456)
width_within digits h =
    let rest = 7 - digits in
    let all : digits + rest ≡ 7 = omega arith in
    let whole : 16 ^ digits * 16 ^ rest ≡ 16 ^ 7 = sym (pow-add 16 digits rest) ∙ ap (λ n. 16 ^ n) all in
    let some : 1 ≤ 16 ^ digits = one-le-pow digits 16 (omega arith) in
    let more : 1 ≤ 16 ^ rest = one-le-pow rest 16 (omega arith) in
    let most : 16 ^ digits * 1 ≤ 16 ^ digits * 16 ^ rest = mul-le-mul_left (16 ^ digits) more in
    (some, omega arith)

scalar_small : (code : ℕ) → scalar code ≡ true → code < 1114112
scalar_small code h = elim (scalar_cases code h) [
  | inl low ↦ omega arith
  | inr high ↦ high.1
]

-- a digit is ASCII
digit_small : (byte : ℕ) → is_hexadecimal byte ≡ true → byte < 128
digit_small byte h = grind (arith, nat_tests)

-- where no digit stands the escape stops
pub no_digit_stops : (text : List ℕ) (place : ℕ) (spot : Spot) (digits code : ℕ) → place ≤ length text → HasNoDigit text place → StopsBehind text place spot (Digits (suc digits) code) (NotTriple place)
unfolding step verdict
no_digit_stops text place spot digits code within (inl past) slot value = stops_at_end text place (Within slot spot (Digits (suc digits) code) value) within past refl
no_digit_stops text place spot digits code within (inr found) slot value = stops_here text place found.0 (Within slot spot (Digits (suc digits) code) value) found.1 (rw found.2 refl)

-- what a digit makes of an escape
step_digit : (slot : Slot) (spot : Spot) (value : List ℕ) (digits code byte digit : ℕ) → is_hexadecimal byte ≡ true → digit ≡ digit_value byte → step (Within slot spot (Digits (suc digits) code) value) byte ≡ with_digit slot spot value digits (16 * code + digit)
unfolding step
step_digit slot spot value digits code byte digit h e = rw (h, e) refl

-- a digit at which the code can't be one that may stand here
pub digit_stops : (text : List ℕ) (place : ℕ) (spot : Spot) (digits code digit total : ℕ) → HasDigit text place digit → total ≡ code * 16 + digit
    → ((slot : Slot) (value : List ℕ) → with_digit slot spot value digits total ≡ None) → StopsBehind text place spot (Digits (suc digits) code) (NotTriple place)
digit_stops text place spot digits code digit total found e none slot value =
    let same : 16 * code + digit ≡ total = omega arith in
    stops_here text place found.0 (Within slot spot (Digits (suc digits) code) value) found.1
    (step_digit slot spot value digits code found.0 digit found.2 found.3 ∙ ap (with_digit slot spot value digits) same ∙ none slot value)

-- a digit behind which the code goes on
pub digit_leads : (text : List ℕ) (place : ℕ) (spot : Spot) (digits code digit total : ℕ) (next : State) (slot : Slot) (value : List ℕ) → HasDigit text place digit → total ≡ code * 16 + digit
    → with_digit slot spot value digits total ≡ Some next → Leads text place (Within slot spot (Digits (suc digits) code) value) (place + 1) next
digit_leads text place spot digits code digit total next slot value found e some =
    let same : 16 * code + digit ≡ total = omega arith in
    leads_on text place found.0 (Within slot spot (Digits (suc digits) code) value) next found.1
    (step_digit slot spot value digits code found.0 digit found.2 found.3 ∙ ap (with_digit slot spot value digits) same ∙ some)

-- the last digit, where the code is no character's
pub no_scalar : (slot : Slot) (spot : Spot) (value : List ℕ) (code : ℕ) → scalar code ≡ false → with_digit slot spot value zero code ≡ None
no_scalar slot spot value code h = rw h refl

pub scalar_refused : (slot : Slot) (spot : Spot) (value : List ℕ) (code : ℕ) → (IsScalar code → ⊥) → with_digit slot spot value zero code ≡ None
scalar_refused slot spot value code h = elim (cases_Bool (scalar code)) [
  | inl e ↦ absurd (h e)
  | inr e ↦ no_scalar slot spot value code e
]

-- the last digit, where the character may not stand here
pub spot_refused : (slot : Slot) (spot : Spot) (value : List ℕ) (code : ℕ) → spot_behind spot code ≡ None → with_digit slot spot value zero code ≡ None
spot_refused slot spot value code h = elim (cases_Bool (scalar code)) [
  | inl e ↦ rw (e, h) refl
  | inr e ↦ no_scalar slot spot value code e
]

-- the last digit
pub last_leads : (slot : Slot) (spot next : Spot) (value : List ℕ) (code : ℕ) → IsScalar code → spot_behind spot code ≡ Some next → with_digit slot spot value zero code ≡ Some (Within slot next Between (value ++ encode code))
last_leads slot spot next value code h e = rw (h, e) refl

-- an escape whose last digit was read
pub last_escape : (text : List ℕ) (place : ℕ) (spot : Spot) (code digit : ℕ) (escape : Escape) → HasDigit text place digit → escape.character ≡ code * 16 + digit → IsScalar escape.character
    → spot_behind spot escape.character ≡ Some escape.spot → escape.next ≡ place + 1 → IsEscape text place spot (Digits 1 code) escape
last_escape text place spot code digit escape found e scalar goes next =
    let within : place < length text = found.1.within in
    record {
      forward = omega arith;
      within = omega arith;
      ascii = let back : escape.next - 1 ≡ place = omega arith in rw (back, byte_is text place found.0 found.1) (digit_small found.0 found.2);
      leads = λ slot value. subst (λ n. Leads text place (Within slot spot (Digits 1 code) value) n (Within slot escape.spot Between (value ++ encode escape.character))) (sym next)
          (digit_leads text place spot zero code digit escape.character _ slot value found e (last_leads slot spot escape.spot value escape.character scalar goes));
    }

-- codes of which some may stand here begin below U+110000
low_small : (spot : Spot) (low high : ℕ) → may_hold spot low high ≡ true → low < 1114112
low_small SchemeStart low high h = grind (arith, nat_tests)
low_small Scheme low high h = grind (arith, nat_tests)
low_small IriRest low high h = scalar_small low (and_parts (scalar low) (ltb 32 high) h).0
low_small Lexical low high h = scalar_small low h

-- a code that passes is not above U+10FFFF
pub small_code : (spot : Spot) (code width low high : ℕ) → low ≡ code * width → 1 ≤ width → may_hold spot low high ≡ true → code < 1114112
small_code spot code width low high e some h =
    let below = low_small spot low high h in
    omega (arith, mul-le-mul_left code some)

-- the answer of a test, on the side where it passes
pub on_true : (b : Bool) (P : Type 0) → (b ≡ true → P) → OnTrue b P
on_true true P f = f refl
on_true false P f = tt

-- a digit before the last, where the code goes on
pub more_leads : (text : List ℕ) (place : ℕ) (spot : Spot) (digits left code digit total : ℕ) (slot : Slot) (value : List ℕ) → digits ≡ suc left → 1 ≤ left → HasDigit text place digit
    → total ≡ code * 16 + digit → may_begin spot left total ≡ true → Leads text place (Within slot spot (Digits digits code) value) (place + 1) (Within slot spot (Digits left total) value)
more_leads text place spot digits zero code digit total slot value e some found same begins = absurd (omega arith)
more_leads text place spot digits (suc more) code digit total slot value e some found same begins =
    subst (λ (n : ℕ). Leads text place (Within slot spot (Digits n code) value) (place + 1) (Within slot spot (Digits (suc more) total) value)) (sym e)
    (digit_leads text place spot (suc more) code digit total (Within slot spot (Digits (suc more) total) value) slot value found same (rw begins refl))

-- a digit before the last, where the code doesn't go on
pub more_stops : (text : List ℕ) (place : ℕ) (spot : Spot) (digits left code digit total : ℕ) → digits ≡ suc left → 1 ≤ left → HasDigit text place digit
    → total ≡ code * 16 + digit → may_begin spot left total ≡ false → StopsBehind text place spot (Digits digits code) (NotTriple place)
more_stops text place spot digits zero code digit total e some found same begins = absurd (omega arith)
more_stops text place spot digits (suc more) code digit total e some found same begins =
    subst (λ (n : ℕ). StopsBehind text place spot (Digits n code) (NotTriple place)) (sym e)
    (digit_stops text place spot (suc more) code digit total found same (λ slot value. rw begins refl))

-- no digit where some are to come
pub none_stops : (text : List ℕ) (place : ℕ) (spot : Spot) (digits left code : ℕ) → digits ≡ suc left → place ≤ length text → HasNoDigit text place → StopsBehind text place spot (Digits digits code) (NotTriple place)
none_stops text place spot digits left code e within none =
    subst (λ (n : ℕ). StopsBehind text place spot (Digits n code) (NotTriple place)) (sym e) (no_digit_stops text place spot left code within none)

-- what was read leads to where reading stops
pub stops_within : (text : List ℕ) (begin place : ℕ) (spot : Spot) (part other : Part) (fault : TripleFault)
    → ((slot : Slot) (value : List ℕ) → Leads text begin (Within slot spot part value) place (Within slot spot other value)) → StopsBehind text place spot other fault → StopsBehind text begin spot part fault
stops_within text begin place spot part other fault leads stops slot value =
    stops_later text begin (Within slot spot part value) place (Within slot spot other value) fault (leads slot value) (stops slot value)

-- what was read leads to an escape's end
pub escape_within : (text : List ℕ) (begin place : ℕ) (spot : Spot) (part other : Part) (escape : Escape) → begin ≤ place
    → ((slot : Slot) (value : List ℕ) → Leads text begin (Within slot spot part value) place (Within slot spot other value)) → IsEscape text place spot other escape → IsEscape text begin spot part escape
escape_within text begin place spot part other escape forward leads found =
    let on : place < escape.next = found.forward in
    record {
      forward = omega arith;
      within = found.within;
      ascii = found.ascii;
      leads = λ slot value. leads slot value ∙ found.leads slot value;
    }

-- both ends of an escape
pub ends_within : (text : List ℕ) (begin place : ℕ) (spot : Spot) (part other : Part) (result : Result Escape TripleFault) → begin ≤ place
    → ((slot : Slot) (value : List ℕ) → Leads text begin (Within slot spot part value) place (Within slot spot other value))
    → MatchResult result (IsEscape text place spot other) (StopsBehind text place spot other) → MatchResult result (IsEscape text begin spot part) (StopsBehind text begin spot part)
ends_within text begin place spot part other (Ok escape) forward leads found = escape_within text begin place spot part other escape forward leads found
ends_within text begin place spot part other (Err fault) forward leads found = stops_within text begin place spot part other fault leads found

-- `u` and `U` behind a backslash
pub short_leads : (text : List ℕ) (place : ℕ) (spot : Spot) (slot : Slot) (value : List ℕ) → HasByte text place 117 → Leads text place (Within slot spot Behind value) (place + 1) (Within slot spot (Digits 4 0) value)
unfolding step
short_leads text place spot slot value here = leads_on text place 117 (Within slot spot Behind value) (Within slot spot (Digits 4 0) value) here refl

pub long_leads : (text : List ℕ) (place : ℕ) (spot : Spot) (slot : Slot) (value : List ℕ) → HasByte text place 85 → Leads text place (Within slot spot Behind value) (place + 1) (Within slot spot (Digits 8 0) value)
unfolding step
long_leads text place spot slot value here = leads_on text place 85 (Within slot spot Behind value) (Within slot spot (Digits 8 0) value) here refl

-- nothing behind a backslash
pub behind_end : (text : List ℕ) (place : ℕ) (spot : Spot) → place ≤ length text → length text ≤ place → StopsBehind text place spot Behind (NotTriple place)
unfolding verdict
behind_end text place spot within past slot value = stops_at_end text place (Within slot spot Behind value) within past refl

-- another letter behind a backslash
step_letter : (slot : Slot) (spot : Spot) (value : List ℕ) (letter : ℕ) → letter ≢ 117 → letter ≢ 85 → step (Within slot spot Behind value) letter ≡ with_letter slot spot value letter
unfolding step
step_letter slot spot value letter u v = rw (ne_eqb letter 117 u, ne_eqb letter 85 v) refl

pub letter_stops : (text : List ℕ) (place : ℕ) (spot : Spot) (letter : ℕ) → HasByte text place letter → letter ≢ 117 → letter ≢ 85 → HasNoLetter spot letter → StopsBehind text place spot Behind (NotTriple place)
letter_stops text place spot letter here u v none slot value =
    stops_here text place letter (Within slot spot Behind value) here (step_letter slot spot value letter u v ∙ none slot value)

pub letter_escape : (text : List ℕ) (place : ℕ) (spot : Spot) (letter character : ℕ) → HasByte text place letter → letter ≢ 117 → letter ≢ 85 → HasLetter spot letter character
    → IsEscape text place spot Behind (record { character = character; spot = spot; next = place + 1 })
letter_escape text place spot letter character here u v found =
    let within : place < length text = here.within in
    let back : place + 1 - 1 ≡ place = omega arith in
    record {
      forward = omega arith;
      within = omega arith;
      ascii = rw (back, byte_is text place letter here) found.0;
      leads = λ slot value. rw (encode_ascii character found.1)
          (leads_on text place letter (Within slot spot Behind value) (Within slot spot Between (value ++ character ∷ [])) here (step_letter slot spot value letter u v ∙ found.2 slot value));
    }
