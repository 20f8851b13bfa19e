-- Steps of reading what stands between the marks of a term.
use Rattle.std.proofs.Common.{◌≡◌, ◌≢◌, ℕ, suc, ◌+◌, ◌-◌, ◌<◌, ◌≤◌, List, [], ◌∷◌, ◌++◌, length, get_or, take, drop, true, false, Some, None, refl, sym, ap, ◌∙◌, subst, arith, append_assoc}
use Rattle.std.proofs.lemmas.Bool.{ne_eqb, eqb-true}
use Rattle.std.proofs.lemmas.List.{take_more, get_or-drop, length-drop}
use Rattle.std.specs.Str.{IsUtf8, IsCharBoundary}
use Rattle.std.proofs.lemmas.Str.{IsCharBoundary-after_ascii}
use lib.Utf8.{encode}
use Rattle.rdf_terms.specs.declared.escapes.Escape.{Escape}
use Rattle.rdf_terms.specs.declared.faults.TripleFault.{TripleFault}
use Rattle.rdf_terms.specs.declared.faults.TripleFault.TheVariants.{NotTriple}
use Rattle.text_rules.specs.declared.spots.Spot.{Spot}
use Rattle.text_rules.specs.declared.spots.Spot.TheVariants.{SchemeStart, Scheme, IriRest, Lexical}
use Rattle.rdf_terms.specs.TripleReading.{Slot, Within, Between, Behind, after_plain, closes, closed, within, step, verdict, resume, run, run_from, Leads}
use Rattle.text_rules.specs.BytePlaces.{HasByte}
use Rattle.rdf_terms.specs.TripleReads.{IsEscape, PassesPlain, StopsBehind, StopsWithin}
use Rattle.rdf_terms.proofs.Stops.{leads_on, stops_here, stops_at_end, stops_later, byte_is}

-- what a byte that stands for itself makes of a term
step_plain : (slot : Slot) (spot : Spot) (value : List ℕ) (byte : ℕ) → byte ≢ 92 → closes spot byte ≡ false → step (Within slot spot Between value) byte ≡ within slot (value ++ byte ∷ []) (after_plain spot byte)
unfolding step
step_plain slot spot value byte other unclosed = rw (ne_eqb byte 92 other, unclosed) refl

-- a byte that stands for itself
pub plain_leads : (text : List ℕ) (place byte : ℕ) (spot next : Spot) (slot : Slot) (value : List ℕ) → HasByte text place byte → byte ≢ 92 → closes spot byte ≡ false → after_plain spot byte ≡ Some next
    → Leads text place (Within slot spot Between value) (place + 1) (Within slot next Between (value ++ byte ∷ []))
plain_leads text place byte spot next slot value here other unclosed goes =
    leads_on text place byte (Within slot spot Between value) (Within slot next Between (value ++ byte ∷ [])) here
    (step_plain slot spot value byte other unclosed ∙ ap (within slot (value ++ byte ∷ [])) goes)

-- a byte more of a run
pub run_longer : (text : List ℕ) (begin i byte : ℕ) → begin ≤ i → HasByte text i byte → take (i - begin) (drop begin text) ++ byte ∷ [] ≡ take (i + 1 - begin) (drop begin text)
run_longer text begin i byte forward here =
    let within : i < length text = here.within in
    let inside : i - begin < length (drop begin text) = omega (arith, length-drop begin text) in
    let there : begin + (i - begin) ≡ i = omega arith in
    let one : (i - begin) + 1 ≡ i + 1 - begin = omega arith in
    let found : get_or (drop begin text) (i - begin) 0 ≡ byte = get_or-drop begin text (i - begin) 0 ∙ ap (λ n. get_or text n 0) there ∙ byte_is text i byte here in
    sym (ap (λ b. take (i - begin) (drop begin text) ++ b ∷ []) found) ∙ sym (take_more (drop begin text) (i - begin) 0 inside) ∙ ap (λ n. take n (drop begin text)) one

-- a byte more was passed
pub pass_more : (text : List ℕ) (begin i byte : ℕ) (spot here next : Spot) → begin ≤ i → HasByte text i byte → byte ≢ 92 → closes here byte ≡ false → after_plain here byte ≡ Some next
    → ((slot : Slot) (value : List ℕ) → Leads text begin (Within slot spot Between value) i (Within slot here Between (value ++ take (i - begin) (drop begin text))))
    → (slot : Slot) (value : List ℕ) → Leads text begin (Within slot spot Between value) (i + 1) (Within slot next Between (value ++ take (i + 1 - begin) (drop begin text)))
pass_more text begin i byte spot here next forward found other unclosed goes leads slot value =
    leads slot value ∙ plain_leads text i byte here next slot (value ++ take (i - begin) (drop begin text)) found other unclosed goes
    ∙ ap (λ l. run (drop (i + 1) text) (Within slot next Between l)) (append_assoc value (take (i - begin) (drop begin text)) (byte ∷ []) ∙ ap (λ l. value ++ l) (run_longer text begin i byte forward found))

-- the end of the text within a term
pub body_end : (text : List ℕ) (place : ℕ) (spot : Spot) (value : List ℕ) → place ≤ length text → length text ≤ place → StopsWithin text place spot value (NotTriple place)
unfolding verdict
body_end text place spot value within past slot = stops_at_end text place (Within slot spot Between value) within past refl

-- a byte that may not stand here
pub body_refused : (text : List ℕ) (place byte : ℕ) (spot : Spot) (value : List ℕ) → HasByte text place byte → byte ≢ 92 → closes spot byte ≡ false → after_plain spot byte ≡ None → StopsWithin text place spot value (NotTriple place)
body_refused text place byte spot value here other unclosed none slot =
    stops_here text place byte (Within slot spot Between value) here (step_plain slot spot value byte other unclosed ∙ ap (within slot (value ++ byte ∷ [])) none)

-- reading leads, behind values, from one spot of a term to another
abbrev pub LeadsWithin : List ℕ → ℕ → Spot → List ℕ → ℕ → Spot → List ℕ → Type 0
LeadsWithin text begin spot value place here longer = (slot : Slot) → Leads text begin (Within slot spot Between value) place (Within slot here Between longer)

-- where reading stops later it stops
pub body_stops : (text : List ℕ) (begin : ℕ) (spot : Spot) (value : List ℕ) (place : ℕ) (here : Spot) (longer : List ℕ) (fault : TripleFault)
    → LeadsWithin text begin spot value place here longer → StopsWithin text place here longer fault → StopsWithin text begin spot value fault
body_stops text begin spot value place here longer fault leads stops slot = stops_later text begin (Within slot spot Between value) place (Within slot here Between longer) fault (leads slot) (stops slot)

-- a run was passed behind what was read
pub run_passed : (text : List ℕ) (begin : ℕ) (spot : Spot) (value : List ℕ) (begun : ℕ) (there : Spot) (longer : List ℕ) (stop : ℕ) (here : Spot)
    → LeadsWithin text begin spot value begun there longer → PassesPlain text begun there stop here → LeadsWithin text begin spot value stop here (longer ++ take (stop - begun) (drop begun text))
run_passed text begin spot value begun there longer stop here leads passed slot = leads slot ∙ passed.leads slot longer

-- a backslash
pub backslash_leads : (text : List ℕ) (place : ℕ) (spot : Spot) (slot : Slot) (value : List ℕ) → HasByte text place 92 → Leads text place (Within slot spot Between value) (place + 1) (Within slot spot Behind value)
unfolding step
backslash_leads text place spot slot value here = leads_on text place 92 (Within slot spot Between value) (Within slot spot Behind value) here refl

-- an escape behind what was read
pub escape_passed : (text : List ℕ) (begin : ℕ) (spot : Spot) (value : List ℕ) (stop : ℕ) (here : Spot) (longer : List ℕ) (escape : Escape) → LeadsWithin text begin spot value stop here longer → HasByte text stop 92
    → IsEscape text (stop + 1) here Behind escape → LeadsWithin text begin spot value escape.next escape.spot (longer ++ encode escape.character)
escape_passed text begin spot value stop here longer escape leads found read slot = leads slot ∙ backslash_leads text stop here slot longer found ∙ read.leads slot longer

-- the closing mark
step_closing : (slot : Slot) (spot : Spot) (value : List ℕ) (byte : ℕ) → byte ≢ 92 → closes spot byte ≡ true → step (Within slot spot Between value) byte ≡ closed slot value
unfolding step
step_closing slot spot value byte other shut = rw (ne_eqb byte 92 other, shut) refl

pub closing_leads : (text : List ℕ) (place byte : ℕ) (spot : Spot) (slot : Slot) (value : List ℕ) → HasByte text place byte → byte ≢ 92 → closes spot byte ≡ true
    → run (drop place text) (Within slot spot Between value) ≡ run_from (closed slot value) (drop (place + 1) text)
unfolding run
closing_leads text place byte spot slot value here other shut =
    ap (λ l. run l (Within slot spot Between value)) here.here ∙ ap (resume (run (drop (place + 1) text)) (suc (length (drop (place + 1) text)))) (step_closing slot spot value byte other shut)

-- a mark that closes a term is ASCII
pub closing_small : (spot : Spot) (byte : ℕ) → closes spot byte ≡ true → byte < 128
closing_small SchemeStart byte h = cc
closing_small Scheme byte h = cc
closing_small IriRest byte h = let e : byte ≡ 62 = eqb-true byte 62 h in omega arith
closing_small Lexical byte h = let e : byte ≡ 34 = eqb-true byte 34 h in omega arith

-- an escape that stops reading behind what was read
pub escape_stops : (text : List ℕ) (begin : ℕ) (spot : Spot) (value : List ℕ) (stop : ℕ) (here : Spot) (longer : List ℕ) (fault : TripleFault) → LeadsWithin text begin spot value stop here longer → HasByte text stop 92
    → StopsBehind text (stop + 1) here Behind fault → StopsWithin text begin spot value fault
escape_stops text begin spot value stop here longer fault leads found stops slot =
    stops_later text begin (Within slot spot Between value) stop (Within slot here Between longer) fault (leads slot)
    (stops_later text stop (Within slot here Between longer) (stop + 1) (Within slot here Behind longer) fault (backslash_leads text stop here slot longer found) (stops slot longer))

-- the text may be cut behind a byte of ASCII
pub boundary_behind : (text : List ℕ) (place : ℕ) → IsUtf8 text → 1 ≤ place → place ≤ length text → get_or text (place - 1) 0 < 128 → IsCharBoundary text place
boundary_behind text place utf8 some within ascii =
    let back : place - 1 + 1 ≡ place = omega arith in
    subst (λ (n : ℕ). IsCharBoundary text n) back (IsCharBoundary-after_ascii text (place - 1) utf8 (omega arith) ascii)
