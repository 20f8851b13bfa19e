-- Steps of reading at places of a text.
use Rattle.std.proofs.Common.{◌≡◌, ℕ, suc, ◌+◌, ◌-◌, ◌<◌, ◌≤◌, List, length, get_or, drop, Some, None, sym, ap, ◌∙◌, subst, arith}
use Rattle.std.proofs.lemmas.List.{drop_more, drop_all, length-drop}
use Rattle.rdf_terms.specs.declared.faults.TripleFault.{TripleFault}
use Rattle.rdf_terms.specs.declared.faults.TripleFault.TheVariants.{NotTriple, TooLong, NoMemory}
use Rattle.rdf_terms.specs.TripleReading.{State, Stopped, step, run, verdict, Leads, StopsAt}
use Rattle.text_rules.specs.BytePlaces.{HasByte}
use Rattle.rdf_terms.proofs.Steps.{run_step, run_stop}

-- a byte that is read
pub byte_here : (text : List ℕ) (place : ℕ) → place < length text → HasByte text place (get_or text place 0)
byte_here text place h = record { within = h; here = drop_more text place 0 h }

-- the byte at a place is the one that is read there
pub byte_is : (text : List ℕ) (place byte : ℕ) → HasByte text place byte → get_or text place 0 ≡ byte
byte_is text place byte h = ap (λ l. get_or l 0 0) (sym (drop_more text place 0 h.within) ∙ h.here)

-- reading goes on behind a byte
pub leads_on : (text : List ℕ) (place byte : ℕ) (state next : State) → HasByte text place byte → step state byte ≡ Some next → Leads text place state (place + 1) next
leads_on text place byte state next h e = ap (λ l. run l state) h.here ∙ run_step state next byte (drop (place + 1) text) e

-- reading stops at a byte
pub stops_here : (text : List ℕ) (place byte : ℕ) (state : State) → HasByte text place byte → step state byte ≡ None → StopsAt text place state (NotTriple place)
stops_here text place byte state h e =
    let within : place < length text = h.within in
    let left : suc (length (drop (place + 1) text)) ≡ length text - place = omega (arith, length-drop (place + 1) text) in
    (omega arith, ap (λ l. run l state) h.here ∙ run_stop state byte (drop (place + 1) text) e ∙ ap Stopped left)

-- reading stops at the end of the text
pub stops_at_end : (text : List ℕ) (place : ℕ) (state : State) → place ≤ length text → length text ≤ place → verdict state ≡ Stopped 0 → StopsAt text place state (NotTriple place)
unfolding run
stops_at_end text place state within past e =
    let none : 0 ≡ length text - place = omega arith in
    (within, ap (λ l. run l state) (drop_all place text past) ∙ e ∙ ap Stopped none)

-- reading that leads to another place stops where reading from there stops
pub stops_later : (text : List ℕ) (place : ℕ) (state : State) (next : ℕ) (other : State) (fault : TripleFault) → Leads text place state next other → StopsAt text next other fault → StopsAt text place state fault
stops_later text place state next other (NotTriple found) e h = (h.0, e ∙ h.1)
stops_later text place state next other TooLong e h = h
stops_later text place state next other NoMemory e h = h

-- the byte that is read of the same bytes
pub byte_of : (text bytes : List ℕ) (place : ℕ) → bytes ≡ text → place < length text → HasByte text place (get_or bytes place 0)
byte_of text bytes place same h = subst (λ (l : List ℕ). HasByte text place (get_or l place 0)) (sym same) (byte_here text place h)
