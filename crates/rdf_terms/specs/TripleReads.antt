-- What the readers of parts of a triple's text answer.
use Rattle.std.specs.Prelude.{◌≡◌, ◌≢◌, ℕ, ◌+◌, ◌-◌, ◌<◌, ◌≤◌, List, [], ◌∷◌, ◌++◌, true, false, ◌⊎◌, Some, None, length, take, drop, slice_index, IsTrue, encode_utf8}
use Rattle.std.specs.Char.{digit_value}
use Rattle.std.specs.Str.{str_to_ascii_lowercase}
use Rattle.rdf_terms.specs.declared.escapes.Escape.{Escape}
use Rattle.rdf_terms.specs.declared.faults.TripleFault.{TripleFault}
use Rattle.rdf_terms.specs.declared.faults.TripleFault.TheVariants.{NotTriple}
use Rattle.text_rules.specs.declared.spots.Spot.{Spot}
use Rattle.rdf_terms.specs.declared.terms.Term.{Term}
use Rattle.rdf_terms.specs.declared.terms.Term.TheVariants as terms
use Rattle.rdf_terms.specs.Escapes.{is_hexadecimal}
use Rattle.rdf_terms.specs.Grammar.{is_blank}
use Rattle.text_rules.specs.BytePlaces.{HasByte, LacksByte}
use Rattle.text_rules.specs.Tags.{is_language_tag}
use Rattle.rdf_terms.specs.Literal.{Tagged}
use Rattle.text_rules.specs.Marks.{less, backslash}
use Rattle.rdf_terms.specs.TripleReading.{Slot, LexicalForm, Part, Between, State, Before, Within, Tag, Closed, Spelled, after_plain, closes, closed, with_letter, step, step_before, run, run_from, Leads, StopsAt}

-- a hexadecimal digit of this value stands at a place
abbrev pub HasDigit : List ℕ → ℕ → ℕ → Type 0
HasDigit text place digit = (byte : ℕ) × HasByte text place byte × (is_hexadecimal byte ≡ true) × (digit ≡ digit_value byte)

-- no hexadecimal digit stands there
abbrev pub HasNoDigit : List ℕ → ℕ → Type 0
HasNoDigit text place = (length text ≤ place) ⊎ ((byte : ℕ) × HasByte text place byte × (is_hexadecimal byte ≡ false))

-- a letter behind a backslash stands for this character at a spot
abbrev pub HasLetter : Spot → ℕ → ℕ → Type 0
HasLetter spot letter character =
    (letter < 128) × (character < 128) × ((slot : Slot) (value : List ℕ) → with_letter slot spot value letter ≡ Some (Within slot spot Between (value ++ character ∷ [])))

-- a letter may not stand behind a backslash at a spot
abbrev pub HasNoLetter : Spot → ℕ → Type 0
HasNoLetter spot letter = (slot : Slot) (value : List ℕ) → with_letter slot spot value letter ≡ None

-- an escape was read from a place of a text, where a part of it was read before
pub record IsEscape (text : List ℕ) (begin : ℕ) (spot : Spot) (part : Part) (escape : Escape) : Type 0 where
  pub forward : begin < escape.next
  pub within : escape.next ≤ length text
  pub ascii : slice_index text (escape.next - 1) < 128
  pub leads : (slot : Slot) (value : List ℕ)
      → Leads text begin (Within slot spot part value) escape.next (Within slot escape.spot Between (value ++ encode_utf8 escape.character))

-- reading from a place within a term stops where the fault says, behind every value
abbrev pub StopsBehind : List ℕ → ℕ → Spot → Part → TripleFault → Type 0
StopsBehind text begin spot part fault = (slot : Slot) (value : List ℕ) → StopsAt text begin (Within slot spot part value) fault

-- the same behind this value
abbrev pub StopsWithin : List ℕ → ℕ → Spot → List ℕ → TripleFault → Type 0
StopsWithin text begin spot value fault = (slot : Slot) → StopsAt text begin (Within slot spot Between value) fault

-- bytes that stand for themselves were passed, up to the first other byte or the end
pub record PassesPlain (text : List ℕ) (begin : ℕ) (spot : Spot) (place : ℕ) (here : Spot) : Type 0 where
  pub forward : begin ≤ place
  pub within : place ≤ length text
  pub leads : (slot : Slot) (value : List ℕ)
      → Leads text begin (Within slot spot Between value) place (Within slot here Between (value ++ take (place - begin) (drop begin text)))
  pub stops : (byte : ℕ) → HasByte text place byte → byte ≢ backslash → closes here byte ≡ false → after_plain here byte ≡ None

-- what stands between the marks of a term was read behind a value, and the closing mark
pub record IsBody (text : List ℕ) (begin : ℕ) (spot : Spot) (before value : List ℕ) (next : ℕ) : Type 0 where
  pub within : next ≤ length text
  pub forward : begin < next
  pub leads : (slot : Slot) → run (drop begin text) (Within slot spot Between before) ≡ run_from (closed slot value) (drop next text)

-- a blank changes nothing in this state
abbrev pub SkipsBlanks : State → Type 0
SkipsBlanks state = (byte : ℕ) → is_blank byte ≡ true → step state byte ≡ Some state

-- the blanks at a place were passed
pub record PassesBlanks (text : List ℕ) (begin place : ℕ) : Type 0 where
  pub forward : begin ≤ place
  pub within : place ≤ length text
  pub leads : (state : State) → SkipsBlanks state → Leads text begin state place state
  pub stops : (byte : ℕ) → HasByte text place byte → is_blank byte ≡ false

-- a mark was passed that had to stand at a place
pub record PassesMark (text : List ℕ) (place mark next : ℕ) : Type 0 where
  pub here : HasByte text place mark
  pub next_is : next ≡ place + 1

-- the mark doesn't stand at the place, which the fault names
pub record MissesMark (text : List ℕ) (place mark : ℕ) (fault : TripleFault) : Type 0 where
  pub lacks : LacksByte text place mark
  pub fault_is : fault ≡ NotTriple place

-- a term that may be an IRI
abbrev pub TakesIri : Slot → Type 0
TakesIri (LexicalForm s p) = ⊥
TakesIri other = Unit {0}

-- before such a term no other byte than `<` may stand at the place: it is no blank, and no quote before an object
abbrev pub NeedsIri : Slot → List ℕ → ℕ → Type 0
NeedsIri slot text place = (byte : ℕ) → HasByte text place byte → byte ≢ less → step_before slot byte ≡ None

-- an IRI was read in its angle brackets
pub record IsIri (text : List ℕ) (begin : ℕ) (iri : List ℕ) (next : ℕ) : Type 0 where
  pub within : next ≤ length text
  pub forward : begin < next
  pub leads : (slot : Slot) → TakesIri slot → run (drop begin text) (Before slot) ≡ run_from (closed slot iri) (drop next text)

-- an object was read, from a state before or within it
pub record IsObject (text : List ℕ) (begin : ℕ) (from : List ℕ → List ℕ → State) (object : Term) (next : ℕ) : Type 0 where
  pub within : next ≤ length text
  pub leads : (s p : List ℕ) → Leads text begin (from s p) next (Closed s p object)

-- reading an object stops where the fault says
abbrev pub StopsObject : List ℕ → ℕ → (List ℕ → List ℕ → State) → TripleFault → Type 0
StopsObject text begin from fault = (s p : List ℕ) → StopsAt text begin (from s p) fault

-- a language tag was passed
pub record IsTagEnd (text : List ℕ) (begin place : ℕ) : Type 0 where
  pub forward : begin < place
  pub within : place ≤ length text
  pub ascii : slice_index text (place - 1) < 128
  pub tag : IsTrue (is_language_tag (take (place - begin) (drop begin text)))
  pub leads : (s p lexical : List ℕ)
      → Leads text begin (Tag s p lexical false false []) place (Closed s p (terms.Literal (Tagged lexical (str_to_ascii_lowercase (take (place - begin) (drop begin text))))))

-- reading a language tag stops where the fault says
abbrev pub EndsTag : List ℕ → ℕ → TripleFault → Type 0
EndsTag text begin fault = (s p lexical : List ℕ) → StopsAt text begin (Tag s p lexical false false []) fault

-- behind an object the text ends as a triple's does
abbrev pub ReadsEnd : List ℕ → ℕ → Type 0
ReadsEnd text begin = (s p : List ℕ) (o : Term) → run (drop begin text) (Closed s p o) ≡ Spelled (record { s = s; p = p; o = o })
