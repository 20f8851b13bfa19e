-- When the program's reading is the grammar's. Each public reader cites it.
use Rattle.std.specs.Prelude.{◌≡◌, ◌≤◌, ℕ, suc, Bool, List, Some, None, Result, Ok, Err, length, drop}
use Rattle.op_codec.specs.declared.faults.CodecFault.{CodecFault}
use Rattle.op_codec.specs.declared.faults.CodecFault.TheVariants.{NotInGrammar, NoMemory}
use Rattle.rdf_terms.specs.declared.terms.Triple.{Triple}
use Rattle.op_codec.specs.StoredLists.{read_items}
use Rattle.op_codec.specs.Reading.{Reading, Found, Fault}
use Rattle.op_codec.specs.Triples.{triple_of}

-- the grammar reads this value, up to this place of the input
pub record IsRead {X : Type 0} (reading : Reading X) (input : List ℕ) (value : X) (next : ℕ) : Type 0 where
  pub found : reading ≡ Found value next (drop next input)
  pub within : next ≤ length input

-- the grammar has a fault at this place, unless memory ran out
abbrev pub IsRefused : {X : Type 0} → Reading X → CodecFault → Type 0
IsRefused reading (NotInGrammar place) = reading ≡ Fault place
IsRefused reading NoMemory = Unit {0}

-- an item more was read behind the others: whatever is still to come is read from here
pub record TakesItem {X : Type 0} (read_item : ℕ → List ℕ → Reading X) (fits : List X → X → Bool) (input : List ℕ) (old : List X) (place : ℕ) (new : List X) (next : ℕ) : Type 0 where
  pub leads : (count : ℕ) → read_items read_item fits (suc count) old place (drop place input) ≡ read_items read_item fits count new next (drop next input)
  pub within : next ≤ length input

-- no item more is read: however many are to come, the fault is here
abbrev pub MissesItem : {X : Type 0} → (ℕ → List ℕ → Reading X) → (List X → X → Bool) → List ℕ → List X → ℕ → CodecFault → Type 0
MissesItem read_item fits input old place fault =
    (count : ℕ) → IsRefused (read_items read_item fits (suc count) old place (drop place input)) fault

-- the text is this triple's written form, or it is that of none
abbrev pub IsWrittenForm : List ℕ → ℕ → Result Triple CodecFault → Type 0
IsWrittenForm text place (Ok triple) = triple_of text ≡ Some triple
IsWrittenForm text place (Err (NotInGrammar at)) = (triple_of text ≡ None) × (at ≡ place)
IsWrittenForm text place (Err NoMemory) = Unit {0}
