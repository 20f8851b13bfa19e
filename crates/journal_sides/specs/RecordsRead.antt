-- When what the program has read so far is what the grammar of sides reads.
use Rattle.std.specs.Prelude.{◌≡◌, ◌==◌, ℕ, ◌+◌, ◌-◌, ◌≤◌, Bool, List, [], ◌∷◌, ◌++◌, length, take, drop}
use Rattle.op_codec.specs.declared.faults.CodecFault.{CodecFault}
use Rattle.op_codec.specs.declared.faults.CodecFault.TheVariants.{NotInGrammar, NoMemory}
use Rattle.mld_ops.specs.Entry.{EntryValue}
use Rattle.op_codec.specs.Agreement.{IsRead, IsRefused}
use Rattle.op_codec.specs.Reading.{Reading}
use Rattle.tree_clock.specs.Clock.{ticks_of}
use Rattle.journal_sides.specs.Format.{open_gate}
use Rattle.journal_sides.specs.Heads.{HeadValue, text_at, read_text}
use Rattle.journal_sides.specs.RecordBytes.{RecordValue, entries_in, path_after, known_after}

-- a piece of the input
abbrev pub piece_at : List ℕ → ℕ → ℕ → List ℕ
piece_at input start stop = take (stop - start) (drop start input)

-- the bytes of a text stand here behind its length, whatever test it has to pass
pub record HasText (input : List ℕ) (at start stop : ℕ) : Type 0 where
  pub reads : (fits : List ℕ → Bool) → read_text fits at (drop at input) ≡ text_at fits start (piece_at input start stop) stop (drop stop input)
  pub ordered : start ≤ stop
  pub within : stop ≤ length input

-- no text stands here, whatever test it has to pass
abbrev pub MissesText : List ℕ → ℕ → CodecFault → Type 0
MissesText input at fault = (fits : List ℕ → Bool) → IsRefused (read_text fits at (drop at input)) fault

-- entries, a path and ticks are those that records behind a head leave
pub record Shows (head : HeadValue) (records : List RecordValue) (entries : List EntryValue) (path : List ℕ) (ticks : List (List ℕ × ℕ)) : Type 0 where
  pub entries_are : entries ≡ entries_in records
  pub path_is : path ≡ path_after head.path records
  pub ticks_are : (other : List ℕ) → ticks_of ticks other ≡ ticks_of (known_after head.base.ticks (entries_in records)) other

-- one record more was read behind others, up to this place, and left these
pub record TakesRecord (head : HeadValue) (records : List RecordValue) (reading : Reading RecordValue) (input : List ℕ) (entries : List EntryValue) (path : List ℕ) (ticks : List (List ℕ × ℕ)) (next : ℕ) : Type 0 where
  pub taken : RecordValue
  pub reads : IsRead reading input taken next
  pub shows : Shows head (records ++ taken ∷ []) entries path ticks

-- a gate stands here, and it is open or closed
pub record HasGate (input : List ℕ) (at : ℕ) (is_open : Bool) : Type 0 where
  pub gate : ℕ
  pub here : drop at input ≡ gate ∷ drop (at + 1) input
  pub is : is_open ≡ (gate == open_gate)
  pub within : at + 1 ≤ length input

-- no gate stands here
abbrev pub HasNoGate : List ℕ → ℕ → CodecFault → Type 0
HasNoGate input at (NotInGrammar place) = (drop at input ≡ []) × (place ≡ at)
HasNoGate input at NoMemory = Unit {0}

-- all records were read, up to the closed gate at this place, and left these
pub record FindsRecords (head : HeadValue) (reading : Reading (List RecordValue)) (input : List ℕ) (entries : List EntryValue) (path : List ℕ) (stop : ℕ) : Type 0 where
  pub records : List RecordValue
  pub reads : IsRead reading input records stop
  pub entries_are : entries ≡ entries_in records
  pub path_is : path ≡ path_after head.path records
