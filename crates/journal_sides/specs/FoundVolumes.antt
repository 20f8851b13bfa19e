-- What the program finds on a side, and when it tells what the bytes say.
use Rattle.std.specs.Prelude.{◌≡◌, ℕ, ◌+◌, ◌^◌, ◌<◌, List, ◌∷◌, Option, Some, None, Result, Ok, Err}
use Rattle.mld_io.specs.declared.banks.Side.{Side}
use Rattle.op_codec.specs.declared.faults.CodecFault.{CodecFault}
use Rattle.op_codec.specs.declared.faults.CodecFault.TheVariants as codec
use Rattle.journal_sides.specs.declared.side_reading.Found.{Found}
use Rattle.journal_sides.specs.Format.{open_gate}
use Rattle.journal_sides.specs.Heads.{head_value}
use Rattle.journal_sides.specs.Pairs.{Kept, kept_on}
use Rattle.journal_sides.specs.SideReadings.{IsOpen, IsDamaged, Volume, read_side}
use Rattle.journal_sides.specs.StoredVolumes.{EndsAt, IsGoodHead, AreGoodEntries, IsVolume}

-- the bytes begin with an open gate
abbrev pub BeginsOpen : List ℕ → Type 0
BeginsOpen bytes = (rest : List ℕ) × (bytes ≡ open_gate ∷ rest)

-- what is kept where this was found
abbrev pub kept_found : Found → Kept
kept_found found = record { side = found.side; generation = found.generation; head = head_value found.head; entries = found.entries.items }

-- this was found where a side has these bytes
pub record IsFoundOn (found : Found) (bytes : List ℕ) : Type 0 where
  pub volume : Volume
  pub reads : read_side bytes ≡ IsOpen volume
  pub kept : kept_on found.side volume ≡ kept_found found
  pub stored : IsVolume volume
  pub ends : EndsAt volume found.stop bytes

-- where something was found, there is a place behind its closed gate
abbrev pub HasPlaceBehind : Option Found → Type 0
HasPlaceBehind None = Unit {0}
HasPlaceBehind (Some found) = found.stop + 1 < 2 ^ 64

-- what was found may be written again
abbrev pub MayBeWritten : Option Found → Type 0
MayBeWritten None = Unit {0}
MayBeWritten (Some found) = IsGoodHead (head_value found.head) × AreGoodEntries (head_value found.head).base.ticks found.entries.items

-- what was found behind an open first gate says what the side's bytes say
abbrev pub TellsVolume : Side → List ℕ → Result Found CodecFault → Type 0
TellsVolume side bytes (Ok found) = IsFoundOn found bytes × (found.side ≡ side)
TellsVolume side bytes (Err (codec.NotInGrammar place)) = read_side bytes ≡ IsDamaged place
TellsVolume side bytes (Err codec.NoMemory) = Unit {0}
