-- What a side's bytes say: it is closed, it is open, or it is damaged at a place.
use Rattle.std.specs.Prelude.{ℕ, suc, ◌==◌, List, [], ◌∷◌, ◌++◌, length, if◌then◌else◌}
use Rattle.op_codec.specs.Reading.{Reading, Found, Fault, chain}
use Rattle.journal_sides.specs.Format.{open_gate}
use Rattle.journal_sides.specs.Heads.{Opening, head_bytes, read_head}
use Rattle.journal_sides.specs.RecordBytes.{RecordValue, blocks, read_records}

-- what stands on an open side
pub record Volume : Type 0 where
  pub opening : Opening
  pub records : List RecordValue

pub data SideReading : Type 0 where
  -- it has no bytes, or its first gate is closed
  IsClosed : SideReading
  IsOpen : Volume → SideReading
  -- its first gate is open, and something behind it isn't as it should be; the place is counted in bytes from the side's begin
  IsDamaged : ℕ → SideReading

-- the bytes of an open side up to the closed gate behind its records
unfoldable pub volume_bytes : Volume → List ℕ
volume_bytes volume = open_gate ∷ (head_bytes volume.opening ++ blocks volume.records)

-- what stands behind an open first gate
unfoldable pub read_volume : ℕ → List ℕ → Reading Volume
read_volume place bytes =
    chain (read_head place bytes) (λ opening next rest.
    chain (read_records (suc (length bytes)) opening.head [] next rest) (λ records end left.
    Found (record { opening = opening; records = records }) end left))

-- what a reading behind an open first gate says of the side
abbrev pub side_of : Reading Volume → SideReading
side_of (Found volume next rest) = IsOpen volume
side_of (Fault place) = IsDamaged place

-- what the bytes of a side say
unfoldable pub read_side : List ℕ → SideReading
read_side [] = IsClosed
read_side (gate ∷ bytes) = if gate == open_gate then side_of (read_volume 1 bytes) else IsClosed
