-- What the calls that write put on a side. `put_record`, `write_side`, `append_at` and `swap_at` cite it, which are private.
use Rattle.std.specs.Prelude.{◌≡◌, ◌⊎◌, ℕ, List, [], ◌∷◌, ◌++◌, Option, Some}
use Rattle.mld_io.specs.Arm.{Arm}
use Rattle.mld_io.specs.Disk.{Call, Log, Sides, bytes_of, other_side, seen, IsSettled}
use Rattle.mld_io.specs.declared.banks.Side.{Side}
use Rattle.journal_sides.specs.Format.{closed_gate}
use Rattle.journal_sides.specs.RecordBytes.{RecordValue, record_bytes}
use Rattle.journal_sides.specs.SideReadings.{IsClosed, IsOpen, Volume, read_side}
use Rattle.journal_sides.specs.StoredVolumes.{EndsAt}
use Rattle.journal_sides.specs.WrittenRecords.{with_record}
use Rattle.journal_store.specs.Crashes.{IsIssued, append_gate, first_gate}

-- what stands behind a gate once a record does: its bytes, with the closed gate behind them
abbrev pub record_body : RecordValue → List ℕ
record_body next = record_bytes next ++ closed_gate ∷ []

-- banks tell this log, a crash now leaves what reads give, and the records of a side end at this place, where its closed gate is
pub record HasEndAt (side : Side) (volume : Volume) (stop : ℕ) (log : Log) (now : Option Log) : Type 0 where
  pub now_is : now ≡ Some log
  pub settled : IsSettled log
  pub ends : EndsAt volume stop (bytes_of side (seen log))

-- a side has a volume that ends at this place, and the other is as it was; a crash now leaves just that
pub record HasVolume (side : Side) (volume : Volume) (stop : ℕ) (old : Log) (now : Option Log) : Type 0 where
  pub log : Log
  pub now_is : now ≡ Some log
  pub settled : IsSettled log
  pub other : bytes_of (other_side side) (seen log) ≡ bytes_of (other_side side) (seen old)
  pub ends : EndsAt volume stop (bytes_of side (seen log))

-- what may be there at a moment of an append: the side reads as before, or, only once the write of the gate was issued, with the
-- record behind the others; the other side is as it was
pub record IsAppendingTo (arm : Arm) (side : Side) (stop : ℕ) (volume : Volume) (next : RecordValue) (old : Sides) (calls : List Call) (image : Sides) : Type 0 where
  pub other : bytes_of (other_side side) image ≡ bytes_of (other_side side) old
  pub reads : (read_side (bytes_of side image) ≡ IsOpen volume)
      ⊎ (IsIssued arm (append_gate side stop) calls × (read_side (bytes_of side image) ≡ IsOpen (with_record next volume)))

-- what may be there at a moment while a side is written anew: it is as it was, or closed, or, only once the write of its gate was
-- issued, as it is to be; the other side is as it was
pub record IsWritingTo (arm : Arm) (side : Side) (volume : Volume) (old : Sides) (calls : List Call) (image : Sides) : Type 0 where
  pub other : bytes_of (other_side side) image ≡ bytes_of (other_side side) old
  pub reads : (bytes_of side image ≡ bytes_of side old)
      ⊎ ((read_side (bytes_of side image) ≡ IsClosed) ⊎ (IsIssued arm (first_gate side) calls × (read_side (bytes_of side image) ≡ IsOpen volume)))
