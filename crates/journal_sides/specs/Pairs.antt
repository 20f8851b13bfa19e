-- What both sides say: nothing is kept, one of them is damaged, or the open one of the greater generation counts.
use Rattle.std.specs.Prelude.{ℕ, ◌==◌, nat_le, List, [], ◌∷◌, ◌++◌, if◌then◌else◌}
use Rattle.mld_io.specs.Disk.{Sides}
use Rattle.mld_io.specs.declared.banks.Side.{Side}
use Rattle.mld_io.specs.declared.banks.Side.TheVariants.{A, B}
use Rattle.mld_ops.specs.Entry.{EntryValue}
use Rattle.tree_clock.specs.Path.{zero_letter}
use Rattle.journal_sides.specs.Format.{generation_place}
use Rattle.journal_sides.specs.Heads.{HeadValue}
use Rattle.journal_sides.specs.RecordBytes.{entries_in, path_after}
use Rattle.journal_sides.specs.SideReadings.{SideReading, IsClosed, IsOpen, IsDamaged, Volume, read_side}

-- What is kept: the side that counts, its generation, the head, whose path is that of the clone, so it has one letter `0` more for
-- each fork, and the entries, the oldest first. Nothing above `journal_store` speaks of bytes or of records.
pub record Kept : Type 0 where
  pub side : Side
  pub generation : ℕ
  pub head : HeadValue
  pub entries : List EntryValue

pub data PairReading : Type 0 where
  -- neither first gate is open
  KeepsNone : PairReading
  Keeps : Kept → PairReading
  -- an open gate has something else behind it; the place is counted in bytes from the side's begin
  Damages : Side → ℕ → PairReading

-- what an open side keeps
abbrev pub kept_on : Side → Volume → Kept
kept_on side volume = record {
  side = side;
  generation = volume.opening.generation;
  head = record volume.opening.head { path = path_after volume.opening.head.path volume.records };
  entries = entries_in volume.records;
}

-- the greater generation counts; where both are the same, that of side B is a fault
abbrev pub greater_of : Volume → Volume → PairReading
greater_of a b =
    if a.opening.generation == b.opening.generation then Damages B generation_place
    else (if nat_le a.opening.generation b.opening.generation then Keeps (kept_on B b) else Keeps (kept_on A a))

-- what the readings of side A and side B say together; a damaged side is told even where the other one is the greater, and that of
-- side A where both are
abbrev pub pair_of : SideReading → SideReading → PairReading
pair_of (IsDamaged place) b = Damages A place
pair_of IsClosed (IsDamaged place) = Damages B place
pair_of (IsOpen a) (IsDamaged place) = Damages B place
pair_of IsClosed IsClosed = KeepsNone
pair_of IsClosed (IsOpen b) = Keeps (kept_on B b)
pair_of (IsOpen a) IsClosed = Keeps (kept_on A a)
pair_of (IsOpen a) (IsOpen b) = greater_of a b

-- what the bytes of both sides say
unfoldable pub read_banks : Sides → PairReading
read_banks sides = pair_of (read_side sides.a) (read_side sides.b)

-- what is kept once an entry is appended
abbrev pub with_entry : EntryValue → Kept → Kept
with_entry entry kept = record kept { entries = kept.entries ++ entry ∷ [] }

-- what is kept once a fork is appended
abbrev pub with_fork : Kept → Kept
with_fork kept = record kept { head = record kept.head { path = kept.head.path ++ zero_letter ∷ [] } }
