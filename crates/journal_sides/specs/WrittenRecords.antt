-- Records, and what stands on a side, as calls that write make them.
use Rattle.std.specs.Prelude.{ℕ, List, [], ◌∷◌, ◌++◌, map}
use Rattle.mld_ops.specs.Entry.{EntryValue}
use Rattle.journal_sides.specs.Heads.{HeadValue}
use Rattle.journal_sides.specs.RecordBytes.{RecordValue, EntryRecord}
use Rattle.journal_sides.specs.SideReadings.{Volume}

-- the records of entries
abbrev pub entry_records : List EntryValue → List RecordValue
entry_records entries = map EntryRecord entries

-- a side that has a head of a generation, and entries
abbrev pub volume_of : ℕ → HeadValue → List EntryValue → Volume
volume_of generation head entries = record {
  opening = record { generation = generation; head = head };
  records = entry_records entries;
}

-- a side with one record more
abbrev pub with_record : RecordValue → Volume → Volume
with_record next volume = record { opening = volume.opening; records = volume.records ++ next ∷ [] }
