-- What a journal that isn't closed, and banks that keep nothing, have on their device. It is the view and the invariant of `Journal` and `Blank`;
-- the calls that write and those of the crates above have `KeepsNow`, `KeepsJust` and `IsBlankLog`.
use Rattle.std.specs.Prelude.{◌≡◌, ℕ, ◌+◌, ◌^◌, ◌<◌, Option, Some, None}
use Rattle.mld_io.specs.Disk.{Log, bytes_of, other_side, seen, IsSettled}
use Rattle.mld_io.specs.declared.banks.Side.{Side}
use Rattle.journal_sides.specs.Pairs.{Kept, KeepsNone, Keeps, read_banks}
use Rattle.journal_sides.specs.SideReadings.{SideReading, IsClosed, IsOpen, IsDamaged, Volume, read_side}
use Rattle.journal_sides.specs.StoredVolumes.{EndsAt, IsVolume}
use Rattle.journal_store.specs.declared.faults.Why.{Why}

-- a journal over banks as contracts see it: the side that counts, its generation, and whether an earlier call closed it, and why
pub record JournalValue (B : Type 0) : Type 0 where
  pub banks : B
  pub side : Side
  pub generation : ℕ
  pub closed : Option Why

-- the other side doesn't count beside this generation
abbrev pub IsBehind : ℕ → SideReading → Type 0
IsBehind generation IsClosed = Unit {0}
IsBehind generation (IsOpen volume) = volume.opening.generation < generation
IsBehind generation (IsDamaged place) = ⊥

-- A side counts that has just these bytes, and a crash now leaves what reads give: the closed gate behind the records stays
-- closed, whatever else was written there before.
pub record Stands (side : Side) (generation stop : ℕ) (log : Log) : Type 0 where
  pub volume : Volume
  pub stored : IsVolume volume
  pub generation_is : volume.opening.generation ≡ generation
  pub ends : EndsAt volume stop (bytes_of side (seen log))
  pub behind : IsBehind generation (read_side (bytes_of (other_side side) (seen log)))
  pub settled : IsSettled log

-- What a journal keeps: there is a place behind its closed gate, and where it isn't closed, over banks that tell their log, its side
-- counts.
pub record IsJournal (now : Option Log) (side : Side) (generation stop : ℕ) (closed : Option Why) : Type 0 where
  pub room : stop + 1 < 2 ^ 64
  pub stands : (log : Log) → now ≡ Some log → closed ≡ None → Stands side generation stop log

-- banks that keep nothing, which a crash now leaves as they are
pub record KeepsNothing (log : Log) : Type 0 where
  pub none : read_banks (seen log) ≡ KeepsNone
  pub settled : IsSettled log

-- so it is over banks that tell their log
abbrev pub IsBlankLog : Option Log → Type 0
IsBlankLog now = (log : Log) → now ≡ Some log → KeepsNothing log

-- banks that keep just this, and a crash now leaves them so
pub record KeepsJust (kept : Kept) (log : Log) : Type 0 where
  pub reads : read_banks (seen log) ≡ Keeps kept
  pub settled : IsSettled log

-- banks that tell their log keep just this
pub record KeepsNow (kept : Kept) (now : Option Log) : Type 0 where
  pub log : Log
  pub now_is : now ≡ Some log
  pub keeps : KeepsJust kept log
