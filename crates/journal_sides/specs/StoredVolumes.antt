-- The values that have a spelling on a side, those that a caller may have written, and the bytes of a side that has one.
use Rattle.std.specs.Prelude.{◌≡◌, ◌≢◌, ℕ, ◌<◌, ◌^◌, Bool, List, [], ◌∷◌, ◌++◌, IsTrue, length}
use Rattle.std.specs.Str.{IsUtf8}
use Rattle.text_rules.specs.Domain.{is_domain}
use Rattle.text_rules.specs.Iri.{is_absolute}
use Rattle.mld_ops.specs.Entry.{EntryValue}
use Rattle.mld_ops.specs.Messages.{IsGoodSnapshot}
use Rattle.mld_ops.specs.Ready.{last_dot, IsReadyEntry}
use Rattle.op_codec.specs.Stored.{IsShort, IsShortEntry, IsShortSnapshot, IsId, IsPath, IsList, IsSnapshot, IsStoredEntry}
use Rattle.rdf_terms.specs.Order.{iri_cmp}
use Rattle.tree_clock.specs.Limits.{path_limit}
use Rattle.tree_clock.specs.Lists.{IsAscending}
use Rattle.journal_sides.specs.Format.{open_gate}
use Rattle.journal_sides.specs.Heads.{HeadValue, Opening}
use Rattle.journal_sides.specs.RecordBytes.{RecordValue, EntryRecord, ForkRecord, entries_in, path_after, raised_to, known_after}
use Rattle.journal_sides.specs.SideReadings.{Volume, volume_bytes}

-- ---- what a caller has to see to

-- a head that may be written: the name of a domain, properties in their order, and a base whose pairs are in their order and have
-- dots of its ticks, all lists with counts of four bytes
pub record IsGoodHead (head : HeadValue) : Type 0 where
  pub name : IsTrue (is_domain head.domain)
  pub props_ascend : IsAscending iri_cmp head.properties
  pub props_count : IsShort head.properties
  pub base : IsGoodSnapshot head.base
  pub short : IsShortSnapshot head.base

-- entries that may stand behind these ticks: each is ready and not known once those before it are taken, and has lists with counts of
-- four bytes
abbrev pub AreGoodEntries : List (List ℕ × ℕ) → List EntryValue → Type 0
AreGoodEntries ticks [] = Unit {0}
AreGoodEntries ticks (entry ∷ entries) = IsReadyEntry ticks entry × IsShortEntry entry × AreGoodEntries (raised_to ticks (last_dot entry.range)) entries

-- ---- the values that the grammar of sides has

-- a text of UTF-8 that passes a test
pub record IsText (fits : List ℕ → Bool) (text : List ℕ) : Type 0 where
  pub utf8 : IsUtf8 text
  pub fit : IsTrue (fits text)
  pub short : IsShort text

-- a head
pub record IsStoredHead (head : HeadValue) : Type 0 where
  pub id : IsId head.id
  pub name : IsText is_domain head.domain
  pub props : IsList (IsText is_absolute) (IsAscending iri_cmp) head.properties
  pub path : IsPath head.path
  pub base : IsSnapshot head.base

-- a record behind those before it
abbrev pub IsStoredRecord : HeadValue → List RecordValue → RecordValue → Type 0
IsStoredRecord head records (EntryRecord entry) = IsStoredEntry entry × IsReadyEntry (known_after head.base.ticks (entries_in records)) entry
IsStoredRecord head records ForkRecord = length (path_after head.path records) < path_limit

-- more records behind those before them
abbrev pub AreStoredRecords : HeadValue → List RecordValue → List RecordValue → Type 0
AreStoredRecords head records [] = Unit {0}
AreStoredRecords head records (next ∷ more) = IsStoredRecord head records next × AreStoredRecords head (records ++ next ∷ []) more

-- a head with its generation
pub record IsOpening (opening : Opening) : Type 0 where
  pub generation : opening.generation < 2 ^ 64
  pub head : IsStoredHead opening.head

-- an open side
pub record IsVolume (volume : Volume) : Type 0 where
  pub opening : IsOpening volume.opening
  pub records : AreStoredRecords volume.opening.head [] volume.records

-- ---- the bytes of a side that has one

-- the bytes of a side are those of an open side up to this place, where a closed gate stands; what is behind it means nothing
pub record EndsAt (volume : Volume) (stop : ℕ) (bytes : List ℕ) : Type 0 where
  pub gate : ℕ
  pub shut : gate ≢ open_gate
  pub junk : List ℕ
  pub bytes_are : bytes ≡ volume_bytes volume ++ gate ∷ junk
  pub stop_is : stop ≡ length (volume_bytes volume)

-- a side of which reads give this volume was written so
pub record IsWrittenSide (bytes : List ℕ) (volume : Volume) : Type 0 where
  pub stored : IsVolume volume
  pub stop : ℕ
  pub ends : EndsAt volume stop bytes
