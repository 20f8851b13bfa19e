-- The values that have a spelling in bytes. Each public writer cites it.
use Rattle.std.specs.Prelude.{◌≡◌, ℕ, ◌<◌, ◌≤◌, ◌^◌, List, All, length}
use Rattle.std.specs.List.{AllByRecursion}
use Rattle.std.specs.Str.{IsUtf8}
use Rattle.mld_ops.specs.Entry.{EntryValue, IsEntry}
use Rattle.mld_ops.specs.Messages.{SnapshotValue, GiveValue, MessageValue, CarriesEntry, CarriesWant, CarriesSnapshot, CarriesAsk, CarriesGive}
use Rattle.mld_ops.specs.Tagged.{tagged_cmp, insert_cmp}
use Rattle.mld_ops.specs.declared.tagged.Tagged.{Tagged}
use Rattle.rdf_terms.specs.Grammar.{SpellsTriple, IsTripleWithin}
use Rattle.rdf_terms.specs.Spelling.{triple_text}
use Rattle.rdf_terms.specs.Written.{IsWrittenSo}
use Rattle.rdf_terms.specs.declared.terms.Triple.{Triple}
use Rattle.tree_clock.specs.Clock.{entry_cmp, Covers}
use Rattle.tree_clock.specs.Letters.{IsLetter}
use Rattle.tree_clock.specs.Limits.{path_limit}
use Rattle.tree_clock.specs.Lists.{IsAscending}
use Rattle.tree_clock.specs.declared.dots.Dot.{Dot}
use Rattle.tree_clock.specs.declared.dots.Range.{Range}
use Rattle.op_codec.specs.MessageBytes.{id_size}

-- ---- what a writer asks for: counts and lengths of four bytes

-- a list whose count has four bytes
abbrev pub IsShort : {X : Type 0} → List X → Type 0
IsShort items = length items < 2 ^ 32

-- a triple whose text's length has four bytes
abbrev pub IsShortTriple : Triple → Type 0
IsShortTriple triple = IsShort (triple_text triple)

-- pairs whose count, and whose texts' lengths, have four bytes
pub record AreShortPairs (pairs : List Tagged) : Type 0 where
  pub count : IsShort pairs
  pub texts : All (λ (pair : Tagged). IsShortTriple pair.triple) pairs

-- inserts whose count, and whose texts' lengths, have four bytes
pub record AreShortInserts (inserts : List (Triple × ℕ)) : Type 0 where
  pub count : IsShort inserts
  pub texts : All (λ (insert : Triple × ℕ). IsShortTriple insert.0) inserts

-- an entry of such lists
pub record IsShortEntry (entry : EntryValue) : Type 0 where
  pub time : IsShort entry.time
  pub deletes : AreShortPairs entry.deletes
  pub inserts : AreShortInserts entry.inserts

-- a snapshot of such lists
pub record IsShortSnapshot (snapshot : SnapshotValue) : Type 0 where
  pub ticks : IsShort snapshot.ticks
  pub pairs : AreShortPairs snapshot.pairs

-- a message of such lists
abbrev pub IsShortMessage : MessageValue → Type 0
IsShortMessage (CarriesEntry entry) = IsShortEntry entry
IsShortMessage (CarriesWant ticks) = IsShort ticks
IsShortMessage (CarriesSnapshot snapshot) = IsShortSnapshot snapshot
IsShortMessage (CarriesAsk id) = Unit {0}
IsShortMessage (CarriesGive give) = IsShortSnapshot give.snapshot

-- ---- what is known of values, whatever they are to each other

-- a tick of four bytes
abbrev pub IsTick : ℕ → Type 0
IsTick tick = tick < 2 ^ 32

-- a path: letters, as many as a path may have
pub record IsPath (path : List ℕ) : Type 0 where
  pub letters : All IsLetter path
  pub count : length path ≤ path_limit

-- a dot whose path and tick may be written; its tick may be 0
pub record HasShape (dot : Dot) : Type 0 where
  pub path : IsPath dot.path
  pub tick : IsTick dot.tick

-- the ticks of a path
abbrev pub HaveShape : List ℕ × ℕ → Type 0
HaveShape ticks = HasShape (record { path = ticks.0; tick = ticks.1 })

-- a pair that may be written
pub record HasPairShape (pair : Tagged) : Type 0 where
  pub triple : IsWrittenSo pair.triple
  pub dot : HasShape pair.dot

-- an insert that may be written
pub record HasInsertShape (insert : Triple × ℕ) : Type 0 where
  pub triple : IsWrittenSo insert.0
  pub tick : IsTick insert.1

-- ---- the values that the grammar has

-- a dot: a path and a tick from 1 on
pub record IsDot (dot : Dot) : Type 0 where
  pub path : IsPath dot.path
  pub positive : 1 ≤ dot.tick
  pub tick : IsTick dot.tick

-- a path with its ticks
abbrev pub AreTicks : List ℕ × ℕ → Type 0
AreTicks ticks = IsDot (record { path = ticks.0; tick = ticks.1 })

-- a list of so many items, ascending
pub record IsList {X : Type 0} (IsItem : X → Type 0) (ascends : List X → Type 0) (items : List X) : Type 0 where
  pub count : IsShort items
  pub each : AllByRecursion IsItem items
  pub ascending : ascends items

-- a clock's ticks
abbrev pub IsStoredClock : List (List ℕ × ℕ) → Type 0
IsStoredClock ticks = IsList AreTicks (IsAscending entry_cmp) ticks

-- a triple that its written form spells, within the limits
pub record IsStoredTriple (triple : Triple) : Type 0 where
  pub spelled : SpellsTriple (triple_text triple) triple
  pub within : IsTripleWithin triple
  pub utf8 : IsUtf8 (triple_text triple)
  pub short : IsShortTriple triple

-- a pair
pub record IsPair (pair : Tagged) : Type 0 where
  pub triple : IsStoredTriple pair.triple
  pub dot : IsDot pair.dot

-- a list of pairs
abbrev pub ArePairs : List Tagged → Type 0
ArePairs pairs = IsList IsPair (IsAscending tagged_cmp) pairs

-- an insert
pub record IsInsert (insert : Triple × ℕ) : Type 0 where
  pub triple : IsStoredTriple insert.0
  pub tick : IsTick insert.1

-- a list of inserts
abbrev pub AreStoredInserts : List (Triple × ℕ) → Type 0
AreStoredInserts inserts = IsList IsInsert (IsAscending insert_cmp) inserts

-- a range
pub record IsRange (range : Range) : Type 0 where
  pub path : IsPath range.path
  pub first : IsTick range.first
  pub last : IsTick range.last

-- an entry
pub record IsStoredEntry (entry : EntryValue) : Type 0 where
  pub range : IsRange entry.range
  pub time : IsStoredClock entry.time
  pub deletes : ArePairs entry.deletes
  pub inserts : AreStoredInserts entry.inserts
  pub entry_kept : IsEntry entry

-- a snapshot, whose clock covers its pairs
pub record IsSnapshot (snapshot : SnapshotValue) : Type 0 where
  pub ticks : IsStoredClock snapshot.ticks
  pub pairs : ArePairs snapshot.pairs
  pub covered : AllByRecursion (λ (pair : Tagged). Covers snapshot.ticks pair.dot) snapshot.pairs

-- an id
abbrev pub IsId : List ℕ → Type 0
IsId id = length id ≡ id_size

-- a leaf that is given
pub record IsGive (give : GiveValue) : Type 0 where
  pub id : IsId give.id
  pub path : IsPath give.path
  pub snapshot : IsSnapshot give.snapshot

-- a message
abbrev pub IsMessage : MessageValue → Type 0
IsMessage (CarriesEntry entry) = IsStoredEntry entry
IsMessage (CarriesWant ticks) = IsStoredClock ticks
IsMessage (CarriesSnapshot snapshot) = IsSnapshot snapshot
IsMessage (CarriesAsk id) = IsId id
IsMessage (CarriesGive give) = IsGive give
