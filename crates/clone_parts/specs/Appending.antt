-- Appends to the journal on a clone's banks, and heads of which one is made. `append_entries`, `append_fork`, `create`, `swap_kept` and
-- `swap_and_append` cite it.
use Rattle.std.specs.Prelude.{◌≡◌, List, ◌++◌, Option, None, Some, IsTrue}
use Rattle.text_rules.specs.Domain.{is_domain}
use Rattle.mld_io.specs.Disk.{Log}
use Rattle.mld_ops.specs.Entry.{EntryValue}
use Rattle.mld_ops.specs.Messages.{IsGoodSnapshot}
use Rattle.op_codec.specs.Stored.{IsShort, IsShortSnapshot}
use Rattle.rdf_terms.specs.Order.{iri_cmp}
use Rattle.tree_clock.specs.Lists.{IsAscending}
use Rattle.journal_store.specs.journal_sides.Heads.{HeadValue}
use Rattle.journal_store.specs.journal_sides.Pairs.{Kept}
use Rattle.journal_store.specs.journal_sides.RecordBytes.{known_after}
use Rattle.journal_store.specs.Calls.{MayFork}
use Rattle.journal_store.specs.Standing.{JournalValue, KeepsJust}
use Rattle.clone_parts.specs.Replays.{AreReadyEntries}

-- what is kept once entries are appended
abbrev pub with_entries : List EntryValue → Kept → Kept
with_entries entries kept = record kept { entries = kept.entries ++ entries }

-- a journal is open, and its banks keep something where they tell their log
pub record KeepsSome {B : Type 0} (log : B → Option Log) (journal : JournalValue B) : Type 0 where
  pub opened : journal.closed ≡ None
  pub kept : Kept
  pub keeps : (l : Log) → log journal.banks ≡ Some l → KeepsJust kept l

-- the entries may stand behind those that an open journal keeps
pub record MayAppendAll {B : Type 0} (log : B → Option Log) (journal : JournalValue B) (entries : List EntryValue) : Type 0 where
  pub some : KeepsSome log journal
  pub ready : AreReadyEntries (known_after some.kept.head.base.ticks some.kept.entries) entries

-- the path that an open journal keeps has room for a letter more
pub record MayForkNow {B : Type 0} (log : B → Option Log) (journal : JournalValue B) : Type 0 where
  pub some : KeepsSome log journal
  pub room : MayFork some.kept

-- a head may be written where its lists and texts are short: its domain is one, its properties ascend and its base is good
pub record IsHeadInOrder (head : HeadValue) : Type 0 where
  pub name : IsTrue (is_domain head.domain)
  pub ascending : IsAscending iri_cmp head.properties
  pub base : IsGoodSnapshot head.base

-- a head's lists have counts of four bytes, and so have its texts' lengths
pub record AreShortParts (head : HeadValue) : Type 0 where
  pub props : IsShort head.properties
  pub base : IsShortSnapshot head.base
