-- What a mount finds is the clone that the banks keep.
use Rattle.std.proofs.Common.{◌≡◌, ◌∙◌, ℕ, List, Option, None, Some, sym, ap, subst}
use Rattle.mld_io.specs.Disk.{Log, seen, IsSettled}
use Rattle.mld_io.specs.declared.banks.Side.{Side}
use Rattle.mld_ops.specs.Entry.{EntryValue}
use Rattle.journal_sides.specs.Heads.{HeadValue}
use Rattle.journal_sides.specs.Pairs.{Kept, Keeps, read_banks}
use Rattle.journal_store.specs.Mounting.{IsSynced}
use Rattle.journal_store.specs.Calls.{made as made_kept}
use Rattle.journal_store.specs.Closing.{StaysTold, IsMade}
use Rattle.journal_store.specs.Standing.{JournalValue, KeepsJust}
use Rattle.mld_model.specs.Local.{LocalClone}
use Rattle.clone_core.specs.Banked.{kept_as, IsOnBanks}
use Rattle.clone_core.specs.FoundClone.{found_clone}
use Rattle.clone_parts.specs.declared.replays.Replayed.{Replayed}
use Rattle.clone_core.specs.CallParts.{BeginsJournal}
use Rattle.clone_core.proofs.AppendLaws.{some_same, told_before}

-- what was found, as what banks keep of the clone
pub found_kept : (side : Side) (generation : ℕ) (head : HeadValue) (entries : List EntryValue) (path : List ℕ) (replayed : Replayed) → path ≡ head.path → replayed.entries.items ≡ entries
    → ◌≡◌ {A = Kept} (record { side = side; generation = generation; head = head; entries = entries }) (kept_as side generation (found_clone head path replayed))
found_kept side generation head entries path replayed at are = λ i. record {
  side = side;
  generation = generation;
  head = record { id = head.id; domain = head.domain; properties = head.properties; path = sym at i; base = head.base };
  entries = sym are i;
}

-- the banks of a journal that was found keep the clone
pub mounted_on_banks : (before now : Option Log) (side : Side) (generation : ℕ) (clone : LocalClone) (kept : Kept)
    → ((l : Log) → before ≡ Some l → read_banks (seen l) ≡ Keeps kept)
    → ((l : Log) → before ≡ Some l → IsSynced (Unit {0}) l now)
    → StaysTold before now → kept ≡ kept_as side generation clone → IsOnBanks now None side generation clone
mounted_on_banks before now side generation clone kept tells synced told same = record {
  keeps = λ is_open log is.
      let was = told_before before now told log is in
      let s = synced was.0 was.1 in
      let at : s.log ≡ log = some_same (sym s.now_is ∙ is) in
      record {
        reads = ap (λ (x : Log). read_banks (seen x)) (sym at) ∙ (ap read_banks s.same ∙ (tells was.0 was.1 ∙ ap Keeps same));
        settled = subst (λ (x : Log). IsSettled x) at (s.settled tt);
      };
}

-- a journal that was just made of a head
pub begins_made : {B : Type 0} (log : B → Option Log) (head : HeadValue) (blank : B) (journal : JournalValue B) → IsMade log head blank journal → StaysTold (log blank) (log journal.banks)
    → BeginsJournal head journal (log journal.banks)
begins_made log head blank journal made told = record {
  opened = made.opened;
  side = made.side;
  generation = made.generation;
  keeps = λ l is.
      let was = told_before (log blank) (log journal.banks) told l is in
      let kept = made.kept was.0 was.1 in
      let at : kept.log ≡ l = some_same (sym kept.now_is ∙ is) in
      subst (λ (x : Log). KeepsJust (made_kept head) x) at kept.keeps;
}
