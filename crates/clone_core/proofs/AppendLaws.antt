-- Laws of what banks keep of a clone whose journal is appended to or swapped.
use Rattle.std.proofs.Common.{◌≡◌, ◌∙◌, ℕ, ◌<◌, List, [], ◌∷◌, ◌++◌, Bool, length, Option, None, Some, refl, sym, subst, inl, inr}
use Rattle.mld_io.specs.Arm.{Meter}
use Rattle.mld_io.specs.Disk.{Log}
use Rattle.mld_ops.specs.Entry.{EntryValue}
use Rattle.mld_model.specs.Local.{LocalClone, IsLocal}
use Rattle.tree_clock.specs.Limits.{path_limit}
use Rattle.tree_clock.specs.Path.{zero_letter}
use Rattle.tree_clock.specs.declared.dots.Dot.{Dot}
use Rattle.op_fusion.proofs.Applied.{applied}
use Rattle.journal_sides.proofs.Ready.{ready_same}
use Rattle.journal_sides.specs.Heads.{HeadValue}
use Rattle.journal_sides.specs.Pairs.{Kept, with_fork}
use Rattle.journal_sides.specs.RecordBytes.{known_after}
use Rattle.journal_store.specs.Calls.{KeptBy, swapped}
use Rattle.journal_store.specs.Closing.{StaysTold, JournalStaysOpen, IsSwapped, LeavesRefused}
use Rattle.journal_store.specs.Standing.{JournalValue, KeepsJust, KeepsNow}
use Rattle.journal_store.specs.declared.faults.Why.{Why}
use Rattle.journal_store.specs.declared.faults.Why.TheVariants as why
use Rattle.clone_parts.specs.Making.{IsNextEntry}
use Rattle.clone_parts.specs.Plans.{IsPlanFrom}
use Rattle.clone_parts.specs.declared.plans.Plan.{Plan}
use Rattle.clone_parts.proofs.MakingLaws.{local_ascends, own_ready}
use Rattle.clone_parts.proofs.ReadyLaws.{SameTicks, known_leads, leads_ready}
use Rattle.clone_parts.specs.Appending.{KeepsSome, MayAppendAll, MayForkNow, with_entries}
use Rattle.clone_core.specs.Banked.{head_of, kept_as, IsOnBanks}
use Rattle.clone_parts.proofs.RefusedLaws.{none_some}

pub some_same : {X : Type 0} {x y : X} → ◌≡◌ {A = Option X} (Some x) (Some y) → x ≡ y
some_same e = cc

-- what is known of the banks of a clone with this journal
abbrev pub OnJournal : {B : Type 0} → (B → Option Log) → JournalValue B → LocalClone → Type 0
OnJournal log journal clone = IsOnBanks (log journal.banks) journal.closed journal.side journal.generation clone

-- ---- what may be appended

-- what a clone's banks keep is what it knows
banks_know : (clone : LocalClone) → IsLocal clone → SameTicks clone.ticks (known_after clone.base clone.entries)
banks_know clone local path = sym (known_leads clone.base clone.base clone.base_pairs clone.entries clone.ticks clone.pairs (λ p. refl) local.leads path)

module _ {B : Type 0} (log : B → Option Log) (journal : JournalValue B) (clone : LocalClone) (banks : OnJournal log journal clone) (is_open : journal.closed ≡ None) where
  -- an open clone's banks keep it
  abbrev pub keeps_some : KeepsSome log journal
  keeps_some = record { opened = is_open; kept = kept_as journal.side journal.generation clone; keeps = banks.keeps is_open }

  -- a clone's banks may have the entries of a plan behind what they keep
  pub plan_may : (plan : Plan) → IsLocal clone → IsPlanFrom clone.ticks clone.pairs plan → MayAppendAll log journal plan.entries.items
  plan_may plan local from =
      let new = applied plan.cut.drops.items plan.cut.adds.items clone.pairs (local_ascends clone local) in
      record {
        some = keeps_some;
        ready = leads_ready clone.ticks (known_after clone.base clone.entries) clone.pairs plan.entries.items plan.clock.ticks new.0 (banks_know clone local) (from.leads new.0 new.1);
      }

  -- and the one of its own
  pub own_may : (dot : Dot) (entry : EntryValue) → IsLocal clone → IsNextEntry clone.ticks dot entry → MayAppendAll log journal (entry ∷ [])
  own_may dot entry local next = record {
    some = keeps_some;
    ready = (ready_same clone.ticks (known_after clone.base clone.entries) entry (banks_know clone local) (own_ready clone.ticks dot entry next), tt);
  }

  -- and a fork, where the path has room
  pub fork_may : length clone.path < path_limit → MayForkNow log journal
  fork_may room = record { some = keeps_some; room = room }

-- ---- clones on their banks

-- banks that tell their log told it before
pub told_before : (before now : Option Log) → StaysTold before now → (l : Log) → now ≡ Some l → (was : Log) × (before ≡ Some was)
told_before None now told l is = absurd (none_some (sym (told.untold refl) ∙ is))
told_before (Some was) now told l is = (was, refl)

module _ {B : Type 0} (log : B → Option Log) (was now : JournalValue B) (old : LocalClone) (banks : OnJournal log was old) (is_open : was.closed ≡ None) where
  pub kept_by : (l : Log) → log was.banks ≡ Some l → KeptBy (log was.banks) was.closed (kept_as was.side was.generation old)
  kept_by l is =
      let just = banks.keeps is_open l is in
      record { log = l; now_is = is; opened = is_open; reads = just.reads; settled = just.settled }

  -- a change was done, and made of what the banks kept what they keep of the new clone
  pub changed_on_banks : (change : Kept → Kept) (new : LocalClone) → StaysTold (log was.banks) (log now.banks)
      → ((kept : Kept) → KeptBy (log was.banks) was.closed kept → KeepsNow (change kept) (log now.banks))
      → change (kept_as was.side was.generation old) ≡ kept_as now.side now.generation new → OnJournal log now new
  changed_on_banks change new told keeps same = record {
    keeps = λ open_now l is.
        let before = told_before (log was.banks) (log now.banks) told l is in
        let done = keeps (kept_as was.side was.generation old) (kept_by before.0 before.1) in
        let at : done.log ≡ l = some_same (sym done.now_is ∙ is) in
        subst (λ (k : Kept). KeepsJust k l) same (subst (λ (x : Log). KeepsJust (change (kept_as was.side was.generation old)) x) at done.keeps);
  }

  -- entries were appended
  pub taken_on_banks : (entries : List EntryValue) (new : LocalClone) → StaysTold (log was.banks) (log now.banks)
      → ((kept : Kept) → KeptBy (log was.banks) was.closed kept → KeepsNow (with_entries entries kept) (log now.banks)) → JournalStaysOpen was now
      → head_of new ≡ head_of old → new.entries ≡ old.entries ++ entries → OnJournal log now new
  taken_on_banks entries new told keeps goes head is =
      changed_on_banks (with_entries entries) new told keeps
      (λ i. record { side = sym goes.side i; generation = sym goes.generation i; head = sym head i; entries = sym is i })

  -- a fork was
  pub forked_on_banks : (left : List ℕ) → left ≡ old.path ++ zero_letter ∷ [] → StaysTold (log was.banks) (log now.banks)
      → ((kept : Kept) → KeptBy (log was.banks) was.closed kept → KeepsNow (with_fork kept) (log now.banks)) → JournalStaysOpen was now
      → OnJournal log now (record old { path = left })
  forked_on_banks left is told keeps goes =
      changed_on_banks with_fork (record old { path = left }) told keeps
      (λ i. kept_as (sym goes.side i) (sym goes.generation i) (record old { path = sym is i }))

  -- what they kept was swapped
  pub swapped_on_banks : (meter : B → Meter) (head : HeadValue) (new : LocalClone) → StaysTold (log was.banks) (log now.banks)
      → ((kept : Kept) → KeptBy (log was.banks) was.closed kept → KeepsNow (swapped head new.entries kept) (log now.banks)) → IsSwapped log meter was now
      → head ≡ head_of new → OnJournal log now new
  swapped_on_banks meter head new told keeps turned is =
      changed_on_banks (swapped head new.entries) new told keeps
      (λ i. record { side = sym turned.side i; generation = sym turned.generation i; head = is i; entries = new.entries })

  -- nothing changed, or the clone is closed
  same_on_banks : now ≡ was → OnJournal log now old
  same_on_banks same = subst (λ (j : JournalValue B). OnJournal log j old) (sym same) banks

  shut_on_banks : (reason : Why) → now.closed ≡ Some reason → OnJournal log now old
  shut_on_banks reason shut = record { keeps = λ open_now. absurd (none_some (sym open_now ∙ shut)) }

  -- appends or a swap were refused
  pub refused_on_banks : (meter : B → Meter) (swaps : Bool) (told : Why) → LeavesRefused log meter swaps was now told → OnJournal log now old
  refused_on_banks meter swaps why.Device h = shut_on_banks why.Device h.now
  refused_on_banks meter swaps why.NoMemory (inl same) = same_on_banks same
  refused_on_banks meter swaps why.NoMemory (inr h) = shut_on_banks why.NoMemory h.now
