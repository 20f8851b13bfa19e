-- A clone that merges a snapshot, and what a refusal tells.
use Rattle.std.proofs.Common.{◌≡◌, List, [], ◌∷◌, length, refl, sym, ap, subst, arith}
use Rattle.tree_clock.specs.declared.dots.Range.{Range}
use Rattle.mld_ops.specs.Entry.{EntryValue}
use Rattle.mld_ops.specs.Messages.{SnapshotValue}
use Rattle.journal_store.specs.declared.faults.Why.{Why}
use Rattle.journal_store.specs.declared.faults.Why.TheVariants as why
use Rattle.mld_model.specs.Local.{LocalClone, IsLocal, LocallyReleases, LocallyMerges, KnowsSnapshot}
use Rattle.mld_model.proofs.MergedStands.{merged_local}
use Rattle.clone_parts.specs.Merges.{IsMergeOf}
use Rattle.clone_parts.specs.Plans.{left_of}
use Rattle.clone_parts.specs.Replays.{AreReadyEntries}
use Rattle.clone_parts.specs.declared.merges.Merge.{Merge}
use Rattle.clone_parts.proofs.ReadyLaws.{leads_ready}
use Rattle.journal_sides.specs.Heads.{HeadValue}
use Rattle.clone_parts.specs.KeptSteps.{Swapped, appends}
use Rattle.clone_core.specs.Banked.{head_over}
use Rattle.clone_core.specs.DurableCalls.{merged_steps}
use Rattle.clone_parts.specs.CloneFaults.{receive_fault_of}
use Rattle.clone_parts.specs.declared.faults.ReceiveFault.TheVariants as fault
use Rattle.clone_core.proofs.Taking.{releases_shorter}

-- ---- the clone

module _ (old : LocalClone) (snapshot : SnapshotValue) (merge : Merge) (of : IsMergeOf old.ticks old.pairs old.held snapshot merge) where
  -- what is released may stand behind the base
  pub released_ready : AreReadyEntries merge.base.ticks merge.after.entries.items
  released_ready =
      leads_ready merge.base.ticks merge.base.ticks merge.base_pairs merge.after.entries.items merge.after.clock.ticks merge.after.pairs.pairs (λ path. refl) of.released.leads

  module _ (held : List EntryValue) (is : held ≡ left_of merge.after.left old.held) where
    -- the clone then
    abbrev pub merged_clone : LocalClone
    merged_clone = record old {
      base = merge.base.ticks;
      base_pairs = merge.base_pairs;
      entries = merge.after.entries.items;
      held = held;
      ticks = merge.after.clock.ticks;
      pairs = merge.after.pairs.pairs;
    }

    pub clone_merges : ¬ KnowsSnapshot old snapshot → LocallyMerges old snapshot merged_clone merge.after.ranges
    clone_merges lacks = record {
      lacks = lacks;
      same = record { id = refl; domain = refl; properties = refl; path = refl };
      clock = of.clock;
      joined = of.joined;
      releases = subst (λ (left : List EntryValue). LocallyReleases merge.base.ticks old.held merge.after.entries.items merge.after.clock.ticks left) (sym is) of.released.releases;
      leads = of.released.leads;
      told = of.released.ranges;
    }

    pub merged_is_local : IsLocal old → ¬ KnowsSnapshot old snapshot → IsLocal merged_clone
    merged_is_local local lacks =
        let shorter = releases_shorter merge.base.ticks old.held merge.after.entries.items merge.after.clock.ticks (left_of merge.after.left old.held) of.released.releases in
        let few = local.held in
        let same = ap length is in
        merged_local old snapshot merged_clone merge.after.ranges of.base_covered of.released.covered (omega (arith, shorter, few, same)) local (clone_merges lacks)

  -- the step that the clone would make, by a swap and an append for each entry
  pub merged_step : ¬ KnowsSnapshot old snapshot → (head : HeadValue) → head ≡ head_over old merge.base.ticks merge.base_pairs
      → (entries : List EntryValue) → entries ≡ merge.after.entries.items
      → (new : LocalClone) × (ranges : List Range) × LocallyMerges old snapshot new ranges × (Swapped head [] ∷ appends entries ≡ merged_steps new)
  merged_step lacks head head_is entries are = (
    merged_clone (left_of merge.after.left old.held) refl,
    merge.after.ranges,
    clone_merges (left_of merge.after.left old.held) refl lacks,
    λ i. Swapped (head_is i) [] ∷ appends (are i),
  )

-- ---- what a refusal tells

-- it tells nothing of generations
pub never_spent : (told : Why) → ¬ (receive_fault_of told ≡ fault.GenerationsSpent)
never_spent why.Device e = cc
never_spent why.NoMemory e = cc
