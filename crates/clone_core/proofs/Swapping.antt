-- Clones whose journals are swapped for the compacted ones.
use Rattle.std.proofs.Common.{List, refl}
use Rattle.tree_clock.specs.Lists.{Has}
use Rattle.mld_ops.specs.Entry.{EntryValue, IsEntry}
use Rattle.op_fusion.specs.Compacting.{AreFusedRuns}
use Rattle.mld_model.specs.Local.{LocalClone, IsLocal, LocallyCompacts}
use Rattle.mld_model.proofs.CompactedStands.{compacted_local}
use Rattle.clone_parts.specs.Replays.{AreReadyEntries}
use Rattle.clone_parts.proofs.ReadyLaws.{leads_ready}

module _ (old : LocalClone) (entries : List EntryValue) (local : IsLocal old) (fused : AreFusedRuns old.entries entries)
    (are : (entry : EntryValue) → Has old.entries entry → IsEntry entry) where
  pub compacted_is : LocallyCompacts old (record old { entries = entries })
  compacted_is = record { fused = fused; rest = refl }

  pub compacted_is_local : IsLocal (record old { entries = entries })
  compacted_is_local = compacted_local old (record old { entries = entries }) are local compacted_is

  -- its entries may stand behind its base
  pub compacted_ready : AreReadyEntries old.base entries
  compacted_ready = leads_ready old.base old.base old.base_pairs entries old.ticks old.pairs (λ path. refl) compacted_is_local.leads
