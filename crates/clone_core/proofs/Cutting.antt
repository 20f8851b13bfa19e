-- Journals that are truncated.
use Rattle.std.proofs.Common.{ℕ, zero, suc, ◌-◌, List, [], ◌∷◌, length, take, drop, refl}
use Rattle.tree_clock.specs.Clock.{IsClock}
use Rattle.mld_ops.specs.declared.tagged.Tagged.{Tagged}
use Rattle.mld_ops.specs.Entry.{EntryValue}
use Rattle.mld_ops.specs.Ready.{last_dot}
use Rattle.suset.specs.SnapshotJoin.{CoversAll}
use Rattle.journal_sides.specs.RecordBytes.{raised_to}
use Rattle.mld_model.specs.Local.{LocalClone, IsLocal, LeadsTo, LocallyTruncates}
use Rattle.mld_model.proofs.TruncatedStands.{truncated_local}
use Rattle.clone_parts.specs.Replays.{AreReadyEntries}
use Rattle.clone_parts.proofs.ReadyLaws.{leads_ready}

-- the first of entries that are ready one after another are, too
ready_front : (count : ℕ) (ticks : List (List ℕ × ℕ)) (entries : List EntryValue) → AreReadyEntries ticks entries → AreReadyEntries ticks (take count entries)
ready_front zero ticks entries ready = tt
ready_front (suc count) ticks [] ready = tt
ready_front (suc count) ticks (entry ∷ entries) ready = (ready.0, ready_front count (raised_to ticks (last_dot entry.range)) entries ready.1)

-- those of a clone's journal
pub front_ready : (clone : LocalClone) (count : ℕ) → IsLocal clone → AreReadyEntries clone.base (take count clone.entries)
front_ready clone count local =
    ready_front count clone.base clone.entries (leads_ready clone.base clone.base clone.base_pairs clone.entries clone.ticks clone.pairs (λ path. refl) local.leads)

-- a clone whose first entries led to this clock and these pairs
module _ (old : LocalClone) (keep : ℕ) (base : List (List ℕ × ℕ)) (pairs : List Tagged)
    (leads : LeadsTo old.base old.base_pairs (take (length old.entries - keep) old.entries) base pairs) where
  abbrev pub cut_clone : LocalClone
  cut_clone = record old { base = base; base_pairs = pairs; entries = drop (length old.entries - keep) old.entries }

  pub cut_truncates : LocallyTruncates old keep cut_clone
  cut_truncates = record { leads = leads; rest = refl }

  pub cut_is_local : IsLocal old → CoversAll base pairs → IsClock old.ticks → IsClock base → IsLocal cut_clone
  cut_is_local local covered ticks_are base_is = truncated_local old cut_clone keep covered ticks_are base_is local cut_truncates

  -- its entries may stand behind its base
  pub rest_ready : IsLocal cut_clone → AreReadyEntries base (drop (length old.entries - keep) old.entries)
  rest_ready local = leads_ready base base pairs (drop (length old.entries - keep) old.entries) old.ticks old.pairs (λ path. refl) local.leads
