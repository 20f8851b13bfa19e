-- Merging a snapshot: what becomes of it. `MldClone::receive` cites it for a snapshot.
use Rattle.std.specs.Prelude.{◌≡◌}
use Rattle.tree_clock.specs.Clock.{ticks_of}
use Rattle.mld_ops.specs.Messages.{SnapshotValue}
use Rattle.mld_model.specs.Local.{LocalClone, LocallyMerges, IsForeignSnapshot, KnowsSnapshot}
use Rattle.clone_core.specs.Banked.{BankedClone}
use Rattle.clone_core.specs.CloneClosing.{StaysOpen, IsSwappedOpen}
use Rattle.clone_core.specs.Due.{IsDueSnapshot}
use Rattle.clone_parts.specs.declared.answers.Got.{Got}
use Rattle.clone_parts.specs.declared.answers.Got.TheVariants as got
use Rattle.clone_parts.specs.declared.faults.ReceiveFault.{ReceiveFault}
use Rattle.clone_parts.specs.declared.faults.ReceiveFault.TheVariants as fault

-- what became of a snapshot: all its dots were known, or it was merged, and the ranges that this released are told
abbrev pub ReceivesSnapshot : LocalClone → SnapshotValue → Got → LocalClone → Type 0
ReceivesSnapshot old snapshot got.Known new = KnowsSnapshot old snapshot × (new ≡ old)
ReceivesSnapshot old snapshot (got.Merged ranges) new = LocallyMerges old snapshot new ranges
ReceivesSnapshot old snapshot other new = ⊥

-- why a snapshot was refused: it is foreign, and the fault names its ticks of the clone's path and the clone's own; or it would be merged
-- and no generation is left; or the clone is closed, the device failed, or memory ran out, of which the clone says more
abbrev pub RefusesSnapshot : LocalClone → SnapshotValue → ReceiveFault → Type 0
RefusesSnapshot old snapshot (fault.ForeignTick said own) =
    IsForeignSnapshot old snapshot × (said ≡ ticks_of snapshot.ticks old.path) × (own ≡ ticks_of old.ticks old.path)
RefusesSnapshot old snapshot fault.HeldFull = ⊥
RefusesSnapshot old snapshot fault.Deep = ⊥
RefusesSnapshot old snapshot fault.GenerationsSpent = IsDueSnapshot old snapshot
RefusesSnapshot old snapshot (fault.Closed why) = Unit {0}
RefusesSnapshot old snapshot fault.Device = Unit {0}
RefusesSnapshot old snapshot fault.NoMemory = Unit {0}

-- a clone that received a message stays open, with its generation, or with the next one where it merged
abbrev pub StaysOpenBy : {B : Type 0} → BankedClone B → BankedClone B → Got → Type 0
StaysOpenBy old new (got.Merged ranges) = IsSwappedOpen old new
StaysOpenBy old new other = StaysOpen old new
