-- What a call has to do on the banks of a clone. Where it has nothing, it calls no device, and closes no clone. `left` and `spent` of
-- `MldClone::receive`, `compact` and `truncate` cite it.
use Rattle.std.specs.Prelude.{◌≡◌, ◌≢◌, ◌<◌, ◌-◌, ◌^◌, ℕ, List, None, length}
use Rattle.tree_clock.specs.Limits.{path_limit}
use Rattle.mld_ops.specs.declared.messages.Message.{Message}
use Rattle.mld_ops.specs.declared.messages.Message.TheVariants as message
use Rattle.mld_ops.specs.Entry.{EntryValue}
use Rattle.mld_ops.specs.Messages.{SnapshotValue, snapshot_value}
use Rattle.mld_ops.specs.Ready.{IsReadyEntry}
use Rattle.mld_model.specs.Local.{LocalClone, IsForeign, IsForeignSnapshot, KnowsSnapshot}
use Rattle.clone_core.specs.Banked.{BankedClone}

-- an entry is taken: it isn't foreign, and it is ready, so it isn't known
pub record IsDueEntry (clone : LocalClone) (entry : EntryValue) : Type 0 where
  pub own : ¬ IsForeign clone entry
  pub ready : IsReadyEntry clone.ticks entry

-- who asks by another id is given a leaf: the clone's own has room for a letter more
pub record IsDueAsk (clone : LocalClone) (id : List ℕ) : Type 0 where
  pub other : id ≢ clone.id
  pub room : length clone.path < path_limit

-- a snapshot is merged: it isn't foreign, and has dots which the clone lacks
pub record IsDueSnapshot (clone : LocalClone) (snapshot : SnapshotValue) : Type 0 where
  pub own : ¬ IsForeignSnapshot clone snapshot
  pub lacks : ¬ KnowsSnapshot clone snapshot

-- What a message has a clone make, generations aside: a range is taken, a leaf is given, or a snapshot is merged. By a want, and by a leaf that is given,
-- a clone makes nothing.
abbrev pub HasToMake : LocalClone → Message → Type 0
HasToMake clone (message.Range entry) = IsDueEntry clone entry
HasToMake clone (message.JoinAsk id) = IsDueAsk clone id
HasToMake clone (message.Snapshot snapshot) = IsDueSnapshot clone (snapshot_value snapshot)
HasToMake clone (message.Want clock) = ⊥
HasToMake clone (message.JoinGive give) = ⊥

-- a clone has a swap to do (`Due`), and a generation left for it behind this one
pub record IsDueSwap (Due : Type 0) (generation : ℕ) : Type 0 where
  pub due : Due
  pub left : generation ≢ 2 ^ 64 - 1

-- so it is for a message, where the banks keep this generation; a snapshot is merged by a swap
abbrev pub IsDueAt : ℕ → LocalClone → Message → Type 0
IsDueAt generation clone (message.Snapshot snapshot) = IsDueSwap (HasToMake clone (message.Snapshot snapshot)) generation
IsDueAt generation clone other = HasToMake clone other

abbrev pub IsDueMessage : {B : Type 0} → BankedClone B → Message → Type 0
IsDueMessage clone sent = IsDueAt clone.generation clone.local sent

-- what is due by a message is a swap, behind which there may be appends: it is a snapshot
abbrev pub IsSwapDue : Message → Type 0
IsSwapDue (message.Snapshot snapshot) = Unit {0}
IsSwapDue other = ⊥

-- ---- swaps for which no generation is left

-- an open clone has a swap to do (`Due`), and its generation is the last
pub record IsSpent {B : Type 0} (Due : Type 0) (clone : BankedClone B) : Type 0 where
  pub opened : clone.closed ≡ None
  pub due : Due
  pub last : clone.generation ≡ 2 ^ 64 - 1

-- it would merge the snapshot of a message
abbrev pub IsMessageSpent : {B : Type 0} → BankedClone B → Message → Type 0
IsMessageSpent clone (message.Snapshot snapshot) = IsSpent (IsDueSnapshot clone.local (snapshot_value snapshot)) clone
IsMessageSpent clone other = ⊥
