-- What a clone has that merges a snapshot, and then takes those of the entries held back that this releases. `prepare_merge` cites it.
use Rattle.std.specs.Prelude.{◌≡◌, ℕ, List}
use Rattle.std.specs.List.{AllByRecursion}
use Rattle.tree_clock.specs.Clock.{IsClock}
use Rattle.mld_ops.specs.declared.tagged.Tagged.{Tagged}
use Rattle.mld_ops.specs.Entry.{EntryValue, IsEntry}
use Rattle.mld_ops.specs.Held.{ranges_of}
use Rattle.mld_ops.specs.Messages.{SnapshotValue}
use Rattle.mld_model.specs.Local.{LeadsTo, LocallyReleases}
use Rattle.suset.specs.SnapshotJoin.{CoversAll, IsJoinedWith}
use Rattle.clone_parts.specs.declared.merges.Merge.{Merge}
use Rattle.clone_parts.specs.declared.merges.Released.{Released}
use Rattle.clone_parts.specs.Plans.{left_of}

-- the entries are those that a clock releases of those held back, and lead from it and the pairs to another clock and other pairs, and
-- their ranges are told
pub record IsReleasedFrom (ticks : List (List ℕ × ℕ)) (pairs : List Tagged) (held : List EntryValue) (after : Released) : Type 0 where
  pub are_entries : AllByRecursion IsEntry after.entries.items
  pub releases : LocallyReleases ticks held after.entries.items after.clock.ticks (left_of after.left held)
  pub leads : LeadsTo ticks pairs after.entries.items after.clock.ticks after.pairs.pairs
  pub covered : CoversAll after.clock.ticks after.pairs.pairs
  pub ranges : after.ranges ≡ ranges_of after.entries.items

-- the base is what both sides know and have, and then it releases of those held back
pub record IsMergeOf (ticks : List (List ℕ × ℕ)) (pairs : List Tagged) (held : List EntryValue) (snapshot : SnapshotValue) (merge : Merge) : Type 0 where
  pub clock : IsClock merge.base.ticks
  pub joined : IsJoinedWith ticks pairs snapshot merge.base.ticks merge.base_pairs
  pub base_covered : CoversAll merge.base.ticks merge.base_pairs
  pub released : IsReleasedFrom merge.base.ticks merge.base_pairs held merge.after
