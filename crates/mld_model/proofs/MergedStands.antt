-- A clone that merges a snapshot stands for one of the model that merges its dots.
use Rattle.std.proofs.Common.{◌≡◌, ℕ, ◌≤◌, List, ◌++◌, ◌↔◌, sym, ◌∙◌, subst, length, append-nil}
use Rattle.std.specs.List.{AllZip}
use Rattle.tree_clock.specs.declared.dots.Range.{Range}
use Rattle.mld_ops.specs.Held.{held_limit}
use Rattle.mld_ops.specs.History.{Operation, IsClosed, IsLawful}
use Rattle.mld_ops.specs.Messages.{SnapshotValue}
use Rattle.suset.specs.SnapshotJoin.{CoversAll}
use Rattle.suset.proofs.JoinedWith.{joined_is_state}
use Rattle.suset.specs.JoinLaws.{IsStateOf}
use Rattle.mld_model.specs.Clone.{Stored, known_of, merged_with, AreKnownTo}
use Rattle.mld_model.specs.Sound.{IsSoundClone}
use Rattle.mld_model.specs.Local.{LocalClone, IsNamed, IsLocal, KnowsSnapshot, LocallyMerges}
use Rattle.mld_model.specs.StandsFor.{LocalStandsFor, SnapshotStandsFor}
use Rattle.mld_model.proofs.LocalLaws.{KnowsAs}
use Rattle.mld_model.proofs.MergedLaws.{merged_clone}
use Rattle.mld_model.proofs.ReleasedLaws.{StandsDone, Released, release_stands}

-- a clone and a snapshot that stand for dots of the model
module _ (history : List Operation) (old : LocalClone) (snapshot : SnapshotValue) (stored : Stored) (held dots : List Range)
    (stands : LocalStandsFor history old stored held) (says : SnapshotStandsFor history snapshot dots) where
  -- the clone knows each dot of the snapshot where the model's clone does
  pub knows_alike : KnowsSnapshot old snapshot ↔ AreKnownTo dots (known_of stored)
  knows_alike = (
    λ knows dot h. (stands.known dot).0 (knows dot ((says.known dot).1 h)),
    λ known dot covered. (stands.known dot).1 (known dot ((says.known dot).0 covered)),
  )

  module _ (new : LocalClone) (ranges : List Range) (lawful : IsLawful history) (sound : IsSoundClone history stored) (closed : IsClosed history dots)
      (merges : LocallyMerges old snapshot new ranges) where
    -- the new base is what one has who knows the dots of both
    pub merged_base : KnowsAs history (merged_with stored dots).base new.base new.base_pairs
    merged_base =
        let own : IsStateOf history (known_of stored) old.ticks old.pairs = record { lawful = lawful; closed = sound.closed; covered = stands.known; meaning = stands.pairs } in
        let theirs : IsStateOf history dots snapshot.ticks snapshot.pairs = record { lawful = lawful; closed = closed; covered = says.known; meaning = says.pairs } in
        let both : IsStateOf history (known_of stored ++ dots) new.base new.base_pairs =
        joined_is_state history (known_of stored) dots old.ticks new.base old.pairs new.base_pairs snapshot own theirs merges.joined in
        record { known = both.covered; pairs = both.meaning }

    -- the model's clone releases what the clone alone releases
    pub merged_releases : AllZip (StandsDone history) old.held held → Released history (merged_with stored dots) held new.entries new.held new.ticks new.pairs
    merged_releases all =
        let knows : KnowsAs history (known_of (merged_with stored dots)) new.base new.base_pairs =
        subst (λ (known : List Range). KnowsAs history known new.base new.base_pairs) (sym (append-nil (known_of stored ++ dots))) merged_base in
        release_stands history (merged_with stored dots) held old.held new.entries new.held new.base new.base new.ticks new.base_pairs new.pairs lawful
        (merged_clone history stored dots closed sound) all knows.known knows merges.releases merges.leads

    module _ (released : Released history (merged_with stored dots) held new.entries new.held new.ticks new.pairs) where
      -- the ranges that it tells of are those that the model's clone takes
      pub merged_told : ranges ≡ released.ranges
      merged_told = merges.told ∙ released.told

      -- and it stands for what the model's clone keeps and holds back then
      pub merged_stands : LocalStandsFor history new (record { path = stored.path; base = known_of stored ++ dots; journal = released.ranges }) released.rest
      merged_stands = record {
        kept = record {
          path = merges.same.path ∙ stands.kept.path;
          base = merged_base.known;
          base_pairs = merged_base.pairs;
          entries = released.entries;
        };
        held = released.held_stand;
        known = released.knows.known;
        pairs = released.knows.pairs;
      }

-- a clone is one once it merged, where its clocks have the dots of its pairs and no more is held back than may be
pub merged_local : (old : LocalClone) (snapshot : SnapshotValue) (new : LocalClone) (ranges : List Range) → CoversAll new.base new.base_pairs
    → CoversAll new.ticks new.pairs → length new.held ≤ held_limit → IsLocal old → LocallyMerges old snapshot new ranges → IsLocal new
merged_local old snapshot new ranges base_covered covered few local merges = record {
  named = subst (λ (domain : List ℕ). IsNamed domain new.properties) (sym merges.same.domain)
      (subst (λ (properties : List (List ℕ)). IsNamed old.domain properties) (sym merges.same.properties) local.named);
  base = merges.clock;
  base_pairs = merges.joined.pairs.ascending;
  base_covered = base_covered;
  leads = merges.leads;
  covered = covered;
  held = few;
}
