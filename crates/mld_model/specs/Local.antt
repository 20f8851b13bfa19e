-- One clone alone: what it has of its own, without the history, and its steps.
-- The calls of a clone cite it, as `MldClone::genesis`, `MldClone::compact` and `Asker::receive`.
use Rattle.std.specs.Prelude.{◌≡◌, ℕ, ◌+◌, ◌-◌, ◌<◌, ◌≤◌, List, [], ◌∷◌, ◌++◌, ◌⊎◌, IsTrue, length, take, drop}
use Rattle.text_rules.specs.Domain.{is_domain}
use Rattle.rdf_terms.specs.Order.{iri_cmp}
use Rattle.tree_clock.specs.Limits.{path_limit}
use Rattle.tree_clock.specs.Path.{zero_letter, one_letter}
use Rattle.tree_clock.specs.declared.dots.Dot.{Dot}
use Rattle.tree_clock.specs.declared.dots.Range.{Range}
use Rattle.tree_clock.specs.Lists.{Has, IsAscending}
use Rattle.tree_clock.specs.Clock.{ticks_of, Covers, IsClock, RaisesTo}
use Rattle.mld_ops.specs.declared.tagged.Tagged.{Tagged}
use Rattle.mld_ops.specs.Tagged.{tagged_cmp}
use Rattle.mld_ops.specs.Entry.{EntryValue}
use Rattle.mld_ops.specs.Messages.{SnapshotValue, GiveValue}
use Rattle.mld_ops.specs.Effects.{EffectValue, IsInOrder, IsAfterEffect, effect_entry}
use Rattle.mld_ops.specs.History.{dot_at}
use Rattle.mld_ops.specs.Picking.{HasNone, DropsThose, TakesFirst}
use Rattle.mld_ops.specs.Ready.{last_dot, IsKnownEntry, IsReadyEntry}
use Rattle.mld_ops.specs.Cut.{IsCutOf}
use Rattle.mld_ops.specs.Held.{held_limit, ranges_of}
use Rattle.op_fusion.specs.Compacting.{AreFusedRuns}
use Rattle.suset.specs.SnapshotJoin.{IsJoinedWith}

-- a clone alone: its id, domain, single-valued properties and path; the clock and the pairs of its base; the entries of its
-- journal; and those that it holds back, in order of arrival. Its own clock and pairs follow from these (`IsLocal`)
pub record LocalClone : Type 0 where
  pub id : List ℕ
  pub domain : List ℕ
  pub properties : List (List ℕ)
  pub path : List ℕ
  pub base : List (List ℕ × ℕ)
  pub base_pairs : List Tagged
  pub entries : List EntryValue
  pub held : List EntryValue
  pub ticks : List (List ℕ × ℕ)
  pub pairs : List Tagged

-- what a clone's device has of it: its path, the clock and the pairs of its base, and the entries of its journal
pub record LocalStored : Type 0 where
  pub path : List ℕ
  pub base : List (List ℕ × ℕ)
  pub base_pairs : List Tagged
  pub entries : List EntryValue

-- the part of a clone that its device has
abbrev pub stored_of : LocalClone → LocalStored
stored_of clone = record { path = clone.path; base = clone.base; base_pairs = clone.base_pairs; entries = clone.entries }

-- what a clone knows and has
abbrev pub snapshot_of : LocalClone → SnapshotValue
snapshot_of clone = record { ticks = clone.ticks; pairs = clone.pairs }

-- the domain's name is one, and the single-valued properties ascend as terms, each once
pub record IsNamed (domain : List ℕ) (properties : List (List ℕ)) : Type 0 where
  pub name : IsTrue (is_domain domain)
  pub ascending : IsAscending iri_cmp properties

-- one who asks for a leaf: its id, its domain and its single-valued properties
pub record LocalAsker : Type 0 where
  pub id : List ℕ
  pub domain : List ℕ
  pub properties : List (List ℕ)

-- taking entries in order leads from a clock and pairs to others: each entry is ready, the clock is raised to its last dot, and
-- the pairs are those that the entry leaves
abbrev pub LeadsTo : List (List ℕ × ℕ) → List Tagged → List EntryValue → List (List ℕ × ℕ) → List Tagged → Type 0
LeadsTo ticks pairs [] after new = (after ≡ ticks) × (new ≡ pairs)
LeadsTo ticks pairs (entry ∷ entries) after new =
    (next : List (List ℕ × ℕ)) × (middle : List Tagged) × IsReadyEntry ticks entry × RaisesTo ticks next (last_dot entry.range)
    × IsCutOf entry (ticks_of ticks entry.range.path) pairs middle × LeadsTo next middle entries after new

-- a clone's domain and properties are ones that it may have, its clock and pairs are what its journal leads to from its base, and
-- the clocks have the dots of the pairs
pub record IsLocal (clone : LocalClone) : Type 0 where
  pub named : IsNamed clone.domain clone.properties
  pub base : IsClock clone.base
  pub base_pairs : IsAscending tagged_cmp clone.base_pairs
  pub base_covered : (pair : Tagged) → Has clone.base_pairs pair → Covers clone.base pair.dot
  pub leads : LeadsTo clone.base clone.base_pairs clone.entries clone.ticks clone.pairs
  pub covered : (pair : Tagged) → Has clone.pairs pair → Covers clone.ticks pair.dot
  pub held : length clone.held ≤ held_limit

-- a clone with this path that knows nothing
abbrev pub blank_clone : List ℕ → List ℕ → List (List ℕ) → List ℕ → LocalClone
blank_clone id domain properties path = record {
  id = id;
  domain = domain;
  properties = properties;
  path = path;
  base = [];
  base_pairs = [];
  entries = [];
  held = [];
  ticks = [];
  pairs = [];
}

-- what no step but joining, merging and truncating changes: who the clone is, and its base
pub record IsSameClone (old new : LocalClone) : Type 0 where
  pub id : new.id ≡ old.id
  pub domain : new.domain ≡ old.domain
  pub properties : new.properties ≡ old.properties
  pub path : new.path ≡ old.path
  pub base : new.base ≡ old.base
  pub base_pairs : new.base_pairs ≡ old.base_pairs

-- the dot of the clone's next operation
abbrev pub next_dot : LocalClone → Dot
next_dot clone = dot_at clone.path (ticks_of clone.ticks clone.path + 1)

-- the clone makes the operation of an effect, and the entry carries it
pub record LocallyMakes (old : LocalClone) (effect : EffectValue) (new : LocalClone) (entry : EntryValue) : Type 0 where
  pub ordered : IsInOrder effect
  pub same : IsSameClone old new
  pub entries : new.entries ≡ old.entries ++ entry ∷ []
  pub held : new.held ≡ old.held
  pub clock : RaisesTo old.ticks new.ticks (next_dot old)
  pub ascending : IsAscending tagged_cmp new.pairs
  pub pairs : IsAfterEffect effect (next_dot old) old.pairs new.pairs
  pub time : RaisesTo old.ticks entry.time (next_dot old)
  pub carries : entry ≡ effect_entry (next_dot old) entry.time effect

-- of the entries held back, in order of arrival, those that are known are dropped, then the first ready one is taken, and so on
-- until none is ready: the entries taken, the clock then, and what is still held back
abbrev pub LocallyReleases : List (List ℕ × ℕ) → List EntryValue → List EntryValue → List (List ℕ × ℕ) → List EntryValue → Type 0
LocallyReleases ticks held [] after left =
    DropsThose (IsKnownEntry ticks) held left × HasNone (IsReadyEntry ticks) left × (after ≡ ticks)
LocallyReleases ticks held (entry ∷ taken) after left =
    (kept : List EntryValue) × (rest : List EntryValue) × (next : List (List ℕ × ℕ)) × DropsThose (IsKnownEntry ticks) held kept
    × TakesFirst (IsReadyEntry ticks) kept entry rest × RaisesTo ticks next (last_dot entry.range) × LocallyReleases next rest taken after left

-- the clone takes an entry that is ready, and then those held back that this releases
pub record LocallyAccepts (old : LocalClone) (entry : EntryValue) (new : LocalClone) (ranges : List Range) : Type 0 where
  pub same : IsSameClone old new
  pub ready : IsReadyEntry old.ticks entry
  pub taken : List EntryValue
  pub raised : List (List ℕ × ℕ)
  pub clock : RaisesTo old.ticks raised (last_dot entry.range)
  pub releases : LocallyReleases raised old.held taken new.ticks new.held
  pub entries : new.entries ≡ old.entries ++ entry ∷ taken
  pub leads : LeadsTo old.ticks old.pairs (entry ∷ taken) new.ticks new.pairs
  pub told : ranges ≡ ranges_of (entry ∷ taken)

-- the entry is neither known nor ready
pub record MustBeHeld (clone : LocalClone) (entry : EntryValue) : Type 0 where
  pub unknown : ¬ IsKnownEntry clone.ticks entry
  pub unready : ¬ IsReadyEntry clone.ticks entry

-- the clone holds an entry back: one of the same range is held already and nothing changes, or it comes at the end
abbrev pub LocallyHolds : LocalClone → EntryValue → LocalClone → Type 0
LocallyHolds old entry new =
    (Has (ranges_of old.held) entry.range × (new ≡ old))
    ⊎ (¬ Has (ranges_of old.held) entry.range × (length old.held < held_limit) × (new ≡ record old { held = old.held ++ entry ∷ [] }))

-- too many others are held
pub record IsFullFor (clone : LocalClone) (entry : EntryValue) : Type 0 where
  pub lacks : ¬ Has (ranges_of clone.held) entry.range
  pub full : held_limit ≤ length clone.held

-- an entry is of the clone's own path, and its last tick is above the clone's own: another one has used its leaf
pub record IsForeign (clone : LocalClone) (entry : EntryValue) : Type 0 where
  pub own : entry.range.path ≡ clone.path
  pub beyond : ticks_of clone.ticks clone.path < entry.range.last

-- the clone forks its leaf for the one of the id: it keeps the left half, and gives the right one with what it knows and has
pub record LocallyForks (old : LocalClone) (id : List ℕ) (new : LocalClone) (give : GiveValue) : Type 0 where
  pub room : length old.path < path_limit
  pub left : new ≡ record old { path = old.path ++ zero_letter ∷ [] }
  pub right : give ≡ record { id = id; path = old.path ++ one_letter ∷ []; snapshot = snapshot_of old }

-- the clone compacts its journal: its entries are those fused of the runs, and nothing else changes
pub record LocallyCompacts (old new : LocalClone) : Type 0 where
  pub fused : AreFusedRuns old.entries new.entries
  pub rest : new ≡ record old { entries = new.entries }

-- the clone truncates its journal: so many entries stay at its end, or all where it has fewer; its base is what the others lead to
pub record LocallyTruncates (old : LocalClone) (keep : ℕ) (new : LocalClone) : Type 0 where
  pub leads : LeadsTo old.base old.base_pairs (take (length old.entries - keep) old.entries) new.base new.base_pairs
  pub rest : new ≡ record old { base = new.base; base_pairs = new.base_pairs; entries = drop (length old.entries - keep) old.entries }

-- a snapshot has more ticks of the clone's own path than the clone: another one has used its leaf
abbrev pub IsForeignSnapshot : LocalClone → SnapshotValue → Type 0
IsForeignSnapshot clone snapshot = ticks_of clone.ticks clone.path < ticks_of snapshot.ticks clone.path

-- the clone knows each dot of the snapshot
abbrev pub KnowsSnapshot : LocalClone → SnapshotValue → Type 0
KnowsSnapshot clone snapshot = (dot : Dot) → Covers snapshot.ticks dot → Covers clone.ticks dot

-- who the clone is stays the same
pub record IsSameOne (old new : LocalClone) : Type 0 where
  pub id : new.id ≡ old.id
  pub domain : new.domain ≡ old.domain
  pub properties : new.properties ≡ old.properties
  pub path : new.path ≡ old.path

-- the clone merges a snapshot that has dots which it lacks: its base is what both know and have; then it takes those entries held back
-- that this releases, and its journal is these
pub record LocallyMerges (old : LocalClone) (snapshot : SnapshotValue) (new : LocalClone) (ranges : List Range) : Type 0 where
  pub lacks : ¬ KnowsSnapshot old snapshot
  pub same : IsSameOne old new
  pub clock : IsClock new.base
  pub joined : IsJoinedWith old.ticks old.pairs snapshot new.base new.base_pairs
  pub releases : LocallyReleases new.base old.held new.entries new.ticks new.held
  pub leads : LeadsTo new.base new.base_pairs new.entries new.ticks new.pairs
  pub told : ranges ≡ ranges_of new.entries

-- the clone answers who knows these ticks, and lacks a dot of its base: by a snapshot of all that it knows and has
pub record LocallyAnswersBehind (clone : LocalClone) (ticks : List (List ℕ × ℕ)) (snapshot : SnapshotValue) : Type 0 where
  pub behind : ¬ ((dot : Dot) → Covers clone.base dot → Covers ticks dot)
  pub whole : snapshot ≡ snapshot_of clone

-- the clone answers who knows these ticks, among them all dots of its base: by the entries of its journal that aren't known by them
pub record LocallyAnswersWant (clone : LocalClone) (ticks : List (List ℕ × ℕ)) (entries : List EntryValue) : Type 0 where
  pub base : (dot : Dot) → Covers clone.base dot → Covers ticks dot
  pub unknown : DropsThose (IsKnownEntry ticks) clone.entries entries

-- the clone of one who asked and took a leaf: its base is what the snapshot has, it has no journal, and it holds nothing back
abbrev pub joined_clone : LocalAsker → GiveValue → LocalClone
joined_clone asker give = record {
  id = asker.id;
  domain = asker.domain;
  properties = asker.properties;
  path = give.path;
  base = give.snapshot.ticks;
  base_pairs = give.snapshot.pairs;
  entries = [];
  held = [];
  ticks = give.snapshot.ticks;
  pairs = give.snapshot.pairs;
}
