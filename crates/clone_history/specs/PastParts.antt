-- Words of private contracts: how far a journal reaches within a clock, which entries are ready one after another, and what they lead to.
use Rattle.std.specs.Prelude.{◌≡◌, ℕ, ◌≤◌, List, [], ◌∷◌, ◌⊎◌, Option, MatchOption}
use Rattle.tree_clock.specs.declared.dots.Dot.{Dot}
use Rattle.tree_clock.specs.declared.dots.Range.{Range}
use Rattle.tree_clock.specs.Clock.{ticks_of, Covers, IsClock, RaisesTo}
use Rattle.tree_clock.specs.Lists.{Has}
use Rattle.mld_ops.specs.declared.tagged.Tagged.{Tagged}
use Rattle.mld_ops.specs.Entry.{EntryValue}
use Rattle.mld_ops.specs.History.{dot_at}
use Rattle.mld_ops.specs.Picking.{HasNone}
use Rattle.mld_ops.specs.Ready.{last_dot, IsKnownEntry, IsReadyEntry}
use Rattle.mld_model.specs.Local.{LeadsTo}
use Rattle.clone_history.specs.KeptMembers.{KeepsThose, IsFirstMember}
use Rattle.clone_history.specs.PastStates.{IsOpenIn}

-- some entry of the list ends at the dot
pub record SomeEndsAt (entries : List EntryValue) (dot : Dot) : Type 0 where
  pub entry : EntryValue
  pub stands : Has entries entry
  pub is : last_dot entry.range ≡ dot

-- the ticks of a path are those of the base, or those at which an entry ends that a clock knows
pub record EndsWithin (clock : List (List ℕ × ℕ)) (entries : List EntryValue) (dot : Dot) : Type 0 where
  pub ends : SomeEndsAt entries dot
  pub known : Covers clock dot

-- the ticks are as far as the base and the entries that a clock knows reach, and no farther
pub record ReachesWithin (clock base : List (List ℕ × ℕ)) (entries : List EntryValue) (ticks : List (List ℕ × ℕ)) : Type 0 where
  pub from : (path : List ℕ) → (ticks_of ticks path ≡ ticks_of base path) ⊎ EndsWithin clock entries (dot_at path (ticks_of ticks path))
  pub over : (path : List ℕ) → ticks_of base path ≤ ticks_of ticks path
  pub each : (entry : EntryValue) → Has entries entry → IsKnownEntry clock entry → Covers ticks (last_dot entry.range)

-- entries each of which is ready, where the clock knows it, once those before it that the clock knows are taken
abbrev pub AreReadyKept : List (List ℕ × ℕ) → List (List ℕ × ℕ) → List EntryValue → Type 0
AreReadyKept clock own [] = Unit {0}
AreReadyKept clock own (entry ∷ entries) =
    (IsKnownEntry clock entry
    → IsReadyEntry own entry × ((next : List (List ℕ × ℕ)) → RaisesTo own next (last_dot entry.range) → AreReadyKept clock next entries))
    × (¬ IsKnownEntry clock entry → AreReadyKept clock own entries)

-- the entries that a clock knows lead from ticks and pairs to these
pub record LeadsWithin (clock : List (List ℕ × ℕ)) (entries : List EntryValue) (ticks : List (List ℕ × ℕ)) (pairs : List Tagged) (after : List (List ℕ × ℕ)) (new : List Tagged) : Type 0 where
  pub kept : List EntryValue
  pub keeps : KeepsThose (IsKnownEntry clock) entries kept
  pub leads : LeadsTo ticks pairs kept after new

-- they lead to these pairs, with some clock
pub record LeadsToPairs (clock : List (List ℕ × ℕ)) (entries : List EntryValue) (base : List (List ℕ × ℕ)) (pairs new : List Tagged) : Type 0 where
  pub after : List (List ℕ × ℕ)
  pub is : IsClock after
  pub leads : LeadsWithin clock entries base pairs after new

-- the range of the first entry that is open in a clock is found, if there is one
abbrev pub FindsOpen : List (List ℕ × ℕ) → List EntryValue → Option Range → Type 0
FindsOpen clock entries found = MatchOption found (HasNone (IsOpenIn clock) entries)
    (λ range. (entry : EntryValue) × IsFirstMember (IsOpenIn clock) entries entry × (range ≡ entry.range))
