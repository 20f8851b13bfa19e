-- The state of a clone at an earlier clock: whether it can be told, why not, and what it is. `as_of` and `graph_as_of` cite it.
use Rattle.std.specs.Prelude.{◌≡◌, ◌≢◌, ℕ, List, map, ◌↔◌}
use Rattle.tree_clock.specs.declared.dots.Dot.{Dot}
use Rattle.tree_clock.specs.declared.dots.Range.{Range}
use Rattle.tree_clock.specs.Clock.{ticks_of, Covers}
use Rattle.tree_clock.specs.Dot.{Knows}
use Rattle.tree_clock.specs.Lists.{Has}
use Rattle.mld_ops.specs.declared.tagged.Tagged.{Tagged}
use Rattle.mld_ops.specs.Entry.{EntryValue}
use Rattle.mld_ops.specs.History.{dot_at}
use Rattle.mld_ops.specs.Meaning.{IsMeaning}
use Rattle.mld_ops.specs.Picking.{HasNone}
use Rattle.mld_ops.specs.Ready.{last_dot, IsKnownEntry}
use Rattle.mld_model.specs.Local.{LocalClone, LeadsTo}
use Rattle.mld_model.specs.Sound.{IsSound}
use Rattle.mld_model.specs.StandsFor.{LiveAt}
use Rattle.mld_model.specs.World.{World}
use Rattle.clone_history.specs.KeptMembers.{KeepsThose, IsFirstMember}
use Rattle.clone_history.specs.declared.faults.PastFault.{PastFault}
use Rattle.clone_history.specs.declared.faults.PastFault.TheVariants as past

-- ---- clocks

-- each dot of the first clock is one of the second's
abbrev pub IsPartOf : List (List ℕ × ℕ) → List (List ℕ × ℕ) → Type 0
IsPartOf ticks other = (dot : Dot) → Covers ticks dot → Covers other dot

-- the last dot of each path of a clock, by path
abbrev pub last_dots : List (List ℕ × ℕ) → List Dot
last_dots ticks = map (λ (entry : List ℕ × ℕ). dot_at entry.0 entry.1) ticks

-- ---- whether the state at a clock can be told

-- the clone doesn't know the dot
abbrev pub IsUnknownTo : LocalClone → Dot → Type 0
IsUnknownTo clone dot = ¬ Covers clone.ticks dot

-- neither a base nor the range of an entry of a journal ends at the dot
pub record IsSplitAt (base : List (List ℕ × ℕ)) (journal : List EntryValue) (dot : Dot) : Type 0 where
  pub base_apart : ticks_of base dot.path ≢ dot.tick
  pub ranges_apart : (entry : EntryValue) → Has journal entry → last_dot entry.range ≢ dot

-- the last dot of an entry is one of the clock's, and some dot of its time isn't
pub record IsOpenIn (ticks : List (List ℕ × ℕ)) (entry : EntryValue) : Type 0 where
  pub known : IsKnownEntry ticks entry
  pub open_time : ¬ IsPartOf entry.time ticks

-- each dot of the clock is known
abbrev pub KnowsClock : LocalClone → List (List ℕ × ℕ) → Type 0
KnowsClock clone ticks = HasNone (IsUnknownTo clone) (last_dots ticks)

-- the clock ends between the ranges that the clone keeps
abbrev pub EndsBetween : LocalClone → List (List ℕ × ℕ) → Type 0
EndsBetween clone ticks = HasNone (IsSplitAt clone.base clone.entries) (last_dots ticks)

-- the state at a clock can be told: the clock's dots are known, the base is a part of it, it ends between ranges, and the time of each range that
-- it has is a part of it
pub record HasStateAt (clone : LocalClone) (ticks : List (List ℕ × ℕ)) : Type 0 where
  pub known : KnowsClock clone ticks
  pub base : IsPartOf clone.base ticks
  pub between : EndsBetween clone ticks
  pub closed : HasNone (IsOpenIn ticks) clone.entries

-- why it can't: a last dot of the clock isn't known; the base isn't a part of the clock; a range is split, at a last dot of the clock; or the time
-- of a range that the clock has isn't a part of it. Of each the first case is told, by path or in the order of the journal, and none of those before
-- it is there. Or the clone is closed, of which the call says more, or memory ran out
abbrev pub RefusesPast : LocalClone → List (List ℕ × ℕ) → PastFault → Type 0
RefusesPast clone ticks (past.Closed why) = Unit {0}
RefusesPast clone ticks (past.Unknown dot) = IsFirstMember (IsUnknownTo clone) (last_dots ticks) dot
RefusesPast clone ticks past.BehindBase = KnowsClock clone ticks × ¬ IsPartOf clone.base ticks
RefusesPast clone ticks (past.Split dot) =
    KnowsClock clone ticks × IsPartOf clone.base ticks × IsFirstMember (IsSplitAt clone.base clone.entries) (last_dots ticks) dot
RefusesPast clone ticks (past.NotClosed range) =
    KnowsClock clone ticks × IsPartOf clone.base ticks × EndsBetween clone ticks
    × (entry : EntryValue) × IsFirstMember (IsOpenIn ticks) clone.entries entry × (range ≡ entry.range)
RefusesPast clone ticks past.NoMemory = Unit {0}

-- ---- the state

-- the pairs at a clock: the entries whose last dot is one of the clock's, taken in order from the base on, lead to the clock and to these
pub record IsStateAt (clone : LocalClone) (ticks : List (List ℕ × ℕ)) (pairs : List Tagged) : Type 0 where
  pub entries : List EntryValue
  pub kept : KeepsThose (IsKnownEntry ticks) clone.entries entries
  pub leads : LeadsTo clone.base clone.base_pairs entries ticks pairs

-- for a clone of a sound world they are what the dots of the clock mean
abbrev pub MeansAsDots : LocalClone → List (List ℕ × ℕ) → List Tagged → Type 0
MeansAsDots clone ticks pairs = (world : World) (number : ℕ) (dots : List Range) → IsSound world → LiveAt world number clone
    → ((dot : Dot) → Covers ticks dot ↔ Knows dots dot) → IsMeaning world.history dots pairs
