-- The laws of compacted entries, as statements. None of them speaks of a history.
use Rattle.std.specs.Prelude.{◌≡◌, ℕ, List}
use Rattle.tree_clock.specs.Lists.{Has}
use Rattle.tree_clock.specs.Clock.{ticks_of, Covers, RaisesTo}
use Rattle.mld_ops.specs.declared.tagged.Tagged.{Tagged}
use Rattle.mld_ops.specs.Entry.{EntryValue, IsEntry}
use Rattle.mld_ops.specs.Held.{ranges_of}
use Rattle.mld_ops.specs.Cut.{IsCutOf}
use Rattle.mld_ops.specs.Ready.{last_dot, IsReadyEntry}
use Rattle.op_fusion.specs.Fusion.{AreNeighbours, Fused}
use Rattle.op_fusion.specs.Compacting.{AreCompacted, IsFusedRun, AreFusedRuns}

-- entries that are compacted have compacted ranges
abbrev pub FusedRunsAreCompacted : Type 0
FusedRunsAreCompacted = (entries compacted : List EntryValue) → AreFusedRuns entries compacted → AreCompacted (ranges_of entries) (ranges_of compacted)

-- entries are fused to one entry at most, whatever the grouping: from the left, or by halves
abbrev pub OneFusedRun : Type 0
OneFusedRun = (entries : List EntryValue) (one other : EntryValue) → ((entry : EntryValue) → Has entries entry → IsEntry entry)
    → IsFusedRun entries one → IsFusedRun entries other → one ≡ other

-- what is fused of two entries is an entry
abbrev pub FusedIsEntry : Type 0
FusedIsEntry = (first second fused : EntryValue) → IsEntry first → IsEntry second → AreNeighbours first.range second.range → Fused first second fused
    → IsEntry fused

-- two entries of neighbouring ranges may be taken one after the other: the first is ready by a clock, and the second by that clock
-- raised to the first's last dot
pub record AreReadyInTurn (ticks next : List (List ℕ × ℕ)) (first second : EntryValue) : Type 0 where
  pub one : IsEntry first
  pub two : IsEntry second
  pub near : AreNeighbours first.range second.range
  pub ready : IsReadyEntry ticks first
  pub raises : RaisesTo ticks next (last_dot first.range)
  pub ready_then : IsReadyEntry next second

-- then the fused entry is ready by the clock
abbrev pub FusedIsReady : Type 0
FusedIsReady = (ticks next : List (List ℕ × ℕ)) (first second fused : EntryValue) → AreReadyInTurn ticks next first second → Fused first second fused
    → IsReadyEntry ticks fused

-- the clock that is raised for both is the clock raised for the fused entry
abbrev pub FusedRaisesBoth : Type 0
FusedRaisesBoth = (ticks next after : List (List ℕ × ℕ)) (first second fused : EntryValue) → AreReadyInTurn ticks next first second → Fused first second fused
    → RaisesTo next after (last_dot second.range) → RaisesTo ticks after (last_dot fused.range)

-- and the cut of both, one after the other, is the cut of the fused entry, for any pairs of which the clock has the dots
abbrev pub FusedCutsBoth : Type 0
FusedCutsBoth = (ticks next : List (List ℕ × ℕ)) (first second fused : EntryValue) (old middle new : List Tagged)
    → AreReadyInTurn ticks next first second → Fused first second fused → ((pair : Tagged) → Has old pair → Covers ticks pair.dot)
    → IsCutOf first (ticks_of ticks first.range.path) old middle → IsCutOf second (ticks_of next second.range.path) middle new
    → IsCutOf fused (ticks_of ticks fused.range.path) old new
