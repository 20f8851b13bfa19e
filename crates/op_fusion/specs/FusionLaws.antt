-- The laws of fused entries and of cuts, as statements.
use Rattle.std.specs.Prelude.{◌≡◌, ℕ, ◌≤◌, List, [], ◌∷◌, ◌++◌, ◌↔◌}
use Rattle.tree_clock.specs.declared.dots.Dot.{Dot}
use Rattle.tree_clock.specs.declared.dots.Range.{Range}
use Rattle.tree_clock.specs.Lists.{Has}
use Rattle.tree_clock.specs.Dot.{Knows}
use Rattle.tree_clock.specs.Clock.{ticks_of, Covers, IsClock}
use Rattle.mld_ops.specs.declared.tagged.Tagged.{Tagged}
use Rattle.mld_ops.specs.Entry.{EntryValue}
use Rattle.mld_ops.specs.History.{Operation, IsDone, IsClosed, IsLawful}
use Rattle.mld_ops.specs.Meaning.{IsMeaning}
use Rattle.mld_ops.specs.Net.{IsNet}
use Rattle.mld_ops.specs.Cut.{IsCutOf}
use Rattle.mld_ops.specs.Ready.{last_dot, IsReadyEntry}
use Rattle.op_fusion.specs.Fusion.{AreNeighbours, joined, Fused}
use Rattle.mld_ops.specs.Applies.{Applies}
use Rattle.op_fusion.specs.Cutting.{AreCuts, AreCutsBehind}

-- two entries have one fused entry at most
abbrev pub OneFused : Type 0
OneFused = (first second one other : EntryValue) → Fused first second one → Fused first second other → one ≡ other

-- the fused entry of the net effects of two ranges, which may overlap, is the net effect of the range of both
abbrev pub FusedNetsAreNet : Type 0
FusedNetsAreNet = (history : List Operation) (left right : Range) (first second fused : EntryValue)
    → IsLawful history → AreNeighbours left right → IsDone history (last_dot right)
    → IsNet history left first → IsNet history right second → Fused first second fused
    → IsNet history (joined left right) fused

-- and its time is the second's
abbrev pub FusedTimeIsSecond : Type 0
FusedTimeIsSecond = (history : List Operation) (left right : Range) (first second fused : EntryValue)
    → IsLawful history → AreNeighbours left right → IsDone history (last_dot right)
    → IsNet history left first → IsNet history right second → Fused first second fused
    → IsClock second.time → fused.time ≡ second.time

-- what an entry is that may be taken by one who knows a closed set of dots, and has the clock of these dots: the net effect of a range
-- with an end that was done, ready by the clock
pub record MayTake (history : List Operation) (known : List Range) (ticks : List (List ℕ × ℕ)) (range : Range) (entry : EntryValue) : Type 0 where
  pub lawful : IsLawful history
  pub closed : IsClosed history known
  pub alike : (dot : Dot) → Covers ticks dot ↔ Knows known dot
  pub first : 1 ≤ range.first
  pub last : range.first ≤ range.last
  pub done : IsDone history (last_dot range)
  pub net : IsNet history range entry
  pub ready : IsReadyEntry ticks entry

-- the known dots with those of the range are closed
abbrev pub TakenIsClosed : Type 0
TakenIsClosed = (history : List Operation) (known : List Range) (ticks : List (List ℕ × ℕ)) (range : Range) (entry : EntryValue)
    → MayTake history known ticks range entry → IsClosed history (known ++ range ∷ [])

-- and the cut of the meaning is the meaning of these dots
abbrev pub TakenIsMeaning : Type 0
TakenIsMeaning = (history : List Operation) (known : List Range) (ticks : List (List ℕ × ℕ)) (range : Range) (entry : EntryValue) (old new : List Tagged)
    → MayTake history known ticks range entry → IsMeaning history known old → IsCutOf entry (ticks_of ticks range.path) old new
    → IsMeaning history (known ++ range ∷ []) new

-- a cut drops present pairs alone
abbrev pub CutDropsPresent : Type 0
CutDropsPresent = (entry : EntryValue) (known : ℕ) (state drops adds : List Tagged) (pair : Tagged)
    → AreCuts entry known state drops adds → Has drops pair → Has state pair

-- pairs to which the drops and the adds are applied are the cut of the pairs
abbrev pub CutIsApplied : Type 0
CutIsApplied = (entry : EntryValue) (known : ℕ) (old drops adds new : List Tagged)
    → AreCuts entry known old drops adds → Applies drops adds old new → IsCutOf entry known old new

-- and so where the entry comes behind an earlier change: what both as one leave of the pairs is the cut of what the earlier one leaves
abbrev pub CutBehindIsApplied : Type 0
CutBehindIsApplied = (entry : EntryValue) (known : ℕ) (state drops adds middle more_drops more_adds new : List Tagged)
    → AreCutsBehind entry known state drops adds more_drops more_adds → Applies drops adds state middle → Applies more_drops more_adds state new
    → IsCutOf entry known middle new
