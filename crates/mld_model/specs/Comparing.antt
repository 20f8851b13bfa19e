-- How two compare that may each be within the other, as sets of dots and clocks are; a reply says it. `MldClone::compare` cites it.
use Rattle.std.specs.Prelude.{ℕ, List}
use Rattle.tree_clock.specs.declared.dots.Dot.{Dot}
use Rattle.tree_clock.specs.Clock.{Covers}
use Rattle.mld_model.specs.Reply.{Reply, Same, Less, More, Apart}

-- the reply says whether the first is within the second, and whether the second is within the first
abbrev pub ComparesBy : Type 0 → Type 0 → Reply → Type 0
ComparesBy Within Back Same = Within × Back
ComparesBy Within Back Less = Within × ¬ Back
ComparesBy Within Back More = ¬ Within × Back
ComparesBy Within Back Apart = ¬ Within × ¬ Back
ComparesBy Within Back other = ⊥

-- the dots of the first clock are all among the second's
abbrev pub IsAmongDots : List (List ℕ × ℕ) → List (List ℕ × ℕ) → Type 0
IsAmongDots ticks other = (dot : Dot) → Covers ticks dot → Covers other dot

-- how the dots of two clocks compare
abbrev pub ClocksCompare : List (List ℕ × ℕ) → List (List ℕ × ℕ) → Reply → Type 0
ClocksCompare ticks other reply = ComparesBy (IsAmongDots ticks other) (IsAmongDots other ticks) reply
