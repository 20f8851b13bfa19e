-- Ranges and entries compacted: each run of neighbours is one.
use Rattle.std.specs.Prelude.{◌≡◌, ℕ, ◌+◌, ◌<◌, ◌≤◌, List, [], ◌∷◌, ◌++◌, length, take}
use Rattle.tree_clock.specs.declared.dots.Range.{Range}
use Rattle.mld_ops.specs.Entry.{EntryValue}
use Rattle.mld_ops.specs.Held.{ranges_of}
use Rattle.op_fusion.specs.Fusion.{AreNeighbours, joined, Fused}

-- the ranges behind a first one go on from it, each a neighbour of those before it taken together; and the range of them all
abbrev pub IsRun : Range → List Range → Range → Type 0
IsRun first [] whole = whole ≡ first
IsRun first (next ∷ rest) whole = AreNeighbours first next × IsRun (joined first next) rest whole

-- none goes on from the range: there is none behind it, or the next one is no neighbour
abbrev pub EndsRun : Range → List Range → Type 0
EndsRun whole [] = Unit {0}
EndsRun whole (next ∷ rest) = ¬ AreNeighbours whole next

-- the ranges fall into runs, each as long as it can be, and each run became the range of it
abbrev pub AreCompacted : List Range → List Range → Type 0
AreCompacted ranges [] = ranges ≡ []
AreCompacted ranges (whole ∷ others) =
    (first : Range) × (run : List Range) × (rest : List Range) × (ranges ≡ first ∷ (run ++ rest))
    × IsRun first run whole × EndsRun whole rest × AreCompacted rest others

-- Entries that are fused to one, in any grouping. One entry is fused to itself. Two lists of entries, each fused to one, are fused as one list,
-- if the second begins with a neighbour of what the first is fused to.
pub data IsFusedRun : List EntryValue → EntryValue → Type 0 where
  alone : (entry : EntryValue) → IsFusedRun (entry ∷ []) entry
  both : (left : List EntryValue) (first next : EntryValue) (right : List EntryValue) (second fused : EntryValue) → IsFusedRun left first
      → IsFusedRun (next ∷ right) second → AreNeighbours first.range next.range → Fused first second fused → IsFusedRun (left ++ next ∷ right) fused

-- the entries fall into runs, each as long as it can be, and each run became the entry fused of it
abbrev pub AreFusedRuns : List EntryValue → List EntryValue → Type 0
AreFusedRuns entries [] = entries ≡ []
AreFusedRuns entries (whole ∷ others) =
    (run : List EntryValue) × (rest : List EntryValue) × (entries ≡ run ++ rest) × IsFusedRun run whole × EndsRun whole.range (ranges_of rest)
    × AreFusedRuns rest others

-- some entry and the one right behind it have neighbouring ranges
pub record HasNeighbours (entries : List EntryValue) : Type 0 where
  pub front : List EntryValue
  pub first : EntryValue
  pub second : EntryValue
  pub rest : List EntryValue
  pub stand : entries ≡ front ++ first ∷ second ∷ rest
  pub near : AreNeighbours first.range second.range

-- each entry has a neighbouring range to that of the one right before it
abbrev pub AreInRow : List EntryValue → Type 0
AreInRow [] = Unit {0}
AreInRow (first ∷ []) = Unit {0}
AreInRow (first ∷ next ∷ rest) = AreNeighbours first.range next.range × AreInRow (next ∷ rest)

-- so many entries from the first on are in a row, and no more
pub record IsRunLength (entries : List EntryValue) (count : ℕ) : Type 0 where
  pub some : 1 ≤ count
  pub within : count ≤ length entries
  pub row : AreInRow (take count entries)
  pub longest : count < length entries → ¬ AreInRow (take (count + 1) entries)
