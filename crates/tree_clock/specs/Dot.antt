-- Dots and ranges of dots: a path with a tick, and a path with the ticks from a first to a last.
use Rattle.std.specs.Prelude.{◌≡◌, ℕ, ◌≤◌, List, [], ◌∷◌, ◌++◌, ◌⊎◌, codes}
use Rattle.std.specs.Fmt.{decimal}
use Rattle.std.specs.Ordering.{nat_cmp, ordering_then}
use Rattle.std.specs.declared.cmp.Ordering.{Ordering}
use Rattle.tree_clock.specs.declared.dots.Dot.{Dot}
use Rattle.tree_clock.specs.declared.dots.Range.{Range}
use Rattle.tree_clock.specs.Path.{path_text, path_cmp}

-- the text of a dot, as `r01.3`
abbrev pub dot_text : Dot → List ℕ
dot_text dot = path_text dot.path ++ (codes "." ++ decimal dot.tick)

-- the text of a range, as `r01.1-3`
abbrev pub range_text : Range → List ℕ
range_text range = path_text range.path ++ (codes "." ++ decimal range.first) ++ (codes "-" ++ decimal range.last)

-- dots are ordered by path, then by tick
abbrev pub dot_cmp : Dot → Dot → Ordering
dot_cmp a b = ordering_then (path_cmp a.path b.path) (nat_cmp a.tick b.tick)

-- the dot is one of the range
pub record IsIn (range : Range) (dot : Dot) : Type 0 where
  pub path : dot.path ≡ range.path
  pub above : range.first ≤ dot.tick
  pub below : dot.tick ≤ range.last

-- A set of dots is given by a list of ranges, and seen by its members alone.
abbrev pub Knows : List Range → Dot → Type 0
Knows [] dot = ⊥
Knows (range ∷ ranges) dot = IsIn range dot ⊎ Knows ranges dot
