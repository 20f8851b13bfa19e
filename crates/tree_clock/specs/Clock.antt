-- A clock is a finite map from paths to ticks: the list of its paths with their ticks, which are at least 1, by path.
-- It stands for the dots of each path from tick 1 to the path's ticks (version vectors; interval tree clocks).
use Rattle.std.specs.Prelude.{◌≡◌, ℕ, ◌≤◌, List, [], ◌∷◌, if◌then◌else◌, Option, max}
use Rattle.std.specs.Cmp.Lexicographic.{pointwise}
use Rattle.std.specs.Prelude.{nat_eq}
use Rattle.std.specs.List.{AllByRecursion}
use Rattle.std.specs.Option.{option_map}
use Rattle.std.specs.declared.cmp.Ordering.{Ordering}
use Rattle.tree_clock.specs.declared.dots.Dot.{Dot}
use Rattle.tree_clock.specs.Lists.{Has, IsAscending}
use Rattle.tree_clock.specs.Path.{path_cmp}

-- the ticks of a path, 0 where the list lacks it
abbrev pub ticks_of : List (List ℕ × ℕ) → List ℕ → ℕ
ticks_of [] path = 0
ticks_of (entry ∷ entries) path = if pointwise nat_eq entry.0 path then entry.1 else ticks_of entries path

-- the dot is one of the clock's dots
pub record Covers (ticks : List (List ℕ × ℕ)) (dot : Dot) : Type 0 where
  pub positive : 1 ≤ dot.tick
  pub within : dot.tick ≤ ticks_of ticks dot.path

-- entries are ordered by path
abbrev pub entry_cmp : List ℕ × ℕ → List ℕ × ℕ → Ordering
entry_cmp a b = path_cmp a.0 b.0

-- by path, each path once, with at least one tick
pub record IsClock (ticks : List (List ℕ × ℕ)) : Type 0 where
  pub ascending : IsAscending (λ (a b : List ℕ × ℕ). path_cmp a.0 b.0) ticks
  pub positive : AllByRecursion (λ (entry : List ℕ × ℕ). 1 ≤ entry.1) ticks

-- a clock as contracts see it: its ticks, the paths of which it has a node, and its own path, if it has one
pub record ClockValue : Type 0 where
  pub ticks : List (List ℕ × ℕ)
  pub room : List (List ℕ)
  pub own : Option (List ℕ)

-- there is room for the ticks of the path
abbrev pub HasRoom : ClockValue → List ℕ → Type 0
HasRoom clock path = Has clock.room path

-- the new clock has these ticks at the path, and at each other path those of the old one
pub record RaisesTo (old new : List (List ℕ × ℕ)) (dot : Dot) : Type 0 where
  pub at : ticks_of new dot.path ≡ max (ticks_of old dot.path) dot.tick
  pub others : (path : List ℕ) → ¬ (path ≡ dot.path) → ticks_of new path ≡ ticks_of old path

-- the own path with its ticks
abbrev pub own_dot : ClockValue → Option Dot
own_dot clock = option_map (λ path. record { path = path; tick = ticks_of clock.ticks path }) clock.own
