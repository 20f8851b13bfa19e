-- Parts of ascending lists of pairs, as the program goes over them.
use Rattle.std.specs.Prelude.{◌≡◌, ℕ, ◌<◌, ◌≤◌, List, [], ◌∷◌, Bool, ◌⊎◌, ◌↔◌, MatchBool}
use Rattle.std.specs.declared.cmp.Ordering.{Ordering}
use Rattle.std.specs.declared.cmp.Ordering.TheVariants.{Less, Greater}
use Rattle.tree_clock.specs.Lists.{Has, IsAscending}
use Rattle.mld_ops.specs.declared.tagged.Tagged.{Tagged}
use Rattle.mld_ops.specs.Tagged.{tagged_cmp}
use Rattle.mld_ops.specs.Entry.{EntryValue}

-- the entry inserts the pair, at a tick above the first number and up to the second
pub record InsertsWithin (entry : EntryValue) (low high : ℕ) (pair : Tagged) : Type 0 where
  pub at : pair.dot.path ≡ entry.range.path
  pub above : low < pair.dot.tick
  pub within : pair.dot.tick ≤ high
  pub stands : Has entry.inserts (pair.triple, pair.dot.tick)

-- the list has the pair, or it lacks it, as is wanted
abbrev pub IsAsWanted : Bool → List Tagged → Tagged → Type 0
IsAsWanted wanted others pair = MatchBool wanted (Has others pair) (¬ Has others pair)

-- which of two ascending lists begins with the lesser pair; a list that has ended begins with none
abbrev pub first_cmp : List Tagged → List Tagged → Ordering
first_cmp [] right = Greater
first_cmp (pair ∷ left) [] = Less
first_cmp (pair ∷ left) (other ∷ right) = tagged_cmp pair other

-- the least pair of two ascending lists is taken out of them
pub record TakesLeast (left right : List Tagged) (pair : Tagged) (more_left more_right : List Tagged) : Type 0 where
  pub left_ascends : IsAscending tagged_cmp more_left
  pub right_ascends : IsAscending tagged_cmp more_right
  pub below : (other : Tagged) → (Has more_left other ⊎ Has more_right other) → tagged_cmp pair other ≡ Less
  pub members : (other : Tagged) → (Has left other ⊎ Has right other) ↔ ((other ≡ pair) ⊎ Has more_left other ⊎ Has more_right other)
