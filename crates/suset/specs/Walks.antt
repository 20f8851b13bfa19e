-- Two ascending lists of pairs, as the program goes over them side by side.
use Rattle.std.specs.Prelude.{◌≡◌, ℕ, List, [], ◌∷◌, Bool, IsTrue, ◌⊎◌, ◌↔◌}
use Rattle.std.specs.declared.cmp.Ordering.{Ordering}
use Rattle.std.specs.declared.cmp.Ordering.TheVariants.{Less, Greater}
use Rattle.tree_clock.specs.Lists.{Has, IsAscending}
use Rattle.mld_ops.specs.declared.tagged.Tagged.{Tagged}
use Rattle.mld_ops.specs.Tagged.{tagged_cmp}
use Rattle.suset.specs.StateJoin.{StaysInJoin}

-- which of two ascending lists begins with the lesser pair; a list that has ended begins with none
abbrev pub fronts_cmp : List Tagged → List Tagged → Ordering
fronts_cmp [] right = Greater
fronts_cmp (pair ∷ left) [] = Less
fronts_cmp (pair ∷ left) (other ∷ right) = tagged_cmp pair other

-- the rest of a list behind a pair: what else the list has
pub record IsRestBehind (pairs : List Tagged) (pair : Tagged) (rest : List Tagged) : Type 0 where
  pub ascending : IsAscending tagged_cmp rest
  pub part : (other : Tagged) → Has rest other → Has pairs other
  pub whole : (other : Tagged) → Has pairs other → (other ≡ pair) ⊎ Has rest other

-- the pair is the least of two lists, and these are the rests of both behind it
pub record IsLeastOf (left right : List Tagged) (pair : Tagged) (more_left more_right : List Tagged) : Type 0 where
  pub stands : Has left pair ⊎ Has right pair
  pub of_left : IsRestBehind left pair more_left
  pub of_right : IsRestBehind right pair more_right
  pub below : (other : Tagged) → (Has more_left other ⊎ Has more_right other) → tagged_cmp pair other ≡ Less

-- a step of a join: the least pair is told to stay exactly where it stays in the join of what is left
pub record IsJoinStep (own : List (List ℕ × ℕ)) (mine other : List Tagged) (theirs : List (List ℕ × ℕ)) (pair : Tagged) (stays : Bool)
    (more_mine more_other : List Tagged) : Type 0 where
  pub least : IsLeastOf mine other pair more_mine more_other
  pub tells : IsTrue stays ↔ StaysInJoin own mine other theirs pair

-- a step of a change: the least pair is told to be added exactly where it is one of the added pairs
pub record IsAddStep (old adds : List Tagged) (pair : Tagged) (added : Bool) (more_old more_adds : List Tagged) : Type 0 where
  pub least : IsLeastOf old adds pair more_old more_adds
  pub tells : IsTrue added ↔ Has adds pair
