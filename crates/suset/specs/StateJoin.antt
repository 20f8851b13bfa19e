-- The join of two states, each the ticks of a clock with pairs (optimised OR-Set; SU-Set, Ibanez, Skaf-Molli, Molli and Corby
-- 2012). A side whose ticks cover a pair's dot, and that lacks the pair, knows of its delete.
use Rattle.std.specs.Prelude.{ℕ, List, ◌⊎◌, ◌↔◌}
use Rattle.tree_clock.specs.Clock.{Covers}
use Rattle.tree_clock.specs.Lists.{Has, IsAscending}
use Rattle.mld_ops.specs.declared.tagged.Tagged.{Tagged}
use Rattle.mld_ops.specs.Tagged.{tagged_cmp}

-- both sides have the pair, or one has it, and the other's ticks don't cover its dot
abbrev pub StaysInJoin : List (List ℕ × ℕ) → List Tagged → List Tagged → List (List ℕ × ℕ) → Tagged → Type 0
StaysInJoin own mine other theirs pair =
    (Has mine pair × Has other pair) ⊎ (Has mine pair × ¬ Covers theirs pair.dot) ⊎ (Has other pair × ¬ Covers own pair.dot)

-- the pairs of a join, where one side has `mine` by the ticks `own`, and the other has `other` by the ticks `theirs`
pub record IsJoined (own : List (List ℕ × ℕ)) (mine other : List Tagged) (theirs : List (List ℕ × ℕ)) (new : List Tagged) : Type 0 where
  pub ascending : IsAscending tagged_cmp new
  pub members : (pair : Tagged) → Has new pair ↔ StaysInJoin own mine other theirs pair
