-- What someone knows and has, joined with a snapshot.
use Rattle.std.specs.Prelude.{◌≡◌, ℕ, List, ◌++◌, max}
use Rattle.tree_clock.specs.declared.dots.Range.{Range}
use Rattle.tree_clock.specs.Clock.{ticks_of, Covers}
use Rattle.tree_clock.specs.Lists.{Has}
use Rattle.mld_ops.specs.declared.tagged.Tagged.{Tagged}
use Rattle.mld_ops.specs.History.{Operation}
use Rattle.mld_ops.specs.Messages.{SnapshotValue}
use Rattle.suset.specs.StateJoin.{IsJoined}
use Rattle.suset.specs.JoinLaws.{IsStateOf}

-- the ticks cover the dot of each pair
abbrev pub CoversAll : List (List ℕ × ℕ) → List Tagged → Type 0
CoversAll ticks pairs = (pair : Tagged) → Has pairs pair → Covers ticks pair.dot

-- the new ticks are at each path the greater ones, and the new pairs are the join
pub record IsJoinedWith (own : List (List ℕ × ℕ)) (mine : List Tagged) (snapshot : SnapshotValue) (ticks : List (List ℕ × ℕ)) (new : List Tagged) : Type 0 where
  pub known : (path : List ℕ) → ticks_of ticks path ≡ max (ticks_of own path) (ticks_of snapshot.ticks path)
  pub pairs : IsJoined own mine snapshot.pairs snapshot.ticks new

-- a state joined with another's snapshot is the state of one who knows the dots of both
abbrev pub JoinedWithIsState : Type 0
JoinedWithIsState = (history : List Operation) (known others : List Range) (own ticks : List (List ℕ × ℕ)) (mine new : List Tagged) (snapshot : SnapshotValue)
    → IsStateOf history known own mine → IsStateOf history others snapshot.ticks snapshot.pairs
    → IsJoinedWith own mine snapshot ticks new → IsStateOf history (known ++ others) ticks new
