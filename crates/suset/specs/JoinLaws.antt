-- The laws of joins, as statements.
use Rattle.std.specs.Prelude.{◌≡◌, ℕ, List, ◌++◌, ◌↔◌}
use Rattle.tree_clock.specs.declared.dots.Dot.{Dot}
use Rattle.tree_clock.specs.declared.dots.Range.{Range}
use Rattle.tree_clock.specs.Clock.{Covers}
use Rattle.tree_clock.specs.Dot.{Knows}
use Rattle.mld_ops.specs.declared.tagged.Tagged.{Tagged}
use Rattle.mld_ops.specs.History.{Operation, IsClosed, IsLawful}
use Rattle.mld_ops.specs.Meaning.{IsMeaning}
use Rattle.suset.specs.StateJoin.{IsJoined}

-- the state of one who knows these dots of a lawful history: they are closed, the ticks cover just them, and the pairs are their
-- meaning
pub record IsStateOf (history : List Operation) (known : List Range) (ticks : List (List ℕ × ℕ)) (pairs : List Tagged) : Type 0 where
  pub lawful : IsLawful history
  pub closed : IsClosed history known
  pub covered : (dot : Dot) → Covers ticks dot ↔ Knows known dot
  pub meaning : IsMeaning history known pairs

-- there is one join at most
abbrev pub JoinIsOne : Type 0
JoinIsOne = (own theirs : List (List ℕ × ℕ)) (mine other one another : List Tagged)
    → IsJoined own mine other theirs one → IsJoined own mine other theirs another → one ≡ another

-- the dots of two states together are closed
abbrev pub JoinIsClosed : Type 0
JoinIsClosed = (history : List Operation) (known others : List Range) (own theirs : List (List ℕ × ℕ)) (mine other : List Tagged)
    → IsStateOf history known own mine → IsStateOf history others theirs other → IsClosed history (known ++ others)

-- the join of two states is the meaning of the dots of both together
abbrev pub JoinIsMeaning : Type 0
JoinIsMeaning = (history : List Operation) (known others : List Range) (own theirs : List (List ℕ × ℕ)) (mine other new : List Tagged)
    → IsStateOf history known own mine → IsStateOf history others theirs other → IsJoined own mine other theirs new
    → IsMeaning history (known ++ others) new

-- which side is joined with which makes no difference
abbrev pub JoinCommutes : Type 0
JoinCommutes = (own theirs : List (List ℕ × ℕ)) (mine other one another : List Tagged)
    → IsJoined own mine other theirs one → IsJoined theirs other mine own another → one ≡ another

-- of three states, which two are joined first makes no difference: the join of the front two with the third is that of the first with
-- the join of the back two; the ticks of two together cover the dots of both
abbrev pub JoinAssociates : Type 0
JoinAssociates = (history : List Operation) (first second third : List Range) (first_ticks second_ticks third_ticks front_ticks back_ticks : List (List ℕ × ℕ))
    (first_pairs second_pairs third_pairs front_pairs back_pairs one another : List Tagged)
    → IsStateOf history first first_ticks first_pairs → IsStateOf history second second_ticks second_pairs → IsStateOf history third third_ticks third_pairs
    → ((dot : Dot) → Covers front_ticks dot ↔ Knows (first ++ second) dot) → ((dot : Dot) → Covers back_ticks dot ↔ Knows (second ++ third) dot)
    → IsJoined first_ticks first_pairs second_pairs second_ticks front_pairs → IsJoined front_ticks front_pairs third_pairs third_ticks one
    → IsJoined second_ticks second_pairs third_pairs third_ticks back_pairs → IsJoined first_ticks first_pairs back_pairs back_ticks another
    → one ≡ another

-- a state joined with itself stays as it is
abbrev pub JoinIsIdempotent : Type 0
JoinIsIdempotent = (history : List Operation) (known : List Range) (ticks : List (List ℕ × ℕ)) (pairs new : List Tagged)
    → IsStateOf history known ticks pairs → IsJoined ticks pairs pairs ticks new → new ≡ pairs
