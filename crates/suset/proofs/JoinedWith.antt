-- What a join with a snapshot has and means.
use Rattle.std.proofs.Common.{ℕ, List, ◌++◌, inl, inr}
use Rattle.tree_clock.specs.declared.dots.Range.{Range}
use Rattle.tree_clock.specs.DotLaws.{Knows-append}
use Rattle.tree_clock.proofs.ClockLaws.{Covers-max}
use Rattle.mld_ops.specs.declared.tagged.Tagged.{Tagged}
use Rattle.mld_ops.specs.History.{Operation}
use Rattle.mld_ops.specs.Messages.{SnapshotValue, IsGoodSnapshot}
use Rattle.suset.specs.JoinLaws.{IsStateOf}
use Rattle.suset.proofs.JoinedStates.{state_of_join}
use Rattle.suset.specs.SnapshotJoin.{CoversAll, IsJoinedWith}

-- the pairs are covered by the clock where both sides' pairs were
pub joined_covered : (own : List (List ℕ × ℕ)) (mine : List Tagged) (snapshot : SnapshotValue) (ticks : List (List ℕ × ℕ)) (new : List Tagged)
    → IsJoinedWith own mine snapshot ticks new → IsGoodSnapshot snapshot → CoversAll own mine → CoversAll ticks new
joined_covered own mine snapshot ticks new j good covered pair h =
    (Covers-max own snapshot.ticks ticks j.known pair.dot).1 (elim ((j.pairs.members pair).0 h) [
      | inl k ↦ inl (covered pair k.0)
      | inr k ↦ elim k [ inl m ↦ inl (covered pair m.0) | inr m ↦ inr (good.covered pair m.0) ]
    ])

pub joined_is_state : (history : List Operation) (known others : List Range) (own ticks : List (List ℕ × ℕ)) (mine new : List Tagged) (snapshot : SnapshotValue)
    → IsStateOf history known own mine → IsStateOf history others snapshot.ticks snapshot.pairs
    → IsJoinedWith own mine snapshot ticks new → IsStateOf history (known ++ others) ticks new
joined_is_state history known others own ticks mine new snapshot s t j =
    state_of_join history known others own snapshot.ticks mine snapshot.pairs s t new ticks j.pairs (λ dot. (
      λ c. (Knows-append known others dot).1 (elim ((Covers-max own snapshot.ticks ticks j.known dot).0 c) [
        | inl k ↦ inl ((s.covered dot).0 k)
        | inr k ↦ inr ((t.covered dot).0 k)
      ]),
      λ k. (Covers-max own snapshot.ticks ticks j.known dot).1 (elim ((Knows-append known others dot).0 k) [
        | inl m ↦ inl ((s.covered dot).1 m)
        | inr m ↦ inr ((t.covered dot).1 m)
      ]),
    ))
