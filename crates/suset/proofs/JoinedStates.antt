-- The laws of joins.
use Rattle.std.proofs.Common.{◌≡◌, ℕ, List, ◌++◌, ◌⊎◌, ◌↔◌, inl, inr}
use Rattle.tree_clock.specs.declared.dots.Dot.{Dot}
use Rattle.tree_clock.specs.declared.dots.Range.{Range}
use Rattle.tree_clock.specs.Clock.{Covers}
use Rattle.tree_clock.specs.Dot.{Knows}
use Rattle.tree_clock.specs.DotLaws.{Knows-append, Knows_or_not}
use Rattle.tree_clock.specs.Lists.{Has, IsAscending}
use Rattle.mld_ops.specs.declared.tagged.Tagged.{Tagged}
use Rattle.mld_ops.specs.History.{Operation, IsClosed, IsLawful}
use Rattle.mld_ops.specs.Meaning.{IsKept, IsMeaning}
use Rattle.suset.specs.StateJoin.{StaysInJoin, IsJoined}
use Rattle.mld_ops.specs.Tagged.{tagged_cmp}
use Rattle.mld_ops.proofs.AscendingLaws.{same_ascending}
use Rattle.mld_ops.proofs.MeaningLaws as meanings
use Rattle.mld_ops.proofs.OperationLaws.{deletes_causes}
use Rattle.mld_ops.proofs.TaggedLaws.{tagged_total, tagged_exact}
use Rattle.suset.specs.JoinLaws.{IsStateOf}

-- ascending lists with the same members are one
same_members : (one another : List Tagged) → IsAscending tagged_cmp one → IsAscending tagged_cmp another → ((pair : Tagged) → Has one pair ↔ Has another pair)
    → one ≡ another
same_members one another a b h = same_ascending tagged_cmp tagged_total tagged_exact one another a b (λ pair. (h pair).0) (λ pair. (h pair).1)

-- there is one join
pub join_is_one : (own theirs : List (List ℕ × ℕ)) (mine other one another : List Tagged) → IsJoined own mine other theirs one → IsJoined own mine other theirs another
    → one ≡ another
join_is_one own theirs mine other one another j k =
    same_members one another j.ascending k.ascending (λ pair. (λ h. (k.members pair).1 ((j.members pair).0 h), λ h. (j.members pair).1 ((k.members pair).0 h)))

-- what stays, stays on the other side too
turned : (own theirs : List (List ℕ × ℕ)) (mine other : List Tagged) (pair : Tagged) → StaysInJoin own mine other theirs pair → StaysInJoin theirs other mine own pair
turned own theirs mine other pair (inl h) = inl (h.1, h.0)
turned own theirs mine other pair (inr (inl h)) = inr (inr h)
turned own theirs mine other pair (inr (inr h)) = inr (inl h)

pub join_commutes : (own theirs : List (List ℕ × ℕ)) (mine other one another : List Tagged) → IsJoined own mine other theirs one → IsJoined theirs other mine own another
    → one ≡ another
join_commutes own theirs mine other one another j k =
    same_members one another j.ascending k.ascending (λ pair. (
      λ h. (k.members pair).1 (turned own theirs mine other pair ((j.members pair).0 h)),
      λ h. (j.members pair).1 (turned theirs own other mine pair ((k.members pair).0 h)),
    ))

-- the dots of two closed sets are closed
both_closed : (history : List Operation) (known others : List Range) → IsClosed history known → IsClosed history others → IsClosed history (known ++ others)
both_closed history known others a b = record {
  done = λ dot k. elim ((Knows-append known others dot).0 k) [ inl m ↦ a.done dot m | inr m ↦ b.done dot m ];
  causes = λ operation h k dot c. (Knows-append known others dot).1 (elim ((Knows-append known others operation.dot).0 k) [
    | inl m ↦ inl (a.causes operation h m dot c)
    | inr m ↦ inr (b.causes operation h m dot c)
  ]);
}

pub join_is_closed : (history : List Operation) (known others : List Range) (own theirs : List (List ℕ × ℕ)) (mine other : List Tagged)
    → IsStateOf history known own mine → IsStateOf history others theirs other → IsClosed history (known ++ others)
join_is_closed history known others own theirs mine other s t = both_closed history known others s.closed t.closed

-- what is kept by one who knows some dots is kept by one who knows others too, where none of these deletes it
still_kept : (history : List Operation) (known others both : List Range) (pair : Tagged) → ((dot : Dot) → Knows both dot → Knows known dot ⊎ Knows others dot)
    → ((dot : Dot) → Knows known dot → Knows both dot) → IsKept history known pair
    → ((operation : Operation) → Has history operation → Knows others operation.dot → ¬ Has operation.deletes pair) → IsKept history both pair
still_kept history known others both pair parts part k none = record {
  covered = part pair.dot k.covered;
  inserted = k.inserted;
  kept = λ operation h m. elim (parts operation.dot m) [ inl n ↦ k.kept operation h n | inr n ↦ none operation h n ];
}

-- what is kept by both together is kept by the one who knows its dot
kept_by_one : (history : List Operation) (known both : List Range) (pair : Tagged) → ((dot : Dot) → Knows known dot → Knows both dot) → IsKept history both pair
    → Knows known pair.dot → IsKept history known pair
kept_by_one history known both pair part k m = record { covered = m; inserted = k.inserted; kept = λ operation h n. k.kept operation h (part operation.dot n) }

-- a closed set that lacks a pair's dot has no operation that deletes the pair
none_deletes : (history : List Operation) (known : List Range) (pair : Tagged) → IsLawful history → IsClosed history known → ¬ Knows known pair.dot
    → (operation : Operation) → Has history operation → Knows known operation.dot → ¬ Has operation.deletes pair
none_deletes history known pair l c n operation h k d = n (c.causes operation h k pair.dot (deletes_causes history operation pair l h d))

module _ (history : List Operation) (known others : List Range) (own theirs : List (List ℕ × ℕ)) (mine other : List Tagged)
    (s : IsStateOf history known own mine) (t : IsStateOf history others theirs other) where
  abbrev both : List Range
  both = known ++ others

  parts : (dot : Dot) → Knows both dot → Knows known dot ⊎ Knows others dot
  parts dot = (Knows-append known others dot).0

  left : (dot : Dot) → Knows known dot → Knows both dot
  left dot k = (Knows-append known others dot).1 (inl k)

  right : (dot : Dot) → Knows others dot → Knows both dot
  right dot k = (Knows-append known others dot).1 (inr k)

  swapped : (dot : Dot) → Knows both dot → Knows others dot ⊎ Knows known dot
  swapped dot k = elim (parts dot k) [ inl m ↦ inr m | inr m ↦ inl m ]

  sound : (pair : Tagged) → StaysInJoin own mine other theirs pair → IsKept history both pair
  sound pair (inl h) = still_kept history known others both pair parts left (s.meaning.sound pair h.0) (t.meaning.sound pair h.1).kept
  sound pair (inr (inl h)) =
      still_kept history known others both pair parts left (s.meaning.sound pair h.0)
      (none_deletes history others pair t.lawful t.closed (λ k. h.1 ((t.covered pair.dot).1 k)))
  sound pair (inr (inr h)) =
      still_kept history others known both pair swapped right (t.meaning.sound pair h.0)
      (none_deletes history known pair s.lawful s.closed (λ k. h.1 ((s.covered pair.dot).1 k)))

  complete : (pair : Tagged) → IsKept history both pair → StaysInJoin own mine other theirs pair
  complete pair k =
      let mine_has : Knows known pair.dot → Has mine pair = λ m. s.meaning.complete pair (kept_by_one history known both pair left k m) in
      let other_has : Knows others pair.dot → Has other pair = λ m. t.meaning.complete pair (kept_by_one history others both pair right k m) in
      elim (Knows_or_not known pair.dot) [
        | inl m ↦ elim (Knows_or_not others pair.dot) [
          | inl n ↦ inl (mine_has m, other_has n)
          | inr n ↦ inr (inl (mine_has m, λ c. n ((t.covered pair.dot).0 c)))
        ]
        | inr m ↦ elim (parts pair.dot k.covered) [
          | inl own_has ↦ absurd (m own_has)
          | inr n ↦ inr (inr (other_has n, λ c. m ((s.covered pair.dot).0 c)))
        ]
      ]

  pub meaning_of_join : (new : List Tagged) → IsJoined own mine other theirs new → IsMeaning history (known ++ others) new
  meaning_of_join new j = record {
    ascending = j.ascending;
    sound = λ pair h. sound pair ((j.members pair).0 h);
    complete = λ pair k. (j.members pair).1 (complete pair k);
  }

  -- the state of one who knows the dots of both
  pub state_of_join : (new : List Tagged) (ticks : List (List ℕ × ℕ)) → IsJoined own mine other theirs new → ((dot : Dot) → Covers ticks dot ↔ Knows (known ++ others) dot)
      → IsStateOf history (known ++ others) ticks new
  state_of_join new ticks j c = record { lawful = s.lawful; closed = both_closed history known others s.closed t.closed; covered = c; meaning = meaning_of_join new j }

pub join_is_meaning : (history : List Operation) (known others : List Range) (own theirs : List (List ℕ × ℕ)) (mine other new : List Tagged)
    → IsStateOf history known own mine → IsStateOf history others theirs other → IsJoined own mine other theirs new → IsMeaning history (known ++ others) new
join_is_meaning history known others own theirs mine other new s t j = meaning_of_join history known others own theirs mine other s t new j

-- the dots of three sets, in either grouping
grouped : (first second third : List Range) (dot : Dot) → Knows ((first ++ second) ++ third) dot → Knows (first ++ (second ++ third)) dot
grouped first second third dot k = (Knows-append first (second ++ third) dot).1 (elim ((Knows-append (first ++ second) third dot).0 k) [
  | inl m ↦ elim ((Knows-append first second dot).0 m) [ inl n ↦ inl n | inr n ↦ inr ((Knows-append second third dot).1 (inl n)) ]
  | inr m ↦ inr ((Knows-append second third dot).1 (inr m))
])

regrouped : (first second third : List Range) (dot : Dot) → Knows (first ++ (second ++ third)) dot → Knows ((first ++ second) ++ third) dot
regrouped first second third dot k = (Knows-append (first ++ second) third dot).1 (elim ((Knows-append first (second ++ third) dot).0 k) [
  | inl m ↦ inl ((Knows-append first second dot).1 (inl m))
  | inr m ↦ elim ((Knows-append second third dot).0 m) [ inl n ↦ inl ((Knows-append first second dot).1 (inr n)) | inr n ↦ inr n ]
])

pub join_associates : (history : List Operation) (first second third : List Range) (a b c ab bc : List (List ℕ × ℕ)) (x y z xy yz one another : List Tagged)
    → IsStateOf history first a x → IsStateOf history second b y → IsStateOf history third c z
    → ((dot : Dot) → Covers ab dot ↔ Knows (first ++ second) dot) → ((dot : Dot) → Covers bc dot ↔ Knows (second ++ third) dot)
    → IsJoined a x y b xy → IsJoined ab xy z c one → IsJoined b y z c yz → IsJoined a x yz bc another
    → one ≡ another
join_associates history first second third a b c ab bc x y z xy yz one another s t u m n j k p q =
    let left : IsMeaning history ((first ++ second) ++ third) one =
    meaning_of_join history (first ++ second) third ab c xy z (state_of_join history first second a b x y s t xy ab j m) u one k in
    let right : IsMeaning history (first ++ (second ++ third)) another =
    meaning_of_join history first (second ++ third) a bc x yz s (state_of_join history second third b c y z t u yz bc p n) another q in
    meanings.one_meaning history (first ++ (second ++ third)) one another
    (meanings.same_known history ((first ++ second) ++ third) (first ++ (second ++ third)) one (grouped first second third) (regrouped first second third) left) right

pub join_is_idempotent : (history : List Operation) (known : List Range) (ticks : List (List ℕ × ℕ)) (pairs new : List Tagged)
    → IsStateOf history known ticks pairs → IsJoined ticks pairs pairs ticks new → new ≡ pairs
join_is_idempotent history known ticks pairs new s j =
    same_members new pairs j.ascending s.meaning.ascending (λ pair. (
      λ h. elim ((j.members pair).0 h) [ inl k ↦ k.0 | inr k ↦ elim k [ inl m ↦ m.0 | inr m ↦ m.0 ] ],
      λ h. (j.members pair).1 (inl (h, h)),
    ))
