-- Laws of fronts of durable steps: which of them a crash leaves, and what is kept after those that take ranges.
use Rattle.std.proofs.Common.{◌≡◌, ℕ, ◌+◌, ◌-◌, ◌<◌, ◌≤◌, List, [], ◌∷◌, ◌++◌, ◌⊎◌, inl, inr, refl, sym, ◌∙◌, ap, arith, subst, map, Bool, true, false, ◌&&◌, Some}
use Rattle.std.specs.Prelude.{nat_le}
use Rattle.std.proofs.lemmas.Bool.{cases_Bool, cases_lt, le-leb, leb-true, lt-leb, leb-false}
use Rattle.tree_clock.specs.declared.dots.Dot.{Dot}
use Rattle.tree_clock.specs.declared.dots.Range.{Range}
use Rattle.tree_clock.specs.Lists.{Has}
use Rattle.tree_clock.specs.Dot.{Knows}
use Rattle.mld_ops.specs.History.{Operation, IsLawful}
use Rattle.mld_ops.proofs.PickingLaws.{first_is, first_member, rest_members, kept_members}
use Rattle.mld_model.specs.Clone.{Stored, known_of, with_range, IsKnown, IsReady, Releases}
use Rattle.mld_model.specs.Durable.{DurableStep, AppendsMade, AppendsTaken, AppendsFork, Creates, Swaps, kept_after, history_after}
use Rattle.mld_model.specs.CrashFronts.{step_calls, calls_before_gate, durable_calls, standing_front}
use Rattle.mld_model.specs.Sound.{IsSoundClone, IsDoneRange}
use Rattle.mld_model.proofs.KnownLaws.{known_with-old}
use Rattle.mld_model.proofs.SoundLaws.{taker_stays_sound}

-- ---- fronts

-- the first of the steps
abbrev pub IsFrontOf : List DurableStep → List DurableStep → Type 0
IsFrontOf front steps = (rest : List DurableStep) × (front ++ rest ≡ steps)

-- no steps have one front
pub front_of_none : (front : List DurableStep) → IsFrontOf front [] → front ≡ []
front_of_none [] is = refl
front_of_none (step ∷ front) is = absurd (cc (is.1))

-- one step has two
pub front_of_one : (step : DurableStep) (front : List DurableStep) → IsFrontOf front (step ∷ []) → (front ≡ []) ⊎ (front ≡ step ∷ [])
front_of_one step [] is = inl refl
front_of_one step (first ∷ front) is =
    let none : front ≡ [] = front_of_none front (is.0, cc (is.1)) in
    let same : first ≡ step = cc (is.1) in
    inr (λ i. same i ∷ none i)

-- the test of a number that is no greater
le_test : (one other : ℕ) → (nat_le one other ≡ true → one ≤ other) × (nat_le one other ≡ false → other < one)
le_test one other = (leb-true one other, leb-false one other)

-- what stands after a call was caught is a front
pub stands_front : (choice : Bool) (call : ℕ) (steps : List DurableStep) → IsFrontOf (standing_front choice call steps) steps
stands_front choice call [] = ([], refl)
stands_front choice call (step ∷ steps) = elim (cases_Bool (nat_le (step_calls step) call)) [
  | inl whole ↦
      let more = stands_front choice (call - step_calls step) steps in
      rw whole (more.0, ap (λ (s : List DurableStep). step ∷ s) more.1)
  | inr begun ↦ elim (cases_Bool (nat_le (calls_before_gate step) call && choice)) [
    | inl stands ↦ rw begun (rw stands (steps, refl))
    | inr none ↦ rw begun (rw none (step ∷ steps, refl))
  ]
]

-- ---- one append, and a fork or two ranges, by the call that was caught

module _ (choice : Bool) (operation : Operation) (first second : Range) (stored : Stored) where
  -- nothing stands of an append whose first call was caught, nor of one whose second was
  none_at_first : standing_front choice 0 (AppendsMade operation ∷ []) ≡ []
  none_at_first = refl

  none_at_second : standing_front choice 1 (AppendsMade operation ∷ []) ≡ []
  none_at_second = refl

  -- from the write of its gate on it is chosen
  chosen_at_gate : standing_front true 2 (AppendsMade operation ∷ []) ≡ AppendsMade operation ∷ []
  chosen_at_gate = refl

  left_at_gate : standing_front false 2 (AppendsMade operation ∷ []) ≡ []
  left_at_gate = refl

  chosen_at_last : standing_front true 3 (AppendsFork ∷ []) ≡ AppendsFork ∷ []
  chosen_at_last = refl

  left_at_last : standing_front false 3 (AppendsFork ∷ []) ≡ []
  left_at_last = refl

  -- of two ranges that are appended the first stands where a call of the second was caught
  one_of_two : standing_front choice 5 (AppendsTaken first ∷ AppendsTaken second ∷ []) ≡ AppendsTaken first ∷ []
  one_of_two = refl

  -- what is created may stand from its fifth call on
  none_created : standing_front choice 3 (Creates stored ∷ []) ≡ []
  none_created = refl

  chosen_created : standing_front true 4 (Creates stored ∷ []) ≡ Creates stored ∷ []
  chosen_created = refl

  -- the appends behind a swap come after its six calls
  swapped_first : standing_front choice 6 (Swaps stored ∷ AppendsTaken first ∷ []) ≡ Swaps stored ∷ []
  swapped_first = refl

-- ---- which fronts there are

-- there is a choice by which the front stands
abbrev pub IsChosen : ℕ → List DurableStep → List DurableStep → Type 0
IsChosen call front steps = (choice : Bool) × (standing_front choice call steps ≡ front)

-- the call comes before those of the step behind the front are all done
abbrev pub ComesWithin : ℕ → List DurableStep → List DurableStep → Type 0
ComesWithin call front [] = Unit {0}
ComesWithin call front (step ∷ rest) = call < durable_calls front + step_calls step

-- a choice serves for steps behind one that stands
later_chosen : (call : ℕ) (step : DurableStep) (front steps : List DurableStep) → step_calls step ≤ call → IsChosen (call - step_calls step) front steps
    → IsChosen call (step ∷ front) (step ∷ steps)
later_chosen call step front steps whole is =
    (is.0, rw (le-leb (step_calls step) call whole) (ap (λ (s : List DurableStep). step ∷ s) is.1))

-- the step that was under way
begun_left : (call : ℕ) (step : DurableStep) (steps : List DurableStep) → call < step_calls step → IsChosen call [] (step ∷ steps)
begun_left call step steps begun = elim (cases_Bool (nat_le (calls_before_gate step) call)) [
  | inl issued ↦ (false, rw (lt-leb (step_calls step) call begun) (rw issued refl))
  | inr early ↦ (false, rw (lt-leb (step_calls step) call begun) (rw early refl))
]

begun_stands : (call : ℕ) (step : DurableStep) (steps : List DurableStep) → call < step_calls step → calls_before_gate step ≤ call
    → IsChosen call (step ∷ []) (step ∷ steps)
begun_stands call step steps begun issued =
    (true, rw (lt-leb (step_calls step) call begun) (rw (le-leb (calls_before_gate step) call issued) refl))

-- each step makes some calls
some_calls : (step : DurableStep) → 4 ≤ step_calls step
some_calls (AppendsMade operation) = omega arith
some_calls (AppendsTaken range) = omega arith
some_calls AppendsFork = omega arith
some_calls (Creates stored) = omega arith
some_calls (Swaps stored) = omega arith

-- so none were made for no steps alone
no_steps : (steps : List DurableStep) → durable_calls steps < 2 → steps ≡ []
no_steps [] few = refl
no_steps (step ∷ steps) few = absurd (omega (arith, few, some_calls step))

-- A front that a caught call may leave stands by some choice: the call is one of all, it doesn't come before the write of the last gate of the front,
-- and it comes before those of the step behind the front are all done.
pub front_chosen : (call : ℕ) (front rest : List DurableStep) → call < durable_calls (front ++ rest) → durable_calls front - 2 ≤ call → ComesWithin call front rest
    → IsChosen call front (front ++ rest)
front_chosen call [] [] comes issued within = absurd (omega (arith, comes))
front_chosen call [] (step ∷ rest) comes issued within = begun_left call step rest (omega (arith, within))
front_chosen call (step ∷ front) rest comes issued within = elim (cases_lt call (step_calls step)) [
  | inl begun ↦
      let none : front ≡ [] = no_steps front (omega (arith, begun, issued, some_calls step)) in
      subst (λ (f : List DurableStep). IsChosen call (step ∷ f) (step ∷ (f ++ rest))) (sym none)
      (begun_stands call step rest begun (omega (arith, issued, ap durable_calls none)))
  | inr whole ↦
      later_chosen call step front (front ++ rest) whole
      (front_chosen (call - step_calls step) front rest (omega (arith, comes, whole)) (omega (arith, issued, whole)) (later_within call step front rest whole within))
]
  where
    later_within : (call : ℕ) (step : DurableStep) (front rest : List DurableStep) → step_calls step ≤ call → ComesWithin call (step ∷ front) rest
        → ComesWithin (call - step_calls step) front rest
    later_within call step front [] whole within = tt
    later_within call step front (next ∷ rest) whole within = omega (arith, whole, within)

-- ---- what is kept after a front of the ranges that are taken

-- what is kept is a clone at the same leaf, which knows what it knew and is sound where this is given; and no operation was made
pub record StandsBetween (Given : Type 0) (history : List Operation) (stored : Stored) (front : List DurableStep) : Type 0 where
  pub between : Stored
  pub kept : kept_after (Some stored) front ≡ Some between
  pub made : history_after history front ≡ history
  pub path : between.path ≡ stored.path
  pub knows : (dot : Dot) → Knows (known_of stored) dot → Knows (known_of between) dot
  pub sound : Given → IsSoundClone history between

-- the clone is sound, and the ranges that are held back are done
pub record IsSoundHolder (history : List Operation) (stored : Stored) (held : List Range) : Type 0 where
  pub lawful : IsLawful history
  pub sound : IsSoundClone history stored
  pub done : (range : Range) → Has held range → IsDoneRange history range

-- nothing stands
pub stands_none : (history : List Operation) (stored : Stored) (held : List Range) → StandsBetween (IsSoundHolder history stored held) history stored []
stands_none history stored held =
    record { between = stored; kept = refl; made = refl; path = refl; knows = λ dot known. known; sound = λ given. given.sound }

-- one step more, which leaves this of the clone and makes no operation
pub stands_more : (Given Before : Type 0) (history : List Operation) (stored now : Stored) (step : DurableStep) (front : List DurableStep)
    → kept_after (Some stored) (step ∷ front) ≡ kept_after (Some now) front → history_after history (step ∷ front) ≡ history_after history front
    → now.path ≡ stored.path → ((dot : Dot) → Knows (known_of stored) dot → Knows (known_of now) dot) → (Before → Given)
    → StandsBetween Given history now front → StandsBetween Before history stored (step ∷ front)
stands_more Given Before history stored now step front kept made path knows gives more = record {
  between = more.between;
  kept = kept ∙ more.kept;
  made = made ∙ more.made;
  path = more.path ∙ path;
  knows = λ dot known. more.knows dot (knows dot known);
  sound = λ before. more.sound (gives before);
}

-- the ranges that are released, and a front of them
pub stands_released : (history : List Operation) (stored : Stored) (held taken : List Range) (after : Stored) (left : List Range) (front : List DurableStep)
    → Releases history stored held taken after left → IsFrontOf front (map (λ range. AppendsTaken range) taken)
    → StandsBetween (IsSoundHolder history stored held) history stored front
stands_released history stored held taken after left [] p is = stands_none history stored held
stands_released history stored held [] after left (step ∷ front) p is = absurd (cc (is.1))
stands_released history stored held (range ∷ taken) after left (step ∷ front) p is =
    let kept : (one : Range) → Has p.0 one → Has held one = λ one h. kept_members (IsKnown (known_of stored)) held p.0 p.2 one h in
    let ready : IsReady history (known_of stored) range = first_is (IsReady history (known_of stored)) p.0 range p.1 p.3 in
    let member : Has p.0 range = first_member (IsReady history (known_of stored)) p.0 range p.1 p.3 in
    let same : step ≡ AppendsTaken range = cc (is.1) in
    subst (λ (s : DurableStep). StandsBetween (IsSoundHolder history stored held) history stored (s ∷ front)) (sym same)
    (stands_more (IsSoundHolder history (with_range stored range) p.1) (IsSoundHolder history stored held) history stored (with_range stored range)
    (AppendsTaken range) front refl refl refl (known_with-old stored range)
    (λ given. record {
      lawful = given.lawful;
      sound = taker_stays_sound history stored range given.lawful (given.done range (kept range member)) ready given.sound;
      done = λ one h. given.done one (kept one (rest_members (IsReady history (known_of stored)) p.0 range p.1 p.3 one h));
    })
    (stands_released history (with_range stored range) p.1 taken after left front p.4 (is.0, cc (is.1))))
