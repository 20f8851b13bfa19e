-- The durable steps of a plain command, on the device of its clone. `DurableSteps` is made of it.
use Rattle.std.specs.Prelude.{◌≡◌, ◌≢◌, ℕ, List, [], ◌∷◌, map, Some, MatchOption}
use Rattle.tree_clock.specs.declared.dots.Range.{Range}
use Rattle.mld_ops.specs.History.{Operation}
use Rattle.schedule_model.specs.declared.Command.{Command}
use Rattle.schedule_model.specs.declared.Command.TheVariants.{Add, Remove, Update, Deliver, Show, Query, Compare, Join, Ask, Compact, Truncate, Stop, Open, Crash}
use Rattle.mld_model.specs.Clone.{Clone, Live, kept_of, merged_with, Stored}
use Rattle.mld_model.specs.CloneStep.{joined_with}
use Rattle.mld_model.specs.World.{World, Message, RangeOf, Want, SnapshotOf, JoinAsk, JoinGive, message_at, clone_at}
use Rattle.mld_model.specs.Reply.{Reply, Did, Took, Merged, Answer, Joined}
use Rattle.mld_model.specs.Durable.{DurableStep, AppendsMade, AppendsTaken, AppendsFork, Creates, Swaps}

-- one step: the entry of the operation that joined the history is appended
pub record AppendsOperation (world next : World) (steps : List DurableStep) : Type 0 where
  pub operation : Operation
  pub joined : next.history ≡ operation ∷ world.history
  pub one : steps ≡ AppendsMade operation ∷ []

-- a local change has that one step where the reply tells of an operation, else none
abbrev pub MakesDurably : World → Reply → World → List DurableStep → Type 0
MakesDurably world (Did dot message) next steps = AppendsOperation world next steps
MakesDurably world reply next steps = steps ≡ []

-- the ranges that a reply tells of are appended in their order
abbrev pub taking_steps : Reply → List DurableStep
taking_steps (Took ranges) = map (λ range. AppendsTaken range) ranges
taking_steps reply = []

-- a fork is appended where the reply tells of the leaf that was sent
abbrev pub giving_steps : Reply → List DurableStep
giving_steps (Answer numbers) = AppendsFork ∷ []
giving_steps reply = []

-- what the clone keeps is created where the reply tells that it joined
abbrev pub joining_steps : List ℕ → List Range → Reply → List DurableStep
joining_steps path dots (Joined leaf) = Creates (joined_with path dots) ∷ []
joining_steps path dots reply = []

-- what a live clone keeps is swapped for what it keeps that merges these dots, and then the ranges that the reply tells of are appended
abbrev pub merging_steps : Clone → List Range → Reply → List DurableStep
merging_steps (Live stored held) dots (Merged ranges) = Swaps (merged_with stored dots) ∷ map (λ range. AppendsTaken range) ranges
merging_steps clone dots reply = []

-- the steps of a clone that a message came to, by its reply; it keeps what it kept where it answers a want
abbrev pub message_steps : Clone → Message → Reply → List DurableStep
message_steps clone (RangeOf range) reply = taking_steps reply
message_steps clone (JoinAsk id) reply = giving_steps reply
message_steps clone (JoinGive id path dots) reply = joining_steps path dots reply
message_steps clone (SnapshotOf dots) reply = merging_steps clone dots reply
message_steps clone (Want dots) reply = []

-- what the clone of the number keeps is swapped for what it keeps then, unless that is the same
pub data SwapsDurably (world next : World) (number : ℕ) (steps : List DurableStep) : Type 0 where
  keeps_the_same : kept_of (clone_at next number) ≡ kept_of (clone_at world number) → steps ≡ [] → SwapsDurably world next number steps
  swaps_it : (stored : Stored) → kept_of (clone_at next number) ≡ Some stored → kept_of (clone_at next number) ≢ kept_of (clone_at world number)
      → steps ≡ Swaps stored ∷ [] → SwapsDurably world next number steps

-- the durable steps of a plain command: the world before, the command, the reply, the world after, the steps
abbrev pub PlainDurableSteps : World → Command → Reply → World → List DurableStep → Type 0
PlainDurableSteps world (Add number triple) reply next steps = MakesDurably world reply next steps
PlainDurableSteps world (Remove number triple) reply next steps = MakesDurably world reply next steps
PlainDurableSteps world (Update number plan) reply next steps = MakesDurably world reply next steps
PlainDurableSteps world (Deliver message number) reply next steps =
    MatchOption (message_at world message) (steps ≡ []) (λ sent. steps ≡ message_steps (clone_at world number) sent reply)
PlainDurableSteps world (Show number) reply next steps = steps ≡ []
PlainDurableSteps world (Query number read) reply next steps = steps ≡ []
PlainDurableSteps world (Join number) reply next steps = steps ≡ []
PlainDurableSteps world (Ask number) reply next steps = steps ≡ []
PlainDurableSteps world (Compact number) reply next steps = SwapsDurably world next number steps
PlainDurableSteps world (Truncate number keep) reply next steps = SwapsDurably world next number steps
PlainDurableSteps world (Stop number) reply next steps = steps ≡ []
PlainDurableSteps world (Open number) reply next steps = steps ≡ []
PlainDurableSteps world (Compare number other) reply next steps = steps ≡ []
PlainDurableSteps world (Crash call leave task) reply next steps = ⊥
