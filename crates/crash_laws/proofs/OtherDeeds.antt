-- Commands that have no durable steps; and that what was done is the one deed of a command.
use Rattle.std.proofs.Common.{◌≡◌, ℕ, List, [], refl, sym, subst, Option, Some, None}
use Rattle.std.specs.Prelude.{MatchOption}
use Rattle.tree_clock.specs.declared.dots.Range.{Range}
use Rattle.clone_core.specs.journal_sides.Pairs.{PairReading, KeepsNone}
use Rattle.mld_model.specs.Clone.{Clone, Absent, Asking, Empty, Down, Live, Stored, kept_of}
use Rattle.mld_model.specs.CloneStep.{Answers, IfLive, Takes, Reopens}
use Rattle.mld_model.specs.Durable.{DurableStep}
use Rattle.mld_model.specs.Reply.{Reply, Did, Took, Merged, Answer, Joined, NoMessage, IsAbsent, IsAsking, IsLive, Opened}
use Rattle.mld_model.specs.World.{World, Message, RangeOf, Want, SnapshotOf, JoinAsk, JoinGive, message_at, clone_at, with_clone}
use Rattle.schedule_model.specs.declared.Command.{Command}
use Rattle.schedule_model.specs.declared.Command.TheVariants.{Add, Remove, Update, Deliver, Show, Query, Compare, Join, Ask, Compact, Truncate, Stop, Open, Crash}
use Rattle.schedule_model.specs.declared.CrashTask.{CrashTask}
use Rattle.schedule_model.specs.declared.CrashTask.TheVariants as tasks
use Rattle.schedule_model.specs.Tasks.{command_of, number_of_task}
use Rattle.schedule_model.specs.PlainDurable.{keeps_the_same, MakesDurably, taking_steps, giving_steps, joining_steps, merging_steps, message_steps, PlainDurableSteps}
use Rattle.schedule_model.specs.PlainStep.{PlainStep}
use Rattle.schedule_model.proofs.ScheduleLaws.{HasPlanInForm}
use Rattle.schedule_model.proofs.StepLaws.{plain_once}
use Rattle.clone_core.specs.clone_parts.KeptSteps.{KeptStep}
use Rattle.crash_laws.specs.CarriedSteps.{owner_at, StandsRead}
use Rattle.crash_laws.specs.Deeds.{CarriedDeed, CarriesDone, TellsOfNone, TakesNoMessage}

-- ---- replies with no durable steps

none_taken : (reply : Reply) → TellsOfNone reply → taking_steps reply ≡ []
none_taken (Took ranges) none = absurd none
none_taken reply none = refl

none_given : (reply : Reply) → TellsOfNone reply → giving_steps reply ≡ []
none_given (Answer numbers) none = absurd none
none_given reply none = refl

none_joined : (path : List ℕ) (dots : List Range) (reply : Reply) → TellsOfNone reply → joining_steps path dots reply ≡ []
none_joined path dots (Joined leaf) none = absurd none
none_joined path dots reply none = refl

none_merged : (clone : Clone) (dots : List Range) (reply : Reply) → TellsOfNone reply → merging_steps clone dots reply ≡ []
none_merged clone dots (Merged ranges) none = absurd none
none_merged (Live stored held) dots reply none = refl
none_merged clone dots reply none = refl

pub none_kept : (clone : Clone) (sent : Message) (reply : Reply) → TellsOfNone reply → message_steps clone sent reply ≡ []
none_kept clone (RangeOf range) reply none = none_taken reply none
none_kept clone (JoinAsk id) reply none = none_given reply none
none_kept clone (JoinGive id path dots) reply none = none_joined path dots reply none
none_kept clone (SnapshotOf dots) reply none = none_merged clone dots reply none
none_kept clone (Want dots) reply none = refl

none_made : (world next : World) (reply : Reply) → TellsOfNone reply → MakesDurably world reply next []
none_made world next (Did dot message) none = absurd none
none_made world next reply none = refl

none_delivered : (clone : Clone) (sent : Option Message) (reply : Reply) → TellsOfNone reply
    → MatchOption sent (◌≡◌ {A = List DurableStep} [] []) (λ message. [] ≡ message_steps clone message reply)
none_delivered clone None reply none = refl
none_delivered clone (Some message) reply none = sym (none_kept clone message reply none)

-- a plain command that leaves the world as it was has none where its reply tells of none
pub none_durable : (world : World) (command : Command) (reply : Reply) → PlainStep world command reply world → TellsOfNone reply
    → PlainDurableSteps world command reply world []
none_durable world (Add number triple) reply does none = none_made world world reply none
none_durable world (Remove number triple) reply does none = none_made world world reply none
none_durable world (Update number plan) reply does none = none_made world world reply none
none_durable world (Deliver message number) reply does none = none_delivered (clone_at world number) (message_at world message) reply none
none_durable world (Show number) reply does none = refl
none_durable world (Query number read) reply does none = refl
none_durable world (Join number) reply does none = refl
none_durable world (Ask number) reply does none = refl
none_durable world (Compact number) reply does none = keeps_the_same refl refl
none_durable world (Truncate number keep) reply does none = keeps_the_same refl refl
none_durable world (Stop number) reply does none = refl
none_durable world (Open number) reply does none = refl
none_durable world (Compare number other) reply does none = refl
none_durable world (Crash call leave task) reply does none = absurd does

-- ---- deeds without them

-- a command that makes no durable steps calls no device, so what the banks read to is what stands
pub quiet_deed : (world : World) (command : Command) (number : ℕ) (reading : PairReading) (reply : Reply) (next : World) → PlainStep world command reply next
    → PlainDurableSteps world command reply next [] → StandsRead (owner_at world number) world.history reading (kept_of (clone_at world number))
    → CarriedDeed world command number reading []
quiet_deed world command number reading reply next does are stands =
    record { deed = record { reply = reply; after = next; does = does; steps = []; are = are }; carries = stands; once = tt }

-- so it is where the world stays as it was
pub unchanged_deed : (world : World) (command : Command) (number : ℕ) (reading : PairReading) (reply : Reply) → PlainStep world command reply world → TellsOfNone reply
    → StandsRead (owner_at world number) world.history reading (kept_of (clone_at world number)) → CarriedDeed world command number reading []
unchanged_deed world command number reading reply does none stands =
    quiet_deed world command number reading reply world does (none_durable world command reply does none) stands

-- what a clone does that is told to open
opens_as : (world : World) (number : ℕ) (clone : Clone) → (reply : Reply) × (next : World) × Reopens world number clone reply next
opens_as world number Absent = (IsAbsent, world, (refl, refl))
opens_as world number Asking = (IsAsking, world, (refl, refl))
opens_as world number Empty = (IsAsking, with_clone world number Asking, (refl, refl))
opens_as world number (Down stored) = (Opened, with_clone world number (Live stored []), (refl, refl))
opens_as world number (Live stored held) = (IsLive, world, (refl, refl))

-- so it is of a clone that is told to open
pub opened_deed : (world : World) (number : ℕ) (reading : PairReading) → StandsRead (owner_at world number) world.history reading (kept_of (clone_at world number))
    → CarriedDeed world (Open number) number reading []
opened_deed world number reading stands =
    let opens = opens_as world number (clone_at world number) in
    quiet_deed world (Open number) number reading opens.0 opens.1 opens.2 refl stands

-- of one to which no message of the number comes
pub unsent_deed : (world : World) (number place : ℕ) (reading : PairReading) → message_at world place ≡ None
    → StandsRead (owner_at world number) world.history reading (kept_of (clone_at world number)) → CarriedDeed world (Deliver place number) number reading []
unsent_deed world number place reading none stands =
    let P : Option Message → Type 0 = λ o. MatchOption o (Answers world NoMessage NoMessage world) (λ sent. Takes world number sent (clone_at world number) NoMessage world) in
    unchanged_deed world (Deliver place number) number reading NoMessage (subst P (sym none) (refl, refl)) tt stands

-- and of one who asks that is told to do what a live clone does alone
asks_as : (world : World) (clone : Clone) (does : Stored → List Range → Type 0) → clone ≡ Asking → IfLive world clone IsAsking world does
asks_as world clone does asks = subst (λ (c : Clone). IfLive world c IsAsking world does) (sym asks) (refl, refl)

asking_quiet : (world : World) (command : Command) (number : ℕ) → clone_at world number ≡ Asking → PlainStep world command IsAsking world → CarriedDeed world command number KeepsNone []
asking_quiet world command number asks does =
    unchanged_deed world command number KeepsNone IsAsking does tt
    (subst (λ (c : Clone). StandsRead (owner_at world number) world.history KeepsNone (kept_of c)) (sym asks) tt)

pub asking_deed : (world : World) (task : CrashTask) → TakesNoMessage task → clone_at world (number_of_task task) ≡ Asking
    → CarriedDeed world (command_of task) (number_of_task task) KeepsNone []
asking_deed world (tasks.Add number triple) none asks = asking_quiet world (Add number triple) number asks (asks_as world (clone_at world number) _ asks)
asking_deed world (tasks.Remove number triple) none asks = asking_quiet world (Remove number triple) number asks (asks_as world (clone_at world number) _ asks)
asking_deed world (tasks.Update number plan) none asks = asking_quiet world (Update number plan) number asks (asks_as world (clone_at world number) _ asks)
asking_deed world (tasks.Deliver message number) none asks = absurd none
asking_deed world (tasks.Compact number) none asks = asking_quiet world (Compact number) number asks (asks_as world (clone_at world number) _ asks)
asking_deed world (tasks.Truncate number keep) none asks = asking_quiet world (Truncate number keep) number asks (asks_as world (clone_at world number) _ asks)
asking_deed world (tasks.Open number) none asks =
    asking_quiet world (Open number) number asks (subst (λ (c : Clone). Reopens world number c IsAsking world) (sym asks) (refl, refl))

-- what was done is that deed
pub deed_was : (world : World) (command : Command) (number : ℕ) (reading : PairReading) (steps : List KeptStep) (reply : Reply) (next : World)
    → HasPlanInForm command → CarriedDeed world command number reading steps → PlainStep world command reply next
    → CarriesDone world command number reading steps reply next
deed_was world command number reading steps reply next form carried does =
    let once = plain_once world command carried.deed.reply reply carried.deed.after next form carried.deed.does does in
    record {
      durable = carried.deed.steps;
      are = subst (λ (w : World). PlainDurableSteps world command reply w carried.deed.steps) once.1
          (subst (λ (r : Reply). PlainDurableSteps world command r carried.deed.after carried.deed.steps) once.0 carried.deed.are);
      carries = carried.carries;
      once = carried.once;
    }
