-- The laws, as the contracts of the crate state them.
use Rattle.std.specs.Prelude.{◌≡◌, ℕ, ◌+◌, ◌<◌, ◌≤◌, List, [], ◌∷◌, length, slice_set, Option, Some, None, Ok}
use Rattle.mld_io.specs.Arm.{Arm, Armed}
use Rattle.mld_io.specs.Disk.{Sides}
use Rattle.mld_io.specs.declared.banks.Leave.{Leave}
use Rattle.mld_io.specs.declared.banks.Side.{Side}
use Rattle.mld_ops.specs.declared.messages.Give.{Give}
use Rattle.mld_ops.specs.declared.messages.Message.{Message as Told}
use Rattle.mld_ops.specs.History.{Operation}
use Rattle.mld_ops.specs.Messages.{MessageValue, message_value, give_value}
use Rattle.op_fusion.specs.Compacting.{AreFusedRuns, HasNeighbours}
use Rattle.clone_core.specs.journal_sides.Pairs.{PairReading, KeepsNone, Keeps, read_banks}
use Rattle.jrql_ast.specs.declared.plans.UpdatePlan.{UpdatePlan}
use Rattle.jrql_eval.specs.PlanEffects.{HasTooMany}
use Rattle.mld_model.specs.Clone.{Asking, Stored, kept_of}
use Rattle.mld_model.specs.Durable.{DurableStep}
use Rattle.mld_model.specs.CrashFronts.{durable_calls}
use Rattle.mld_model.specs.Local.{LocalAsker, LocalClone, joined_clone, LocallyCompacts, LocallyTruncates}
use Rattle.mld_model.specs.LocalStep.{IsSentAs, GivesNoLeaf}
use Rattle.mld_model.specs.Reply.{Reply, Crashed, ThenCrashed}
use Rattle.mld_model.specs.Sound.{IsSound}
use Rattle.mld_model.specs.declared.CloneState.TheVariants as states
use Rattle.mld_model.specs.StandsFor.{LiveAt, AskingAt, RunningWorld, StandsFor}
use Rattle.mld_model.specs.World.{World, Message, message_at, clone_at}
use Rattle.schedule_model.specs.declared.Command.{Command}
use Rattle.schedule_model.specs.declared.Command.TheVariants.{Deliver, Compact, Truncate, Open}
use Rattle.schedule_model.specs.declared.CrashTask.{CrashTask}
use Rattle.schedule_model.specs.declared.CrashTask.TheVariants as tasks
use Rattle.schedule_model.specs.Crashing.{IsArmed, opening_calls}
use Rattle.schedule_model.specs.PlainStep.{PlainStep}
use Rattle.schedule_model.specs.Step.{IsTaskInForm}
use Rattle.schedule_model.specs.Tasks.{command_of, number_of_task}
use Rattle.schedule_model.specs.WorldStep.{IsUpdateOf, stepped_into}
use Rattle.clone_core.specs.clone_parts.declared.answers.Done.{Done}
use Rattle.clone_core.specs.clone_parts.declared.answers.Got.{Got}
use Rattle.clone_core.specs.clone_parts.declared.faults.ReceiveFault.TheVariants as fault
use Rattle.clone_core.specs.clone_parts.KeptSteps.{KeptStep, Created, calls_of_all, ReadsSome, ReadsCaught}
use Rattle.clone_core.specs.Banked.{head_of, kept_as}
use Rattle.clone_core.specs.CloneCalls.{LocallyReceives, Refuses}
use Rattle.clone_core.specs.CloneUpdates.{LocallyUpdatesBy, BreaksSingle}
use Rattle.clone_core.specs.Due.{HasToMake}
use Rattle.clone_core.specs.DurableCalls.{AppendsPlanned, UpdateSteps, WouldReceive, ReceivedSteps, SwapsTo}
use Rattle.clone_core.specs.Joining.{IsGiveFor}
use Rattle.crash_laws.specs.CarriedSteps.{Owner, owner_at, StandsRead, Carries, StandsSome, StandsCaught, IsUpTo, WritesOnce}
use Rattle.crash_laws.specs.CrashLines.{ImageStands, CrashesTo, FollowsCrash}
use Rattle.crash_laws.specs.Deeds.{CarriedDeed, CarriesDone, TellsOfNone, TakesNoMessage}

-- ---- fronts

-- Where changes of banks carry durable steps, what the banks read to after some of them stands for what is kept after a front of the steps
abbrev pub FrontsStand : Type 0
FrontsStand = (owner : Owner) (history : List Operation) (reading : PairReading) (kept : Option Stored) (steps : List KeptStep) (durable : List DurableStep) (arm : Arm) (image : Sides)
    → Carries owner history reading kept steps durable → ReadsSome reading steps arm image → StandsSome owner history kept durable image

-- and where a call of theirs was caught, after the one that stands by some choice
abbrev pub CaughtStands : Type 0
CaughtStands = (owner : Owner) (history : List Operation) (reading : PairReading) (kept : Option Stored) (steps : List KeptStep) (durable : List DurableStep)
    (call : ℕ) (leave : Leave) (image : Sides) → Carries owner history reading kept steps durable → call < calls_of_all steps
    → ReadsCaught reading steps (Armed call leave) image → StandsCaught owner history kept call durable image

-- they make as many calls
abbrev pub SameCalls : Type 0
SameCalls = (owner : Owner) (history : List Operation) (reading : PairReading) (kept : Option Stored) (steps : List KeptStep) (durable : List DurableStep)
    → Carries owner history reading kept steps durable → calls_of_all steps ≡ durable_calls durable

-- the generation is at most one more after some of the changes
abbrev pub GenerationsGrow : Type 0
GenerationsGrow = (limit : ℕ) (steps : List KeptStep) (reading : PairReading) (arm : Arm) (image : Sides) → WritesOnce steps → IsUpTo limit reading
    → ReadsSome reading steps arm image → IsUpTo (limit + 1) (read_banks image)

-- ---- deeds of a live clone that was refused in the middle

-- an update that was due, and the append of its entry
abbrev pub PlannedDeeds : Type 0
PlannedDeeds = (world : World) (number : ℕ) (old : LocalClone) → IsSound world → LiveAt world number old → (side : Side) (generation : ℕ)
    (command : Command) (plan : UpdatePlan) (steps : List KeptStep) → IsUpdateOf command number plan → AppendsPlanned old plan steps
    → CarriedDeed world command number (Keeps (kept_as side generation old)) steps

-- a message by which it had something to make, and would have received: a range with those that it releases, a leaf that is forked, a snapshot with what it releases
abbrev pub ReceivedDeeds : Type 0
ReceivedDeeds = (world : World) (number : ℕ) (old : LocalClone) → IsSound world → LiveAt world number old → (side : Side) (generation : ℕ)
    (told : Told) (place : ℕ) (sent : Message) (steps : List KeptStep) → message_at world place ≡ Some sent → IsSentAs world (message_value told) sent
    → HasToMake old told → WouldReceive old told steps → CarriedDeed world (Deliver place number) number (Keeps (kept_as side generation old)) steps

-- a journal that would have been compacted, and one that would have been truncated
abbrev pub CompactionDeeds : Type 0
CompactionDeeds = (world : World) (number : ℕ) (old : LocalClone) → IsSound world → LiveAt world number old → (side : Side) (generation : ℕ)
    (next : LocalClone) (steps : List KeptStep) → HasNeighbours old.entries → LocallyCompacts old next → SwapsTo next steps
    → CarriedDeed world (Compact number) number (Keeps (kept_as side generation old)) steps

abbrev pub TruncationDeeds : Type 0
TruncationDeeds = (world : World) (number : ℕ) (old : LocalClone) → IsSound world → LiveAt world number old → (side : Side) (generation : ℕ)
    (keep : ℕ) (next : LocalClone) (steps : List KeptStep) → keep < length old.entries → LocallyTruncates old keep next → SwapsTo next steps
    → CarriedDeed world (Truncate number keep) number (Keeps (kept_as side generation old)) steps

-- ---- deeds of one who asks, and of a clone that opens

-- one who asks is given a leaf, and passes over any other message
abbrev pub AdoptionDeeds : Type 0
AdoptionDeeds = (world : World) (number place : ℕ) (asker : LocalAsker) (told : Told) (give : Give) (sent : Message) → IsSound world → AskingAt world number asker
    → message_at world place ≡ Some sent → IsSentAs world (message_value told) sent → IsGiveFor asker told give
    → CarriedDeed world (Deliver place number) number KeepsNone (Created (head_of (joined_clone asker (give_value give))) ∷ [])

abbrev pub PassingDeeds : Type 0
PassingDeeds = (world : World) (number place : ℕ) (asker : LocalAsker) (what : MessageValue) (sent : Message) → IsSound world → AskingAt world number asker
    → message_at world place ≡ Some sent → IsSentAs world what sent → GivesNoLeaf asker what → CarriedDeed world (Deliver place number) number KeepsNone []

-- one that is told to open has no durable steps
abbrev pub OpeningDeeds : Type 0
OpeningDeeds = (world : World) (number : ℕ) (reading : PairReading) → StandsRead (owner_at world number) world.history reading (kept_of (clone_at world number))
    → CarriedDeed world (Open number) number reading []

-- nor has a command that leaves the world as it was and tells of none
abbrev pub UnchangedDeeds : Type 0
UnchangedDeeds = (world : World) (command : Command) (number : ℕ) (reading : PairReading) (reply : Reply) → PlainStep world command reply world → TellsOfNone reply
    → StandsRead (owner_at world number) world.history reading (kept_of (clone_at world number)) → CarriedDeed world command number reading []

-- ---- deeds that were done

-- an update, and one that was refused by its plan
abbrev pub UpdatedDeeds : Type 0
UpdatedDeeds = (world : World) (number : ℕ) (old : LocalClone) → IsSound world → LiveAt world number old → (side : Side) (generation : ℕ)
    (command : Command) (plan : UpdatePlan) (answer : Done) (new : LocalClone) (steps : List KeptStep) → IsUpdateOf command number plan
    → LocallyUpdatesBy old plan answer new → UpdateSteps old plan (Ok answer) steps → CarriedDeed world command number (Keeps (kept_as side generation old)) steps

abbrev pub TooManyDeeds : Type 0
TooManyDeeds = (world : World) (number : ℕ) (old : LocalClone) → IsSound world → LiveAt world number old → (side : Side) (generation : ℕ)
    (command : Command) (plan : UpdatePlan) → IsUpdateOf command number plan → HasTooMany old.pairs plan
    → CarriedDeed world command number (Keeps (kept_as side generation old)) []

abbrev pub SingleDeeds : Type 0
SingleDeeds = (world : World) (number : ℕ) (old : LocalClone) → IsSound world → LiveAt world number old → (side : Side) (generation : ℕ)
    (command : Command) (plan : UpdatePlan) (place : List ℕ × List ℕ) → IsUpdateOf command number plan → BreaksSingle old plan place
    → CarriedDeed world command number (Keeps (kept_as side generation old)) []

-- a message that was received
abbrev pub AnsweredDeeds : Type 0
AnsweredDeeds = (world : World) (number : ℕ) (old : LocalClone) → IsSound world → LiveAt world number old → (side : Side) (generation : ℕ)
    (told : Told) (place : ℕ) (sent : Message) (answer : Got) (new : LocalClone) (steps : List KeptStep) → message_at world place ≡ Some sent
    → IsSentAs world (message_value told) sent → LocallyReceives old told answer new → ReceivedSteps told answer old new steps
    → CarriedDeed world (Deliver place number) number (Keeps (kept_as side generation old)) steps

-- one that was refused: too many are held back, or the leaf is too deep to be forked; and none of the number
abbrev pub FullDeeds : Type 0
FullDeeds = (world : World) (number : ℕ) (old : LocalClone) → IsSound world → LiveAt world number old → (side : Side) (generation : ℕ)
    (told : Told) (place : ℕ) (sent : Message) → message_at world place ≡ Some sent → IsSentAs world (message_value told) sent → Refuses old told fault.HeldFull
    → CarriedDeed world (Deliver place number) number (Keeps (kept_as side generation old)) []

abbrev pub DeepDeeds : Type 0
DeepDeeds = (world : World) (number : ℕ) (old : LocalClone) → IsSound world → LiveAt world number old → (side : Side) (generation : ℕ)
    (told : Told) (place : ℕ) (sent : Message) → message_at world place ≡ Some sent → IsSentAs world (message_value told) sent → Refuses old told fault.Deep
    → CarriedDeed world (Deliver place number) number (Keeps (kept_as side generation old)) []

abbrev pub UnsentDeeds : Type 0
UnsentDeeds = (world : World) (number place : ℕ) (reading : PairReading) → message_at world place ≡ None
    → StandsRead (owner_at world number) world.history reading (kept_of (clone_at world number)) → CarriedDeed world (Deliver place number) number reading []

-- one who asks is told to do anything else
abbrev pub AskingDeeds : Type 0
AskingDeeds = (world : World) (task : CrashTask) → TakesNoMessage task → clone_at world (number_of_task task) ≡ Asking
    → CarriedDeed world (command_of task) (number_of_task task) KeepsNone []

-- a journal that was compacted already, and one that has no more entries than are to be left
abbrev pub UncompactedDeeds : Type 0
UncompactedDeeds = (world : World) (number : ℕ) (old : LocalClone) → IsSound world → LiveAt world number old → AreFusedRuns old.entries old.entries
    → (side : Side) (generation : ℕ) → CarriedDeed world (Compact number) number (Keeps (kept_as side generation old)) []

abbrev pub UntruncatedDeeds : Type 0
UntruncatedDeeds = (world : World) (number : ℕ) (old : LocalClone) → IsSound world → LiveAt world number old → (keep : ℕ) → length old.entries ≤ keep
    → (side : Side) (generation : ℕ) → CarriedDeed world (Truncate number keep) number (Keeps (kept_as side generation old)) []

-- what was done is the deed of the command
abbrev pub DoneIsDeed : Type 0
DoneIsDeed = (world : World) (task : CrashTask) (number : ℕ) (reading : PairReading) (steps : List KeptStep) (reply : Reply) (next : World)
    → IsTaskInForm task → CarriedDeed world (command_of task) number reading steps → PlainStep world (command_of task) reply next
    → CarriesDone world (command_of task) number reading steps reply next

-- ---- crash lines

-- a crash line of which a call was caught leads by some choice to a world for which what the crash left stands
abbrev pub CaughtCrashes : Type 0
CaughtCrashes = (call : ℕ) (world : World) (task : CrashTask) (image : Sides) → IsArmed (clone_at world (number_of_task task)) task
    → (reading : PairReading) (steps : List KeptStep) (leave : Leave)
    → CarriedDeed world (command_of task) (number_of_task task) reading steps
    → call < calls_of_all steps → ReadsCaught reading steps (Armed call leave) image → CrashesTo call world task Crashed image

abbrev pub CaughtOpenings : Type 0
CaughtOpenings = (call : ℕ) (world : World) (number : ℕ) (image : Sides) (reading : PairReading) → IsArmed (clone_at world number) (tasks.Open number)
    → call < opening_calls (clone_at world number) (tasks.Open number)
    → StandsRead (owner_at world number) world.history reading (kept_of (clone_at world number)) → read_banks image ≡ reading
    → CrashesTo call world (tasks.Open number) Crashed image

-- and so does one whose clone crashed behind its command, where all durable steps stand
abbrev pub DoneCrashes : Type 0
DoneCrashes = (call : ℕ) (world : World) (task : CrashTask) (image : Sides) → IsArmed (clone_at world (number_of_task task)) task
    → (reading : PairReading) (steps : List KeptStep) (reply : Reply) (after : World) → IsTaskInForm task
    → CarriedDeed world (command_of task) (number_of_task task) reading steps → PlainStep world (command_of task) reply after
    → opening_calls (clone_at world (number_of_task task)) task + calls_of_all steps ≤ call
    → ImageStands after (number_of_task task) image → CrashesTo call world task (ThenCrashed reply) image

-- then a running world whose clone is down stands for that world
abbrev pub CaughtFollows : Type 0
CaughtFollows = (running : RunningWorld) (world : World) → StandsFor running world → IsSound world → (call : ℕ) (leave : Leave) (task : CrashTask) (image : Sides)
    → IsArmed (clone_at world (number_of_task task)) task → CrashesTo call world task Crashed image
    → FollowsCrash call leave world task Crashed (stepped_into running (number_of_task task) (states.Down tt)) image

abbrev pub DoneFollows : Type 0
DoneFollows = (call : ℕ) (leave : Leave) (world : World) (task : CrashTask) (image : Sides) → IsSound world → IsArmed (clone_at world (number_of_task task)) task
    → (reading : PairReading) (steps : List KeptStep) (reply : Reply) (after : World) (running : RunningWorld) → IsTaskInForm task
    → CarriedDeed world (command_of task) (number_of_task task) reading steps → PlainStep world (command_of task) reply after
    → opening_calls (clone_at world (number_of_task task)) task + calls_of_all steps ≤ call → IsSound after → StandsFor running after
    → ImageStands after (number_of_task task) image
    → FollowsCrash call leave world task (ThenCrashed reply) (record running { clones = slice_set running.clones (number_of_task task) (states.Down tt) }) image
