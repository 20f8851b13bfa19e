-- The laws of schedules and of the worlds that they reach, as the contracts of the crate state them.
use Rattle.std.specs.Prelude.{◌≡◌, ℕ, ◌<◌, List, [], ◌∷◌, ◌↔◌, length, Bool}
use Rattle.mld_io.specs.declared.banks.Leave.{Leave}
use Rattle.rdf_terms.specs.declared.terms.Triple.{Triple}
use Rattle.tree_clock.specs.declared.dots.Dot.{Dot}
use Rattle.tree_clock.specs.declared.dots.Range.{Range}
use Rattle.mld_ops.specs.declared.tagged.Tagged.{Tagged}
use Rattle.mld_ops.specs.Effects.{DeletesAll}
use Rattle.mld_ops.specs.History.{Operation}
use Rattle.mld_ops.specs.Meaning.{IsMeaning}
use Rattle.schedule_model.specs.declared.Command.{Command}
use Rattle.schedule_model.specs.declared.Command.TheVariants.{Add, Remove, Update, Crash}
use Rattle.schedule_model.specs.declared.CrashTask.{CrashTask}
use Rattle.mld_model.specs.Clone.{AreKnownTo}
use Rattle.mld_model.specs.World.{World, clone_at, founded}
use Rattle.mld_model.specs.Reply.{Reply, Crashed}
use Rattle.schedule_model.specs.Step.{HasCloneNumbers, IsCommandInForm, number_of_clone, IsCrash, Step, StepBy}
use Rattle.schedule_model.specs.Tasks.{command_of, command_done, number_of_task}
use Rattle.schedule_model.specs.PlainStep.{PlainStep}
use Rattle.schedule_model.specs.Crashing.{IsArmed, IsUp}
use Rattle.schedule_model.specs.Updating.{AddsTriple}
use Rattle.jrql_ast.specs.declared.plans.UpdatePlan.{UpdatePlan}
use Rattle.jrql_eval.specs.PlanEffects.{IsPlanEffect}
use Rattle.mld_model.specs.Sound.{IsSound}
use Rattle.schedule_model.specs.Schedule.{IsNothing, Setup, SpellsSetup, SpellsSingle, SpellsCommand, IsCrashLine}
use Rattle.schedule_model.specs.Answers.{Remembers, RemembersUpdate, TellsOfDot, Survives}
use Rattle.schedule_model.specs.Promises.{ClonesAnswerAlike, AnswersHold, LeavesDiffer, KeepsPromises}
use Rattle.schedule_model.specs.Runs.{Stage, Waiting, IsWorldOf, ActsBy, Acts, Runs, first_choice, later_choices, RunsBy, IsBad, Outcome, Finished, BadLine, Verdict, VerdictBy}

-- a line is at most one of these: it says nothing, it is a domain line, it sets a property, it is a command
pub record IsOfOneKind (line : List ℕ) : Type 0 where
  pub nothing_setup : IsNothing line → (setup : Setup) → ¬ SpellsSetup line setup
  pub nothing_command : IsNothing line → (domain : List ℕ) (command : Command) → ¬ SpellsCommand domain line command
  pub nothing_single : IsNothing line → (property : List ℕ) → ¬ SpellsSingle line property
  pub setup_single : (setup : Setup) → SpellsSetup line setup → (property : List ℕ) → ¬ SpellsSingle line property
  pub single_command : (property : List ℕ) → SpellsSingle line property → (domain : List ℕ) (command : Command) → ¬ SpellsCommand domain line command
  pub setup_command : (setup : Setup) → SpellsSetup line setup → (domain : List ℕ) (command : Command) → ¬ SpellsCommand domain line command

-- each line is of at most one kind
abbrev pub OneKind : Type 0
OneKind = (line : List ℕ) → IsOfOneKind line

-- a domain line spells one setup
abbrev pub OneSetup : Type 0
OneSetup = (line : List ℕ) (setup other : Setup) → SpellsSetup line setup → SpellsSetup line other → setup ≡ other

-- a line spells one property
abbrev pub OneProperty : Type 0
OneProperty = (line property other : List ℕ) → SpellsSingle line property → SpellsSingle line other → property ≡ other

-- a line spells one command
abbrev pub OneCommand : Type 0
OneCommand = (domain line : List ℕ) (command other : Command) → SpellsCommand domain line command → SpellsCommand domain line other → command ≡ other

-- A step of a world by a command in form has one reply, and leads to one world: a crash line by each choice, and any other command whatever
-- the choice is.
abbrev pub OneStep : Type 0
OneStep = (choice second : Bool) (world : World) (command : Command) (reply other : Reply) (next after : World) → IsCommandInForm command
    → (IsCrash command → choice ≡ second) → StepBy choice world command reply next → StepBy second world command other after
    → (reply ≡ other) × (next ≡ after)

-- each step is made by some choice
abbrev pub StepsByChoice : Type 0
StepsByChoice = (world : World) (command : Command) (reply : Reply) (next : World)
    → Step world command reply next ↔ ((choice : Bool) × StepBy choice world command reply next)

-- a clone whose device is armed is live or asks once the command of a crash line is done, so where no call is caught it is this clone that crashes
abbrev pub ArmedStaysUp : Type 0
ArmedStaysUp = (world : World) (task : CrashTask) (reply : Reply) (next : World) → IsArmed (clone_at world (number_of_task task)) task
    → PlainStep world (command_of task) reply next → IsUp (clone_at next (number_of_task task))

-- where it isn't armed nothing changes
abbrev pub UnarmedStays : Type 0
UnarmedStays = (world : World) (task : CrashTask) (reply : Reply) (next : World) → ¬ IsArmed (clone_at world (number_of_task task)) task
    → PlainStep world (command_of task) reply next → next ≡ world

-- where a crash line replies `crashed` alone nothing was sent
abbrev pub CaughtIsQuiet : Type 0
CaughtIsQuiet = (world : World) (call : ℕ) (leave : Leave) (task : CrashTask) (next : World) → Step world (Crash call leave task) Crashed next
    → next.messages ≡ world.messages

-- a crash line whose command makes a step makes one by each choice
abbrev pub CrashHasStep : Type 0
CrashHasStep = (choice : Bool) (call : ℕ) (leave : Leave) (world : World) (task : CrashTask) (reply : Reply) (next : World) → number_of_task task < length world.clones
    → PlainStep world (command_of task) reply next → (told : Reply) × (after : World) × StepBy choice world (Crash call leave task) told after

-- a line adds one text to what is written, and leads to one stage: a crash line by each choice, and any other line whatever the choice is
abbrev pub OneAct : Type 0
OneAct = (choice second : Bool) (stage : Stage) (line text other : List ℕ) (next after : Stage) → (IsCrashLine line → choice ≡ second)
    → ActsBy (StepBy choice) stage line text next → ActsBy (StepBy second) stage line other after → (text ≡ other) × (next ≡ after)

-- a line that says nothing or acts isn't outside the grammar
abbrev pub OneOutcome : Type 0
OneOutcome = (stage : Stage) (line text : List ℕ) (next : Stage) → Acts stage line text next → ¬ IsBad stage line

-- the choices are the same at each crash line
abbrev pub ChooseAlike : List (List ℕ) → List Bool → List Bool → Type 0
ChooseAlike [] choices others = Unit {0}
ChooseAlike (line ∷ lines) choices others =
    (IsCrashLine line → first_choice choices ≡ first_choice others) × ChooseAlike lines (later_choices choices) (later_choices others)

-- no line is a crash line
abbrev pub HasNoCrash : List (List ℕ) → Type 0
HasNoCrash [] = Unit {0}
HasNoCrash (line ∷ lines) = (¬ IsCrashLine line) × HasNoCrash lines

-- a run over lines writes one text, and leads to one stage, by the same choices at each crash line
abbrev pub OneRun : Type 0
OneRun = (choices others : List Bool) (stage : Stage) (lines : List (List ℕ)) (text other : List ℕ) (next after : Stage) → ChooseAlike lines choices others
    → RunsBy choices stage lines text next → RunsBy others stage lines other after → (text ≡ other) × (next ≡ after)

-- each run is one by some choices, one for each line
abbrev pub RunsByChoices : Type 0
RunsByChoices = (stage : Stage) (lines : List (List ℕ)) (text : List ℕ) (next : Stage)
    → Runs stage lines text next ↔ ((choices : List Bool) × RunsBy choices stage lines text next)

-- the lines of a schedule have one verdict, by the same choices at each crash line
abbrev pub OneVerdict : Type 0
OneVerdict = (choices others : List Bool) (lines : List (List ℕ)) (outcome other : Outcome) → ChooseAlike lines choices others
    → VerdictBy choices lines outcome → VerdictBy others lines other → outcome ≡ other

-- each verdict is one by some choices
abbrev pub VerdictsByChoices : Type 0
VerdictsByChoices = (lines : List (List ℕ)) (outcome : Outcome) → Verdict lines outcome ↔ ((choices : List Bool) × VerdictBy choices lines outcome)

-- both are finished, or both have a bad line, of one number
abbrev pub AreOfOneKind : Outcome → Outcome → Type 0
AreOfOneKind (Finished text world) (Finished other second) = Unit {0}
AreOfOneKind (BadLine number text stage) (BadLine second other after) = number ≡ second
AreOfOneKind outcome other = ⊥

-- whatever the choices are, the lines are finished or have the same first bad line
abbrev pub OneKindOfVerdict : Type 0
OneKindOfVerdict = (lines : List (List ℕ)) (outcome other : Outcome) → Verdict lines outcome → Verdict lines other → AreOfOneKind outcome other

-- and lines without a crash line have one verdict
abbrev pub OnePlainVerdict : Type 0
OnePlainVerdict = (lines : List (List ℕ)) (outcome other : Outcome) → HasNoCrash lines → Verdict lines outcome → Verdict lines other → outcome ≡ other

-- the founded world is sound
abbrev pub FoundedIsSound : Type 0
FoundedIsSound = (domain : List ℕ) (properties : List (List ℕ)) (count : ℕ) → IsSound (founded domain properties count)

-- a step of a sound world, by a command whose clones there are, leads to a sound world
abbrev pub StepIsSound : Type 0
StepIsSound = (world : World) (command : Command) (reply : Reply) (next : World) → HasCloneNumbers command → IsSound world
    → Step world command reply next → IsSound next

-- each world that a schedule reaches is sound
abbrev pub RunsAreSound : Type 0
RunsAreSound = (lines : List (List ℕ)) (text : List ℕ) (stage : Stage) (world : World) → Runs Waiting lines text stage → IsWorldOf stage world → IsSound world

-- clones that know the same dots have the same pairs
abbrev pub SamePairs : Type 0
SamePairs = (history : List Operation) (known other : List Range) (pairs others : List Tagged)
    → AreKnownTo known other → AreKnownTo other known → IsMeaning history known pairs → IsMeaning history other others → pairs ≡ others

-- clones of a world that know the same dots answer each query alike
abbrev pub SameAnswers : Type 0
SameAnswers = (world : World) → ClonesAnswerAlike world

-- the dot that an `add` tells of, also in a crash line, is that of an operation that its clone made to insert the triple alone; the step put it
-- at the head of the history, and its clone remembers it
abbrev pub AddRemembers : Type 0
AddRemembers = (world : World) (command : Command) (number : ℕ) (triple : Triple) (reply : Reply) (dot : Dot) (next : World)
    → command_done command ≡ Add number triple → TellsOfDot reply dot → Step world command reply next → RemembersUpdate world number (AddsTriple triple) dot next

-- the dot that a `remove` tells of is that of an operation that its clone made to delete all pairs of the triple that it had, at least one;
-- the step put it at the head of the history, and its clone remembers it
abbrev pub RemoveRemembers : Type 0
RemoveRemembers = (world : World) (command : Command) (number : ℕ) (triple : Triple) (reply : Reply) (dot : Dot) (next : World)
    → command_done command ≡ Remove number triple → TellsOfDot reply dot → Step world command reply next → RemembersUpdate world number (DeletesAll triple) dot next

-- the dot that an `update` tells of is that of an operation that its clone made by the effect of the plan on the pairs that it had; the step
-- put it at the head of the history, and its clone remembers it
abbrev pub UpdateRemembers : Type 0
UpdateRemembers = (world : World) (command : Command) (number : ℕ) (plan : UpdatePlan) (reply : Reply) (dot : Dot) (next : World)
    → command_done command ≡ Update number plan → TellsOfDot reply dot → Step world command reply next
    → RemembersUpdate world number (λ pairs effect. IsPlanEffect world.domain dot pairs plan effect) dot next

-- the dot that a command tells of, alone or before `crashed`, is that of an operation which its step put at the head of the history, and the
-- clone that the command says of remembers it
abbrev pub DidRemembers : Type 0
DidRemembers = (world : World) (command : Command) (reply : Reply) (dot : Dot) (next : World)
    → TellsOfDot reply dot → Step world command reply next → Survives world next dot next (number_of_clone command)

-- what a clone remembers before a step it remembers after it
abbrev pub StepRemembers : Type 0
StepRemembers = (world : World) (number : ℕ) (operation : Operation) (command : Command) (reply : Reply) (next : World)
    → Remembers world number operation → Step world command reply next → Remembers next number operation

-- in the world that a schedule reaches, each clone remembers the operation of each of its lines that was answered with a dot
abbrev pub AnswersSurvive : Type 0
AnswersSurvive = (lines : List (List ℕ)) (world : World) → AnswersHold lines world

-- no two clones of a sound world hold one leaf
abbrev pub OneLeaf : Type 0
OneLeaf = (world : World) → IsSound world → LeavesDiffer world

-- the world that a schedule reaches keeps what is promised
abbrev pub RunsKeepPromises : Type 0
RunsKeepPromises = (lines : List (List ℕ)) (text : List ℕ) (stage : Stage) (world : World) → Runs Waiting lines text stage → IsWorldOf stage world → KeepsPromises lines world
