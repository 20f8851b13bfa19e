-- What an answer that tells of a dot promises is kept by each step, and so by each run.
use Rattle.std.specs.Prelude.{◌≡◌, ℕ, List, [], ◌∷◌}
use Rattle.std.proofs.Common.{sym, subst}
use Rattle.mld_ops.specs.declared.tagged.Tagged.{Tagged}
use Rattle.mld_ops.specs.History.{Operation}
use Rattle.mld_ops.specs.Effects.{EffectValue, DeletesAll}
use Rattle.jrql_eval.specs.PlanEffects.{IsPlanEffect}
use Rattle.tree_clock.specs.declared.dots.Dot.{Dot}
use Rattle.schedule_model.specs.declared.Command.{Command}
use Rattle.mld_model.specs.Reply.{Reply}
use Rattle.schedule_model.specs.Updating.{AddsTriple}
use Rattle.schedule_model.specs.Tasks.{command_done}
use Rattle.schedule_model.specs.PlainStep.{PlainStep}
use Rattle.schedule_model.specs.declared.Command.TheVariants.{Add, Remove, Update, Crash}
use Rattle.mld_model.specs.World.{World}
use Rattle.schedule_model.specs.Step.{Step}
use Rattle.schedule_model.specs.Runs.{Stage, Waiting, SetUp, Running, Commands, Acts, says_nothing, commands, Runs}
use Rattle.schedule_model.specs.Answers.{Remembers, RemembersUpdate, TellsOfDot}
use Rattle.schedule_model.specs.Laws.{AddRemembers, RemoveRemembers, UpdateRemembers, DidRemembers, StepRemembers, AnswersSurvive}
use Rattle.schedule_model.proofs.CrashedSteps.{crash_remembers, crash_tells, crash_update}
use Rattle.schedule_model.proofs.PlainAnswers.{UpdateRule, add_rule, remove_rule, update_rule, plain_tells, plain_remembers}

-- the update by the command of a line, whatever the line is
update_by : (world : World) (command plain : Command) (number : ℕ) (rule : List Tagged → EffectValue → Type 0) (reply : Reply) (dot : Dot) (next : World)
    → UpdateRule world plain number rule dot → command_done command ≡ plain → TellsOfDot reply dot → Step world command reply next → RemembersUpdate world number rule dot next
unfolding Step
update_by world (Crash call leave task) plain number rule reply dot next does same tells p =
    crash_update p.0 call world task p.1 reply next plain number rule dot same does tells p.2
update_by world command plain number rule reply dot next does same tells p =
    does reply next tells (subst (λ (c : Command). PlainStep world c reply next) same p)

-- the dot that an `add` tells of is that of an operation which inserts just the triple, and the clone remembers it
pub add_remembers : AddRemembers
add_remembers world command number triple reply dot next same tells p =
    update_by world command (Add number triple) number (AddsTriple triple) reply dot next (add_rule world number triple dot) same tells p

-- the dot that a `remove` tells of is that of an operation which deletes the pairs of the triple, and the clone remembers it
pub remove_remembers : RemoveRemembers
remove_remembers world command number triple reply dot next same tells p =
    update_by world command (Remove number triple) number (DeletesAll triple) reply dot next (remove_rule world number triple dot) same tells p

-- the dot that an `update` tells of is that of an operation by the effect of its plan, and the clone remembers it
pub update_remembers : UpdateRemembers
update_remembers world command number plan reply dot next same tells p =
    update_by world command (Update number plan) number (λ pairs effect. IsPlanEffect world.domain dot pairs plan effect) reply dot next
    (update_rule world number plan dot) same tells p

-- the dot that a command tells of is that of an operation which its step put at the head of the history, and its clone remembers it
pub did_remembers : DidRemembers
unfolding Step
did_remembers world (Crash call leave task) reply dot next tells p = crash_tells p.0 call world task p.1 reply next dot tells p.2
did_remembers world command reply dot next tells p = plain_tells world command reply dot next tells p

-- what is remembered before a step is remembered after it
pub step_remembers : StepRemembers
unfolding Step
step_remembers world number operation (Crash call leave task) reply next remembers p =
    crash_remembers p.0 call world task p.1 reply next number operation remembers p.2
step_remembers world number operation command reply next remembers p = plain_remembers world number operation command reply next remembers p

-- ---- runs

-- a world runs at the stage, and remembers the operation
abbrev StageRemembers : Stage → ℕ → Operation → Type 0
StageRemembers Waiting number operation = ⊥
StageRemembers (SetUp setup) number operation = ⊥
StageRemembers (Running world) number operation = Remembers world number operation

-- a command leads from such a world to another
commands_keep : (world : World) (number : ℕ) (operation : Operation) (line text : List ℕ) (next : Stage)
    → Remembers world number operation → Commands (Running world) line text next → StageRemembers next number operation
commands_keep world number operation line text next remembers p =
    subst (λ (stage : Stage). StageRemembers stage number operation) (sym p.changes)
    (step_remembers p.world number operation p.command p.reply p.after
    (subst (λ (now : World). Remembers now number operation) (sym p.founds) remembers) p.steps)

-- and so does each line
acts_keep : (stage : Stage) (number : ℕ) (operation : Operation) (line text : List ℕ) (next : Stage)
    → StageRemembers stage number operation → Acts stage line text next → StageRemembers next number operation
acts_keep stage number operation line text next remembers (says_nothing nothing none same) =
    subst (λ (stage : Stage). StageRemembers stage number operation) (sym same) remembers
acts_keep Waiting number operation line text next remembers p = absurd remembers
acts_keep (SetUp setup) number operation line text next remembers p = absurd remembers
acts_keep (Running world) number operation line text next remembers (commands p) = commands_keep world number operation line text next remembers p

-- and so do lines
lines_keep : (stage : Stage) (number : ℕ) (operation : Operation) (lines : List (List ℕ)) (text : List ℕ) (next : Stage)
    → StageRemembers stage number operation → Runs stage lines text next → StageRemembers next number operation
lines_keep stage number operation [] text next remembers p = subst (λ (stage : Stage). StageRemembers stage number operation) (sym p.1) remembers
lines_keep stage number operation (line ∷ lines) text next remembers p =
    lines_keep p.2 number operation lines p.1 next (acts_keep stage number operation line p.0 p.2 remembers p.3) p.4

-- the operation of each answer is remembered in the world that its run leads to
pub answers_survive : AnswersSurvive
answers_survive lines world number dot answered =
    let done = did_remembers answered.before answered.command answered.reply dot answered.after answered.tells answered.steps in
    record {
      operation = done.operation;
      is = done.is;
      made = done.made;
      remembers = lines_keep (Running answered.after) number done.operation answered.rest answered.more (Running world)
          (subst (λ (k : ℕ). Remembers answered.after k done.operation) (sym answered.at) done.remembers) answered.goes_on;
    }
