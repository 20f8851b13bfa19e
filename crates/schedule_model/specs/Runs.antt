-- Runs of the model over lines, and the verdict on the lines of a schedule. `run_replay` and `run_generated` cite it.
use Rattle.std.specs.Prelude.{◌≡◌, ℕ, ◌+◌, List, [], ◌∷◌, ◌++◌, Bool, false, length}
use Rattle.schedule_model.specs.declared.Command.{Command}
use Rattle.mld_model.specs.World.{World, founded}
use Rattle.mld_model.specs.Reply.{Reply, Ready, PropertySet}
use Rattle.schedule_model.specs.ReplyText.{reply_text}
use Rattle.schedule_model.specs.Step.{Step, StepBy}
use Rattle.schedule_model.specs.Schedule.{IsNothing, Setup, KeepsEachOnce, SpellsSetup, SetsProperty, with_property, SpellsCommand}

-- how far a schedule has come
pub data Stage : Type 0 where
  -- no domain line has come
  Waiting : Stage
  -- the domain is set up, and no clone is founded
  SetUp : Setup → Stage
  -- the clones are founded
  Running : World → Stage

-- the world is founded with a setup: each single-valued property of that is kept once
pub record IsFoundedBy (setup : Setup) (world : World) : Type 0 where
  pub kept : List (List ℕ)
  pub each : KeepsEachOnce setup.properties kept
  pub is : world ≡ founded setup.domain kept setup.count

-- the world that the clones of a stage are founded in: the first command founds them, and so does the end of the lines
abbrev pub IsWorldOf : Stage → World → Type 0
IsWorldOf Waiting world = ⊥
IsWorldOf (SetUp setup) world = IsFoundedBy setup world
IsWorldOf (Running now) world = world ≡ now

-- the domain line sets up
pub record SetsUp (line text : List ℕ) (next : Stage) : Type 0 where
  pub setup : Setup
  pub spells : SpellsSetup line setup
  pub replies : text ≡ reply_text (Ready setup.count)
  pub changes : next ≡ SetUp setup

-- a line sets one more single-valued property
pub record SetsOne (setup : Setup) (line text : List ℕ) (next : Stage) : Type 0 where
  pub property : List ℕ
  pub sets : SetsProperty setup line property
  pub replies : text ≡ reply_text PropertySet
  pub changes : next ≡ SetUp (with_property setup property)

-- a command line makes one step of the world, by these steps, and founds it first where no clone is founded
pub record CommandsBy (Steps : World → Command → Reply → World → Type 0) (stage : Stage) (line text : List ℕ) (next : Stage) : Type 0 where
  pub world : World
  pub founds : IsWorldOf stage world
  pub command : Command
  pub reply : Reply
  pub after : World
  pub spells : SpellsCommand world.domain line command
  pub steps : Steps world command reply after
  pub replies : text ≡ reply_text reply
  pub changes : next ≡ Running after

-- the line says nothing, or is the domain line, or sets a property, or commands: it adds the text to what is written and leads to the next stage
pub data ActsBy (Steps : World → Command → Reply → World → Type 0) : Stage → List ℕ → List ℕ → Stage → Type 0 where
  says_nothing : {stage : Stage} {line text : List ℕ} {next : Stage} → IsNothing line → text ≡ [] → next ≡ stage → ActsBy Steps stage line text next
  sets_up : {line text : List ℕ} {next : Stage} → SetsUp line text next → ActsBy Steps Waiting line text next
  sets_property : {setup : Setup} {line text : List ℕ} {next : Stage} → SetsOne setup line text next → ActsBy Steps (SetUp setup) line text next
  commands : {stage : Stage} {line text : List ℕ} {next : Stage} → CommandsBy Steps stage line text next → ActsBy Steps stage line text next

-- a command line, and any line, by the steps of the model
abbrev pub Commands : Stage → List ℕ → List ℕ → Stage → Type 0
Commands stage line text next = CommandsBy Step stage line text next

abbrev pub Acts : Stage → List ℕ → List ℕ → Stage → Type 0
Acts stage line text next = ActsBy Step stage line text next

-- a run over lines, one after another: the text is what they add, in order
abbrev pub Runs : Stage → List (List ℕ) → List ℕ → Stage → Type 0
Runs stage [] text next = (text ≡ []) × (next ≡ stage)
Runs stage (line ∷ lines) text next =
    (front : List ℕ) × (rest : List ℕ) × (middle : Stage) × Acts stage line front middle × Runs middle lines rest next × (text ≡ front ++ rest)

-- of choices, one for each line: the first, and those behind it; where there are no more, it is no
abbrev pub first_choice : List Bool → Bool
first_choice [] = false
first_choice (choice ∷ choices) = choice

abbrev pub later_choices : List Bool → List Bool
later_choices [] = []
later_choices (choice ∷ choices) = choices

-- a run over lines by these choices
abbrev pub RunsBy : List Bool → Stage → List (List ℕ) → List ℕ → Stage → Type 0
RunsBy choices stage [] text next = (text ≡ []) × (next ≡ stage)
RunsBy choices stage (line ∷ lines) text next =
    (front : List ℕ) × (rest : List ℕ) × (middle : Stage) × ActsBy (StepBy (first_choice choices)) stage line front middle
    × RunsBy (later_choices choices) middle lines rest next × (text ≡ front ++ rest)

-- the line spells none of what may come at this stage: a domain line while a schedule waits, then a property until the clones are founded,
-- or a command
abbrev pub SpellsNone : Stage → List ℕ → Type 0
SpellsNone Waiting line = (setup : Setup) → ¬ SpellsSetup line setup
SpellsNone (SetUp setup) line =
    ((property : List ℕ) → ¬ SetsProperty setup line property) × ((command : Command) → ¬ SpellsCommand setup.domain line command)
SpellsNone (Running world) line = (command : Command) → ¬ SpellsCommand world.domain line command

-- the line is outside the grammar at this stage
abbrev pub IsBad : Stage → List ℕ → Type 0
IsBad stage line = ¬ IsNothing line × SpellsNone stage line

-- the lines before a line, what they write and the stage that they lead to, by these runs
pub record RunsBeforeBy (Leads : List (List ℕ) → List ℕ → Stage → Type 0) (lines : List (List ℕ)) (number : ℕ) (text : List ℕ) (stage : Stage) : Type 0 where
  pub front : List (List ℕ)
  pub rest : List (List ℕ)
  pub whole : lines ≡ front ++ rest
  pub counted : number ≡ length front + 1
  pub runs : Leads front text stage

-- by the runs of the model
abbrev pub RunsBefore : List (List ℕ) → ℕ → List ℕ → Stage → Type 0
RunsBefore lines number text stage = RunsBeforeBy (Runs Waiting) lines number text stage

-- the line that comes next
abbrev pub IsFirst : List ℕ → List (List ℕ) → Type 0
IsFirst line lines = (rest : List (List ℕ)) × (lines ≡ line ∷ rest)

-- what stands behind the lines that led to a stage is bad at once: the next line is outside the grammar, or there is none and no line
-- was a domain line
pub data IsBadRest (rest : List (List ℕ)) (stage : Stage) : Type 0 where
  bad_line : (line : List ℕ) → IsFirst line rest → IsBad stage line → IsBadRest rest stage
  no_domain : rest ≡ [] → stage ≡ Waiting → IsBadRest rest stage

-- the line of the number is the first that is bad
pub record StopsBadBy (Leads : List (List ℕ) → List ℕ → Stage → Type 0) (lines : List (List ℕ)) (number : ℕ) (text : List ℕ) (stage : Stage) : Type 0 where
  pub before : RunsBeforeBy Leads lines number text stage
  pub bad : IsBadRest before.rest stage

-- what becomes of a schedule: its last line is done, with the world that it leads to; or a line is the first bad one, with the stage that the
-- lines before it lead to; each with the text that those lines write
pub data Outcome : Type 0 where
  Finished : List ℕ → World → Outcome
  BadLine : ℕ → List ℕ → Stage → Outcome

-- the lines of a schedule have this outcome by these runs; their end founds the clones where no command did
abbrev pub HasOutcomeBy : (List (List ℕ) → List ℕ → Stage → Type 0) → List (List ℕ) → Outcome → Type 0
HasOutcomeBy Leads lines (Finished text world) = (stage : Stage) × Leads lines text stage × IsWorldOf stage world
HasOutcomeBy Leads lines (BadLine number text stage) = StopsBadBy Leads lines number text stage

-- the verdict on the lines of a schedule
unfoldable pub Verdict : List (List ℕ) → Outcome → Type 0
Verdict lines outcome = HasOutcomeBy (Runs Waiting) lines outcome

-- and by these choices
unfoldable pub VerdictBy : List Bool → List (List ℕ) → Outcome → Type 0
VerdictBy choices lines outcome = HasOutcomeBy (RunsBy choices Waiting) lines outcome
