-- What a line of a schedule was read as. The clauses of `read_setup`, `read_command` and of the readings within a line cite it.
use Rattle.std.specs.Prelude.{◌≡◌, ◌≢◌, ℕ, ◌<◌, ◌^◌, List, ◌∷◌, ◌++◌, Option, None, Some, Ok, MatchOption}
use Rattle.std.specs.Str.{IsUtf8}
use Rattle.std.specs.Fmt.{decimal}
use Rattle.mld_io.specs.declared.banks.Leave.{Leave}
use Rattle.rdf_terms.specs.declared.terms.Triple.{Triple}
use Rattle.rdf_terms.specs.Grammar.{SpellsTriple, IsTripleWithin}
use Rattle.jrql_ast.specs.declared.plans.UpdatePlan.{UpdatePlan}
use Rattle.jrql_update.specs.UpdateReading.{update_read}
use Rattle.schedule_model.specs.jrql_patterns.QueryReading.{query_read}
use Rattle.schedule_model.specs.jrql_patterns.declared.queries.ReadQuery.{ReadQuery}
use Rattle.schedule_model.specs.Characters.{space}
use Rattle.schedule_model.specs.declared.Command.TheVariants.{Add, Remove, Update, Deliver, Show, Query, Compare, Join, Ask, Compact, Truncate, Stop, Open, Crash}
use Rattle.schedule_model.specs.declared.Command.{Command}
use Rattle.schedule_model.specs.declared.CrashTask.{CrashTask}
use Rattle.schedule_model.specs.Schedule.{Setup as ModelSetup, IsNothing, SpellsSetup, SetsProperty, with_property, SpellsPlain, SpellsCommand, leave_word, IsCloneNumber}
use Rattle.schedule_model.specs.Runs.{IsBad, Waiting}
use Rattle.schedule_model.specs.Step.{IsCommandInForm}
use Rattle.schedule_model.specs.Tasks.{command_of}
use Rattle.schedule_text.specs.declared.setups.Setup.{Setup}
use Rattle.schedule_text.specs.declared.setups.SetupLine.{SetupLine}
use Rattle.schedule_text.specs.declared.setups.SetupLine.TheVariants as lines

-- the setup of the model
abbrev pub setup_of : Setup → ModelSetup
setup_of setup = record { domain = setup.domain; properties = setup.props.items; count = setup.clones }

-- what a line was read as before the clones are founded: while no domain line has come it says nothing, or it is the domain
-- line; and behind that one it sets one more single-valued property, or leaves the setup as it was
abbrev pub SetupIs : List ℕ → Option Setup → SetupLine → Type 0
SetupIs line None (lines.Other None) = IsNothing line
SetupIs line None (lines.Other (Some setup)) = ⊥
SetupIs line None (lines.Setup setup) = SpellsSetup line (setup_of setup)
SetupIs line (Some setup) (lines.Other so_far) = (so_far ≡ Some setup) × ((property : List ℕ) → ¬ SetsProperty (setup_of setup) line property)
SetupIs line (Some setup) (lines.Setup next) =
    (property : List ℕ) × SetsProperty (setup_of setup) line property × (setup_of next ≡ with_property (setup_of setup) property)

-- a reading found a value that is such a one, or it found none, and no value is
abbrev pub Finds : {A : Type 0} → (A → Type 0) → Option A → Type 0
Finds {A} Is found = MatchOption found ((value : A) → ¬ Is value) Is

-- a reading found the number below the bound that the text writes with no sign and no leading zero, or the text writes no such number
abbrev pub FindsBelow : ℕ → List ℕ → Option ℕ → Type 0
FindsBelow bound text found = MatchOption found ((number : ℕ) → number < bound → text ≢ decimal number)
    (λ number. (number < bound) × (text ≡ decimal number))

-- no domain line has come, and the line is outside the grammar
abbrev pub IsBadSetup : List ℕ → Option Setup → Type 0
IsBadSetup line None = IsBad Waiting line
IsBadSetup line (Some setup) = ⊥

-- a line that was read behind the domain line of this domain: it says nothing, or it is a command
abbrev pub CommandIs : List ℕ → List ℕ → Option Command → Type 0
CommandIs domain line None = IsNothing line
CommandIs domain line (Some command) = SpellsCommand domain line command

-- it is outside the grammar
abbrev pub IsBadCommand : List ℕ → List ℕ → Type 0
IsBadCommand domain line = ¬ IsNothing line × ((command : Command) → ¬ SpellsCommand domain line command)

-- the text of a triple within the limits
pub record IsTripleText (text : List ℕ) (triple : Triple) : Type 0 where
  pub bytes : IsUtf8 text
  pub spelled : SpellsTriple text triple
  pub within : IsTripleWithin triple

-- what was read of a line has its query in form, where it is one
abbrev pub IsFoundInForm : Option Command → Type 0
IsFoundInForm None = Unit {0}
IsFoundInForm (Some command) = IsCommandInForm command

-- the JSON text says the query in the domain of this name
abbrev pub IsQueryText : List ℕ → List ℕ → ReadQuery → Type 0
IsQueryText domain text read = query_read domain text ≡ Ok read

-- what follows the first word of a command and its space

-- a clone's number, a space, and the text of a triple
pub record IsCloneAndTriple (rest : List ℕ) (number : ℕ) (triple : Triple) : Type 0 where
  pub text : List ℕ
  pub whole : rest ≡ decimal number ++ space ∷ text
  pub clone : IsCloneNumber number
  pub spelled : IsTripleText text triple

abbrev pub IsAddRest : List ℕ → Command → Type 0
IsAddRest rest command = (number : ℕ) × (triple : Triple) × (command ≡ Add number triple) × IsCloneAndTriple rest number triple

abbrev pub IsRemoveRest : List ℕ → Command → Type 0
IsRemoveRest rest command = (number : ℕ) × (triple : Triple) × (command ≡ Remove number triple) × IsCloneAndTriple rest number triple

abbrev pub IsDeliverRest : List ℕ → Command → Type 0
IsDeliverRest rest command = (message : ℕ) × (number : ℕ) × (command ≡ Deliver message number) × (rest ≡ decimal message ++ space ∷ decimal number)
    × (message < 2 ^ 64) × IsCloneNumber number

abbrev pub IsShowRest : List ℕ → Command → Type 0
IsShowRest rest command = (number : ℕ) × (command ≡ Show number) × (rest ≡ decimal number) × IsCloneNumber number

-- a clone's number, a space, and the text of a query
pub record IsCloneAndQuery (domain rest : List ℕ) (number : ℕ) (read : ReadQuery) : Type 0 where
  pub text : List ℕ
  pub whole : rest ≡ decimal number ++ space ∷ text
  pub clone : IsCloneNumber number
  pub said : IsQueryText domain text read

-- the rest of a `query` line
abbrev pub IsQueryRest : List ℕ → List ℕ → Command → Type 0
IsQueryRest domain rest command = (number : ℕ) × (read : ReadQuery) × (command ≡ Query number read) × IsCloneAndQuery domain rest number read

-- the JSON text says the plan of an update in the domain of this name
abbrev pub IsUpdateText : List ℕ → List ℕ → UpdatePlan → Type 0
IsUpdateText domain text plan = update_read domain text ≡ Ok plan

-- a clone's number, a space, and the text of an update
pub record IsCloneAndUpdate (domain rest : List ℕ) (number : ℕ) (plan : UpdatePlan) : Type 0 where
  pub text : List ℕ
  pub whole : rest ≡ decimal number ++ space ∷ text
  pub clone : IsCloneNumber number
  pub said : IsUpdateText domain text plan

-- the rest of an `update` line
abbrev pub IsUpdateRest : List ℕ → List ℕ → Command → Type 0
IsUpdateRest domain rest command = (number : ℕ) × (plan : UpdatePlan) × (command ≡ Update number plan) × IsCloneAndUpdate domain rest number plan

abbrev pub IsCompareRest : List ℕ → Command → Type 0
IsCompareRest rest command = (number : ℕ) × (other : ℕ) × (command ≡ Compare number other) × (rest ≡ decimal number ++ space ∷ decimal other)
    × IsCloneNumber number × IsCloneNumber other

abbrev pub IsJoinRest : List ℕ → Command → Type 0
IsJoinRest rest command = (number : ℕ) × (command ≡ Join number) × (rest ≡ decimal number) × IsCloneNumber number

-- the rest of an `ask` line
abbrev pub IsAskRest : List ℕ → Command → Type 0
IsAskRest rest command = (number : ℕ) × (command ≡ Ask number) × (rest ≡ decimal number) × IsCloneNumber number

-- the rest of a `compact` line
abbrev pub IsCompactRest : List ℕ → Command → Type 0
IsCompactRest rest command = (number : ℕ) × (command ≡ Compact number) × (rest ≡ decimal number) × IsCloneNumber number

-- the rest of a `truncate` line
abbrev pub IsTruncateRest : List ℕ → Command → Type 0
IsTruncateRest rest command = (number : ℕ) × (keep : ℕ) × (command ≡ Truncate number keep) × (rest ≡ decimal number ++ space ∷ decimal keep)
    × IsCloneNumber number × (keep < 2 ^ 64)

-- the rest of a `stop` line
abbrev pub IsStopRest : List ℕ → Command → Type 0
IsStopRest rest command = (number : ℕ) × (command ≡ Stop number) × (rest ≡ decimal number) × IsCloneNumber number

-- the rest of an `open` line
abbrev pub IsOpenRest : List ℕ → Command → Type 0
IsOpenRest rest command = (number : ℕ) × (command ≡ Open number) × (rest ≡ decimal number) × IsCloneNumber number

-- the number of a call, what the crash leaves, and a text, with a space between each two
pub record IsArming (rest : List ℕ) (call : ℕ) (leave : Leave) (text : List ℕ) : Type 0 where
  pub whole : rest ≡ decimal call ++ space ∷ (leave_word leave ++ space ∷ text)
  pub small : call < 2 ^ 32

-- and the text spells the command of a crash line in this domain
pub record IsArmedTask (domain rest : List ℕ) (call : ℕ) (leave : Leave) (task : CrashTask) : Type 0 where
  pub text : List ℕ
  pub arms : IsArming rest call leave text
  pub spells : SpellsPlain domain text (command_of task)

-- the rest of a `crash` line
abbrev pub IsCrashRest : List ℕ → List ℕ → Command → Type 0
IsCrashRest domain rest command =
    (call : ℕ) × (leave : Leave) × (task : CrashTask) × (command ≡ Crash call leave task) × IsArmedTask domain rest call leave task
