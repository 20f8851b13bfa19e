-- What a line of the shell was read as. `read_shell` cites it.
use Rattle.std.specs.Prelude.{◌≡◌, ℕ, List, [], ◌∷◌, ◌++◌, codes, Option, None, Some}
use Rattle.jrql_ast.specs.InForm.{IsPlanInForm, IsQueryInForm}
use Rattle.schedule_text.specs.schedule_model.Characters.{space}
use Rattle.schedule_text.specs.schedule_model.Lacking.{Lacks}
use Rattle.schedule_text.specs.schedule_model.Schedule.{IsNothing}
use Rattle.shell_session.specs.declared.commands.ShellCommand.{ShellCommand}
use Rattle.shell_session.specs.declared.commands.ShellCommand.TheVariants.{Open, Create, Update, Query, Show, Compact, Stop}
use Rattle.shell_session.specs.ShellLines.{SpellsShell, IsCreation}

-- it says nothing, or it is a command
abbrev pub ShellIs : Option (List ℕ) → List ℕ → Option ShellCommand → Type 0
ShellIs domain line None = IsNothing line
ShellIs domain line (Some command) = SpellsShell domain line command

-- it is outside the grammar
abbrev pub IsBadShell : Option (List ℕ) → List ℕ → Type 0
IsBadShell domain line = ¬ IsNothing line × ((command : ShellCommand) → ¬ SpellsShell domain line command)

-- its plan or query is in form, where it has one
abbrev pub IsShellInForm : ShellCommand → Type 0
IsShellInForm (Update plan) = IsPlanInForm plan
IsShellInForm (Query read) = IsQueryInForm read.query
IsShellInForm command = Unit {0}

-- and so is that of what was read
abbrev pub IsReadInForm : Option ShellCommand → Type 0
IsReadInForm None = Unit {0}
IsReadInForm (Some command) = IsShellInForm command

-- the command of what follows `create` and a space
abbrev pub IsCreationOf : List ℕ → ShellCommand → Type 0
IsCreationOf text (Create id domain properties) = IsCreation text id domain properties.items
IsCreationOf text command = ⊥

-- what follows a word: nothing, or a space and a rest
abbrev pub tail_of : Option (List ℕ) → List ℕ
tail_of None = []
tail_of (Some rest) = space ∷ rest

-- the first word of a text, and the rest behind its space
pub record IsFirstWord (text word : List ℕ) (rest : Option (List ℕ)) : Type 0 where
  pub whole : text ≡ word ++ tail_of rest
  pub spaceless : Lacks space word

-- the command of a line that is one word
abbrev pub SpellsBare : List ℕ → ShellCommand → Type 0
SpellsBare line Open = line ≡ codes "open"
SpellsBare line Show = line ≡ codes "show"
SpellsBare line Compact = line ≡ codes "compact"
SpellsBare line Stop = line ≡ codes "stop"
SpellsBare line command = ⊥
