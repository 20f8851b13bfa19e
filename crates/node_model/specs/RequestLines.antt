-- The grammar of requests: lines of the shell without their LF, and two of the node's own.
use Rattle.std.specs.Prelude.{◌≡◌, ◌≢◌, ℕ, List, codes, Some}
use Rattle.shell_session.specs.declared.commands.ShellCommand.{ShellCommand}
use Rattle.shell_session.specs.declared.commands.ShellCommand.TheVariants as shell
use Rattle.shell_session.specs.ReadShell.{IsShellInForm}
use Rattle.shell_session.specs.ShellLines.{SpellsShell}
use Rattle.node_model.specs.declared.requests.Request.{Request}
use Rattle.node_model.specs.declared.requests.Request.TheVariants.{Command, Ask, Halt, Bad}

-- a node does these of the shell's commands: the others begin or end a clone
abbrev pub IsNodeCommand : ShellCommand → Type 0
IsNodeCommand shell.Open = ⊥
IsNodeCommand (shell.Create id domain properties) = ⊥
IsNodeCommand shell.Stop = ⊥
IsNodeCommand shell.Skipped = ⊥
IsNodeCommand command = Unit {0}

-- so that a line that spells a command of the shell asks for this
abbrev pub asked_by : ShellCommand → Request
asked_by shell.Open = Bad
asked_by (shell.Create id domain properties) = Bad
asked_by shell.Stop = Bad
asked_by shell.Skipped = Bad
asked_by command = Command command

abbrev pub ask_line : List ℕ
ask_line = codes "ask"

abbrev pub halt_line : List ℕ
halt_line = codes "halt"

-- the line is outside the grammar
pub record IsBadRequest (domain line : List ℕ) : Type 0 where
  pub no_ask : line ≢ ask_line
  pub no_halt : line ≢ halt_line
  pub no_command : (command : ShellCommand) → IsNodeCommand command → ¬ SpellsShell (Some domain) line command

-- what a line asks of a node of this domain
abbrev pub SpellsRequest : List ℕ → List ℕ → Request → Type 0
SpellsRequest domain line (Command command) = IsNodeCommand command × SpellsShell (Some domain) line command
SpellsRequest domain line Ask = line ≡ ask_line
SpellsRequest domain line Halt = line ≡ halt_line
SpellsRequest domain line Bad = IsBadRequest domain line

-- the command's plan or query is in form, where it has one, and the node does it
abbrev pub IsRequestInForm : Request → Type 0
IsRequestInForm (Command command) = IsNodeCommand command × IsShellInForm command
IsRequestInForm request = Unit {0}

-- a line asks for one thing
abbrev pub OneRequest : Type 0
OneRequest = (domain line : List ℕ) (first second : Request)
    → SpellsRequest domain line first → SpellsRequest domain line second → first ≡ second
