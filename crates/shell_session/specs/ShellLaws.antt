-- The laws of the shell's lines. `one_shell_command` cites it.
use Rattle.std.specs.Prelude.{◌≡◌, ℕ, List, Option}
use Rattle.schedule_text.specs.schedule_model.Schedule.{IsNothing}
use Rattle.shell_session.specs.declared.commands.ShellCommand.{ShellCommand}
use Rattle.shell_session.specs.declared.commands.ShellCommand.TheVariants.{Create}
use Rattle.shell_session.specs.ShellLines.{SpellsShell}

-- the commands are the same; of the properties, the IRIs in their order
abbrev pub IsSameShell : ShellCommand → ShellCommand → Type 0
IsSameShell (Create id domain properties) (Create other name iris) = (id ≡ other) × (domain ≡ name) × (properties.items ≡ iris.items)
IsSameShell command other = command ≡ other

-- a line that says nothing is no command
abbrev pub NothingIsNoCommand : Type 0
NothingIsNoCommand = (domain : Option (List ℕ)) (line : List ℕ) (command : ShellCommand) → IsNothing line → ¬ SpellsShell domain line command

-- a line spells one command
abbrev pub OneShellCommand : Type 0
OneShellCommand = (domain : Option (List ℕ)) (line : List ℕ) (command other : ShellCommand)
    → SpellsShell domain line command → SpellsShell domain line other → IsSameShell command other
