-- What a shell does with lines, one after another.
use Rattle.std.specs.Prelude.{◌≡◌, ℕ, List, [], ◌∷◌, ◌++◌}
use Rattle.schedule_text.specs.schedule_model.Schedule.{IsNothing}
use Rattle.crash_laws.specs.clone_parts.KeptSteps.{KeptStep}
use Rattle.shell_session.specs.declared.commands.ShellCommand.{ShellCommand}
use Rattle.shell_session.specs.ShellLines.{SpellsShell}
use Rattle.shell_session.specs.ReadShell.{IsBadShell}
use Rattle.shell_session.specs.Shells.{Shell, domain_of}
use Rattle.shell_session.specs.ShellReply.{ShellReply, BadLine, shell_text}
use Rattle.shell_session.specs.ShellStep.{ShellStep, IsDue}

-- a line spells a command, which makes a step: the text of its reply is written
pub record CommandsShell (shell : Shell) (line text : List ℕ) (steps : List KeptStep) (next : Shell) : Type 0 where
  pub command : ShellCommand
  pub spells : SpellsShell (domain_of shell) line command
  pub reply : ShellReply
  pub does : ShellStep shell command reply steps next
  pub replies : text ≡ shell_text reply

-- a line says nothing, or it is outside the grammar, or it commands: the text that is written for it, the durable steps on the banks, and the
-- shell then
pub data ShellLine (shell : Shell) (line text : List ℕ) (steps : List KeptStep) (next : Shell) : Type 0 where
  says_nothing : IsNothing line → text ≡ [] → steps ≡ [] → next ≡ shell → ShellLine shell line text steps next
  is_bad : IsBadShell (domain_of shell) line → text ≡ shell_text BadLine → steps ≡ [] → next ≡ shell → ShellLine shell line text steps next
  commands : CommandsShell shell line text steps next → ShellLine shell line text steps next

-- a run over lines: the text is what they write, and the durable steps are theirs, in order
abbrev pub ShellRuns : Shell → List (List ℕ) → List ℕ → List KeptStep → Shell → Type 0
ShellRuns shell [] text steps next = (text ≡ []) × (steps ≡ []) × (next ≡ shell)
ShellRuns shell (line ∷ lines) text steps next =
    (front : List ℕ) × (rest : List ℕ) × (first : List KeptStep) × (later : List KeptStep) × (middle : Shell)
    × ShellLine shell line front first middle × ShellRuns middle lines rest later next
    × (text ≡ front ++ rest) × (steps ≡ first ++ later)

-- the durable steps that a line has to make, where it has any
abbrev pub IsDueByLine : Shell → List ℕ → List KeptStep → Type 0
IsDueByLine shell line steps = (command : ShellCommand) × SpellsShell (domain_of shell) line command × IsDue shell command steps
