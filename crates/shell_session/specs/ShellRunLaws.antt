-- The laws of the shell's lines, as the contracts of the crate state them.
use Rattle.std.specs.Prelude.{◌≡◌, ℕ, List}
use Rattle.crash_laws.specs.clone_parts.KeptSteps.{KeptStep}
use Rattle.shell_session.specs.Shells.{Shell, found_of, found_after}
use Rattle.shell_session.specs.ShellRuns.{ShellRuns}

-- what is found on the banks after a run is what its durable steps make of what was found there before
abbrev pub StepsLead : Type 0
StepsLead = (shell : Shell) (lines : List (List ℕ)) (text : List ℕ) (steps : List KeptStep) (next : Shell) → ShellRuns shell lines text steps next
    → found_of next ≡ found_after steps (found_of shell)
