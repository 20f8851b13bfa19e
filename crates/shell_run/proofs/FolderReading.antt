-- What clap makes of a command that is the one meant.
use Rattle.std.proofs.Common.{◌≡◌, ◌∙◌, List, codes, true, ap, subst}
use Rattle.std.specs.declared.result.Result.{Result}
use Rattle.clap.specs.declared.builder.command.Command.{Command}
use Rattle.clap.specs.declared.error.Error.{Error}
use Rattle.clap.specs.declared.parser.matches.ArgMatches.{ArgMatches}
use Rattle.clap.specs.Words.{App, FailsBy, HasMatchesOf, Text, app_of, fault_of, first_of, first_value, found_of, is_simple, is_simple_and_free, matches_of}
use Rattle.clap.proofs.WalkLemmas.{first_value-rows}
use Rattle.shell_run.specs.FolderWords.{folder_app}

-- it refuses just what that command does
pub fails_as : {T : Type 0} (command : Command) (words : List Text) (result : Result T Error) → app_of command ≡ folder_app
    → (is_simple_and_free (app_of command) ≡ true → FailsBy (fault_of (app_of command) words) result) → FailsBy (fault_of folder_app words) result
fails_as command words result e h = subst (λ (a : App). FailsBy (fault_of a words) result) e (h (ap is_simple_and_free e))

-- and gives the same value
pub value_as : (command : Command) (words : List Text) (matches : ArgMatches) → app_of command ≡ folder_app → HasMatchesOf (app_of command) words matches
    → first_value (found_of matches) (codes "DIR") ≡ first_of (codes "DIR") (matches_of folder_app words)
value_as command words matches e h =
    first_value-rows (found_of matches) (codes "DIR") ∙ ap (first_of (codes "DIR")) ((h (ap is_simple e)).0 ∙ ap (λ (a : App). matches_of a words) e)
