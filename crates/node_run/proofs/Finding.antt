-- What clap makes of a command that is the one meant.
use Rattle.std.proofs.Common.{◌≡◌, ◌∙◌, List, true, false, IfOk, Ok, Err, ap, ap₂, subst}
use Rattle.std.specs.declared.result.Result.{Result}
use Rattle.clap.specs.declared.builder.arg.Arg.{Arg}
use Rattle.clap.specs.declared.builder.command.Command.{Command}
use Rattle.clap.specs.declared.error.Error.{Error}
use Rattle.clap.specs.declared.parser.matches.ArgMatches.{ArgMatches}
use Rattle.clap.specs.Words.{AddsArg, App, FailsBy, HasMatchesOf, Rule, Text, app_of, fault_of, found_of, is_simple, is_simple_and_free, matches_of, rows_of, rule_of, with_rule}
use Rattle.node_run.specs.Words.{node_app}

-- one argument more
pub added : {old new : Command} {a : Arg} {app : App} {rule : Rule} → AddsArg old a new → a.global ≡ false → rule_of a ≡ rule → app_of old ≡ app
    → app_of new ≡ with_rule app rule
added h local rule before = h.shape local ∙ ap₂ with_rule before rule

-- it finds just what that command finds
pub finds_as : (command : Command) (words : List Text) (result : Result ArgMatches Error) → app_of command ≡ node_app
    → IfOk result (HasMatchesOf (app_of command) words) → IfOk result (λ found. rows_of (found_of found) ≡ matches_of node_app words)
finds_as command words (Ok found) e h = (h (ap is_simple e)).0 ∙ ap (λ (a : App). matches_of a words) e
finds_as command words (Err error) e h = h

-- and refuses just what that command refuses
pub fails_as : (command : Command) (words : List Text) (result : Result ArgMatches Error) → app_of command ≡ node_app
    → (is_simple_and_free (app_of command) ≡ true → FailsBy (fault_of (app_of command) words) result) → FailsBy (fault_of node_app words) result
fails_as command words result e h = subst (λ (a : App). FailsBy (fault_of a words) result) e (h (ap is_simple_and_free e))
