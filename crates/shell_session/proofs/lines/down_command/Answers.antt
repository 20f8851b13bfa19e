use Rattle.std.proofs.lemmas.Bool.{false≢true}
use Rattle.std.proofs.Common.{sym, ◌∙◌}
use Rattle.shell_session.proofs.ShellCommands.{elsewhere_down}
use Rattle.shell_session.proofs.lines.down_command.Goals as goal

pub returns-clause-found : goal.returns-clause-found
returns-clause-found c =
    elsewhere_down c.args.line.now c.alike_command.result (λ asks. false≢true (sym c.if-asks_for_clone.false ∙ c.asks_for_clone.ensures.1 asks)) c.alike_command.ensures
