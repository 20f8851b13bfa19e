use Rattle.shell_session.proofs.ShellCommands.{elsewhere}
use Rattle.shell_session.proofs.lines.live_command.Goals as goal

pub returns-clause-found : goal.returns-clause-found
returns-clause-found c =
    elsewhere c.args.domain.now c.args.line.now c.alike_command.result c.in_default.ensures c.in_default-behind.ensures c.in_default-behind-2.ensures
    c.in_default-behind-3.ensures c.alike_command.ensures
