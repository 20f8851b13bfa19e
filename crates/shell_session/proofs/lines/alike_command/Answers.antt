use Rattle.shell_session.proofs.ShellCommands.{create_read, bare_read}
use Rattle.shell_session.proofs.lines.alike_command.Goals as goal

pub returns-in-Some : goal.returns-in-Some
returns-in-Some c = create_read c.args.line.now c.in-Some.text.now c.read_creation.result c.in-Some.ensures c.read_creation.ensures

pub returns : goal.returns
returns c = bare_read c.args.line.now c.bare_command.result c.in_default.ensures c.in_default-behind.ensures c.bare_command.ensures
