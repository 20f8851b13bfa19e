use Rattle.shell_session.proofs.OneShell as laws
use Rattle.shell_session.proofs.laws.one_shell_command.Goals as goal

pub returns-clause-nothing : goal.returns-clause-nothing
returns-clause-nothing c = laws.nothing_is_no_command

pub returns-clause-once : goal.returns-clause-once
returns-clause-once c = laws.one_shell_command
