use Rattle.std.proofs.Common.{rules}
use Rattle.shell_session.specs.ShellReply.{shell_text}
use Rattle.shell_session.proofs.replies.push_damaged.Goals as goal

pub returns-in-A-clause-ok : goal.returns-in-A-clause-ok
unfolding shell_text
returns-in-A-clause-ok c = search rules

pub returns-in-B-clause-ok : goal.returns-in-B-clause-ok
unfolding shell_text
returns-in-B-clause-ok c = search rules
