use Rattle.std.proofs.Common.{rules}
use Rattle.std.proofs.lemmas.List.{append_assoc}
use Rattle.shell_session.specs.ShellReply.{shell_text}
use Rattle.shell_session.proofs.replies.push_did.Goals as goal

pub returns-clause-ok : goal.returns-clause-ok
unfolding shell_text
returns-clause-ok c = search (rules, append_assoc)
