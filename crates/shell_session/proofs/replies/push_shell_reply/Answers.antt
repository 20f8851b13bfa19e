use Rattle.std.proofs.Common.{ap, rules, sym}
use Rattle.schedule_replies.proofs.RepliesShown.{word_pushed}
use Rattle.shell_session.specs.ShellReply.{shell_text}
use Rattle.shell_session.specs.SessionReplies.{shell_value}
use Rattle.shell_session.proofs.replies.push_shell_reply.Goals as goal

pub returns-in-Says-clause-ok : goal.returns-in-Says-clause-ok
unfolding shell_text
returns-in-Says-clause-ok c = search rules

pub returns-in-BadLine-clause-ok : goal.returns-in-BadLine-clause-ok
unfolding shell_text
returns-in-BadLine-clause-ok c = word_pushed c.extend_from_slice.result c.args.out.now.items _ _ _ c.extend_from_slice.ensures.items (sym (ap (λ w. shell_text (shell_value w)) c.in-BadLine.is))

pub returns-in-Closed-clause-ok : goal.returns-in-Closed-clause-ok
unfolding shell_text
returns-in-Closed-clause-ok c = word_pushed c.extend_from_slice-in-Closed.result c.args.out.now.items _ _ _ c.extend_from_slice-in-Closed.ensures.items (sym (ap (λ w. shell_text (shell_value w)) c.in-Closed.is))

pub returns-in-Empty-clause-ok : goal.returns-in-Empty-clause-ok
unfolding shell_text
returns-in-Empty-clause-ok c = word_pushed c.extend_from_slice-in-Empty.result c.args.out.now.items _ _ _ c.extend_from_slice-in-Empty.ensures.items (sym (ap (λ w. shell_text (shell_value w)) c.in-Empty.is))

pub returns-in-NotEmpty-clause-ok : goal.returns-in-NotEmpty-clause-ok
unfolding shell_text
returns-in-NotEmpty-clause-ok c = word_pushed c.extend_from_slice-in-NotEmpty.result c.args.out.now.items _ _ _ c.extend_from_slice-in-NotEmpty.ensures.items (sym (ap (λ w. shell_text (shell_value w)) c.in-NotEmpty.is))

pub returns-in-Created-clause-ok : goal.returns-in-Created-clause-ok
unfolding shell_text
returns-in-Created-clause-ok c = word_pushed c.extend_from_slice-in-Created.result c.args.out.now.items _ _ _ c.extend_from_slice-in-Created.ensures.items (sym (ap (λ w. shell_text (shell_value w)) c.in-Created.is))

pub returns-in-TicksSpent-clause-ok : goal.returns-in-TicksSpent-clause-ok
unfolding shell_text
returns-in-TicksSpent-clause-ok c = word_pushed c.extend_from_slice-in-TicksSpent.result c.args.out.now.items _ _ _ c.extend_from_slice-in-TicksSpent.ensures.items (sym (ap (λ w. shell_text (shell_value w)) c.in-TicksSpent.is))

pub returns-in-GenerationsSpent-clause-ok : goal.returns-in-GenerationsSpent-clause-ok
unfolding shell_text
returns-in-GenerationsSpent-clause-ok c = word_pushed c.extend_from_slice-in-GenerationsSpent.result c.args.out.now.items _ _ _ c.extend_from_slice-in-GenerationsSpent.ensures.items (sym (ap (λ w. shell_text (shell_value w)) c.in-GenerationsSpent.is))
