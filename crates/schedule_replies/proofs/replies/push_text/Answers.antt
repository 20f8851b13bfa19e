use Rattle.std.proofs.Common.{ap, rules, sym}
use Rattle.schedule_model.specs.ReplyText.{reply_text}
use Rattle.schedule_replies.specs.Replies.{reply_value}
use Rattle.schedule_replies.proofs.RepliesShown.{word_pushed}
use Rattle.schedule_replies.proofs.replies.push_text.Goals as goal

pub returns-in-PropertySet-clause-ok : goal.returns-in-PropertySet-clause-ok
unfolding reply_text
returns-in-PropertySet-clause-ok c = search rules

pub returns-in-NoOperation-clause-ok : goal.returns-in-NoOperation-clause-ok
unfolding reply_text
returns-in-NoOperation-clause-ok c = search rules

pub returns-in-Known-clause-ok : goal.returns-in-Known-clause-ok
unfolding reply_text
returns-in-Known-clause-ok c = search rules

pub returns-in-NoMessage-clause-ok : goal.returns-in-NoMessage-clause-ok
unfolding reply_text
returns-in-NoMessage-clause-ok c = word_pushed c.extend_from_slice-in-NoMessage.result c.args.out.now.items _ _ _ c.extend_from_slice-in-NoMessage.ensures.items (sym (ap (λ w. reply_text (reply_value w)) c.in-NoMessage.is))

pub returns-in-Absent-clause-ok : goal.returns-in-Absent-clause-ok
unfolding reply_text
returns-in-Absent-clause-ok c = search rules

pub returns-in-Same-clause-ok : goal.returns-in-Same-clause-ok
unfolding reply_text
returns-in-Same-clause-ok c = search rules

pub returns-in-Less-clause-ok : goal.returns-in-Less-clause-ok
unfolding reply_text
returns-in-Less-clause-ok c = search rules

pub returns-in-More-clause-ok : goal.returns-in-More-clause-ok
unfolding reply_text
returns-in-More-clause-ok c = search rules

pub returns-in-Apart-clause-ok : goal.returns-in-Apart-clause-ok
unfolding reply_text
returns-in-Apart-clause-ok c = search rules

pub returns-in-Held-clause-ok : goal.returns-in-Held-clause-ok
unfolding reply_text
returns-in-Held-clause-ok c = search rules

pub returns-in-HeldFull-clause-ok : goal.returns-in-HeldFull-clause-ok
unfolding reply_text
returns-in-HeldFull-clause-ok c = word_pushed c.extend_from_slice-in-HeldFull.result c.args.out.now.items _ _ _ c.extend_from_slice-in-HeldFull.ensures.items (sym (ap (λ w. reply_text (reply_value w)) c.in-HeldFull.is))

pub returns-in-Ignored-clause-ok : goal.returns-in-Ignored-clause-ok
unfolding reply_text
returns-in-Ignored-clause-ok c = search rules

pub returns-in-Deep-clause-ok : goal.returns-in-Deep-clause-ok
unfolding reply_text
returns-in-Deep-clause-ok c = search rules

pub returns-in-Asking-clause-ok : goal.returns-in-Asking-clause-ok
unfolding reply_text
returns-in-Asking-clause-ok c = search rules

pub returns-in-Live-clause-ok : goal.returns-in-Live-clause-ok
unfolding reply_text
returns-in-Live-clause-ok c = search rules

pub returns-in-Down-clause-ok : goal.returns-in-Down-clause-ok
unfolding reply_text
returns-in-Down-clause-ok c = search rules

pub returns-in-Stopped-clause-ok : goal.returns-in-Stopped-clause-ok
unfolding reply_text
returns-in-Stopped-clause-ok c = word_pushed c.extend_from_slice-in-Stopped.result c.args.out.now.items _ _ _ c.extend_from_slice-in-Stopped.ensures.items (sym (ap (λ w. reply_text (reply_value w)) c.in-Stopped.is))

pub returns-in-Nothing-clause-ok : goal.returns-in-Nothing-clause-ok
unfolding reply_text
returns-in-Nothing-clause-ok c = word_pushed c.extend_from_slice-in-Nothing.result c.args.out.now.items _ _ _ c.extend_from_slice-in-Nothing.ensures.items (sym (ap (λ w. reply_text (reply_value w)) c.in-Nothing.is))

pub returns-in-Opened-clause-ok : goal.returns-in-Opened-clause-ok
unfolding reply_text
returns-in-Opened-clause-ok c = word_pushed c.extend_from_slice-in-Opened.result c.args.out.now.items _ _ _ c.extend_from_slice-in-Opened.ensures.items (sym (ap (λ w. reply_text (reply_value w)) c.in-Opened.is))

pub returns-in-TooMany-clause-ok : goal.returns-in-TooMany-clause-ok
unfolding reply_text
returns-in-TooMany-clause-ok c = word_pushed c.extend_from_slice-in-TooMany.result c.args.out.now.items _ _ _ c.extend_from_slice-in-TooMany.ensures.items (sym (ap (λ w. reply_text (reply_value w)) c.in-TooMany.is))

pub returns-in-Tells-clause-ok : goal.returns-in-Tells-clause-ok
unfolding reply_text
returns-in-Tells-clause-ok c = search rules

pub returns-in-Took-clause-ok : goal.returns-in-Took-clause-ok
unfolding reply_text
returns-in-Took-clause-ok c = search rules

pub returns-in-Merged-clause-ok : goal.returns-in-Merged-clause-ok
unfolding reply_text
returns-in-Merged-clause-ok c = search rules

pub returns-in-Ready-clause-ok : goal.returns-in-Ready-clause-ok
unfolding reply_text
returns-in-Ready-clause-ok c = search rules

pub returns-in-Sent-clause-ok : goal.returns-in-Sent-clause-ok
unfolding reply_text
returns-in-Sent-clause-ok c = search rules

pub returns-in-Kept-clause-ok : goal.returns-in-Kept-clause-ok
unfolding reply_text
returns-in-Kept-clause-ok c = search rules

pub returns-in-Crashed-clause-ok : goal.returns-in-Crashed-clause-ok
unfolding reply_text
returns-in-Crashed-clause-ok c = word_pushed c.extend_from_slice-in-Crashed.result c.args.out.now.items _ _ _ c.extend_from_slice-in-Crashed.ensures.items (sym (ap (λ w. reply_text (reply_value w)) c.in-Crashed.is))
