use Rattle.std.proofs.Common.{rules}
use Rattle.std.proofs.lemmas.List.{append_assoc}
use Rattle.schedule_model.specs.ReplyText.{reply_text}
use Rattle.schedule_replies.proofs.replies.push_both.Goals as goal

pub returns-clause-ok : goal.returns-clause-ok
unfolding reply_text
returns-clause-ok c = search (rules, append_assoc)
