use Rattle.std.proofs.Common.{rules}
use Rattle.jrql_reply.proofs.AnswerTexts.{answer_spelled}
use Rattle.jrql_reply.proofs.replies.reply.Goals as goal

pub returns-in-Ok-clause-ok : goal.returns-in-Ok-clause-ok
returns-in-Ok-clause-ok c =
    answer_spelled c.args.read.now.context c.args.read.now.query c.args.answer.now c.new-writer.result c.write_answer.new.out c.args.out.now.items c.into_inner.result.items
    (search rules) (search rules) (search rules) (search rules) c.in-Ok.ensures.ok
