use Rattle.std.proofs.lemmas.Result.{on_ok_weaker}
use Rattle.jrql_reply.proofs.AnswerTexts.{rows_written, subjects_written}
use Rattle.jrql_reply.proofs.replies.write_answer.Goals as goal

pub returns-in-Select-clause-ok : goal.returns-in-Select-clause-ok
returns-in-Select-clause-ok c =
    on_ok_weaker c.write_rows.result
    (λ written.
    rows_written c.args.context.now c.args.query.now c.args.answer.now c.in-Rows.rows c.as_slice.result.now c.in-Select.select c.as_slice-in-Select.result.now c.as_slice-in-Select-2.result.now
    c.args.out.now c.write_rows.new.out c.in-Rows.is c.in-Select.is c.as_slice.ensures c.as_slice-in-Select.ensures c.as_slice-in-Select-2.ensures written)
    c.write_rows.ensures.ok

pub returns-in-Subjects-clause-ok : goal.returns-in-Subjects-clause-ok
returns-in-Subjects-clause-ok c =
    on_ok_weaker c.write_subjects.result
    (λ written.
    subjects_written c.args.context.now c.args.query.now c.args.answer.now c.in-Subjects.subjects c.as_slice-in-Subjects.result.now c.args.out.now c.write_subjects.new.out
    c.in-Subjects.is c.as_slice-in-Subjects.ensures written)
    c.write_subjects.ensures.ok
