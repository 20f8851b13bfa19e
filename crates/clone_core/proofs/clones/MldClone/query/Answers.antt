use Rattle.clone_core.proofs.AnswerKinds.{answer_of_kind}
use Rattle.clone_core.proofs.clones.MldClone.query.Goals as goal

pub returns-in_ok-select-in-Select-clause-kind : goal.returns-in_ok-select-in-Select-clause-kind
returns-in_ok-select-in-Select-clause-kind g c =
    answer_of_kind _ c.args.query.now.group c.args.query.now.what c.in_ok-select-in-Select.field-0 c.in_ok-select-in-Select.ensures.answer
