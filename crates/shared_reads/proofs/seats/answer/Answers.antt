use Rattle.shared_reads.proofs.AnswerKinds.{reads}
use Rattle.shared_reads.proofs.seats.answer.Goals as goal

pub returns-in-Select : goal.returns-in-Select
returns-in-Select c = reads c.args.graph.now.pairs c.args.query.now c.select.result c.select.ensures.answer c.select.ensures.few c.select.ensures.too_many
