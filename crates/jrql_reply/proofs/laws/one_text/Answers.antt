use Rattle.jrql_reply.proofs.OneText.{one_text}
use Rattle.jrql_reply.proofs.laws.one_text.Goals as goal

pub returns : goal.returns
returns c = one_text
