use Rattle.std.proofs.lemmas.Bool.{false≢true}
use Rattle.shell_session.proofs.words.read_id.Goals as goal

pub returns-in-Err : goal.returns-in-Err
returns-in-Err c = λ id is. false≢true (c.in-Err.ensures.ok.1 (id, is.read))
