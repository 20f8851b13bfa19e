use Rattle.std.proofs.Common.{Some, sym}
use Rattle.std.proofs.lemmas.Bool.{false≢true}
use Rattle.node_run.specs.WordSpelling.{IsGiven, SpellsId}
use Rattle.node_run.proofs.spelled.read_id.Goals as goal

pub returns-in-Err : goal.returns-in-Err
returns-in-Err c = λ id given.
    let spelled : IsGiven SpellsId (Some c.in-Some.text.now) id = rw c.in-Some.is at given in
    false≢true (c.in-Err.ensures.ok.1 (id, sym spelled))
