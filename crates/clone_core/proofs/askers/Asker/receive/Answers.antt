use Rattle.clone_core.proofs.Joining.{adopts_as, gives_taken}
use Rattle.clone_core.proofs.askers.Asker.receive.Goals as goal

pub adopt-requires : goal.adopt-requires
adopt-requires g c = gives_taken c.args.self.asker c.args.message.now c.in-Some.give.now c.in-Some.ensures c.requires

pub returns-in-Some-clause-adopts : goal.returns-in-Some-clause-adopts
returns-in-Some-clause-adopts g c = adopts_as c.args.self c.args.message.now c.in-Some.give.now c.adopt.result c.in-Some.ensures c.adopt.ensures.adopts
