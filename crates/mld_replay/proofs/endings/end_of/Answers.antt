use Rattle.mld_replay.proofs.EndLemmas.{running_tells, running_keeps}
use Rattle.mld_replay.proofs.endings.end_of.Goals as goal

pub returns-in-Running-clause-tells : goal.returns-in-Running-clause-tells
returns-in-Running-clause-tells g c = λ has. running_tells g.B.Banks.log c.end_of_world.result c.args.stage c.in-Running.world c.in-Running.is (c.end_of_world.ensures.tells has)

pub returns-in-Running-clause-banks : goal.returns-in-Running-clause-banks
returns-in-Running-clause-banks g c = rw c.in-Running.is (c.end_of_world.ensures.banks)

pub returns-in-Running-clause-kept : goal.returns-in-Running-clause-kept
returns-in-Running-clause-kept g c = running_keeps g.B.Banks.log c.end_of_world.result c.args.stage c.in-Running.world c.in-Running.is c.end_of_world.ensures.kept
