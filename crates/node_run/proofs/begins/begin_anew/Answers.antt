use Rattle.node_run.proofs.BeginLaws.{asks_leaf, founds_clone, founds_short}
use Rattle.node_run.proofs.begins.begin_anew.Goals as goal

pub returns-then-join-clause-begun : goal.returns-then-join-clause-begun
returns-then-join-clause-begun g c =
    asks_leaf g.B.Banks.log g.B.Banks.meter c.args.words c.args.blank c.new.result c.if-join.true c.new.ensures.id c.new.ensures.domain c.new.ensures.kept c.new.ensures.banks

pub returns-in-Ok-clause-begun : goal.returns-in-Ok-clause-begun
returns-in-Ok-clause-begun g c = λ log told nothing.
    let at = c.in-Ok in
    founds_clone g.B.Banks.log g.B.Banks.meter c.args.words c.args.blank at.clone at.ensures.durable.0 c.if-join.false at.ensures.durable.1 at.ensures.kept at.ensures.blank at.ensures.opened
    at.ensures.generation (c.tell_banks_keep.ensures at.ensures.opened) at.ensures.durable.2 log told

pub returns-clause-short : goal.returns-clause-short
returns-clause-short g c = λ log told.
    let at = c.in-Err in
    rw c.make_stop.ensures
    (founds_short g.B.Banks.log g.B.Banks.meter c.args.words c.args.blank at.fault at.ensures.durable.0 at.banks c.if-join.false at.ensures.durable.1 at.ensures.durable.2 log told)
