use Rattle.node_core.proofs.PieceLaws.{fed_answered, fed_well, fed_refused}
use Rattle.node_core.proofs.pieces.take_fed.Goals as goal

pub returns-in-Ok-clause-done : goal.returns-in-Ok-clause-done
returns-in-Ok-clause-done g c =
    fed_answered g.B.Banks.log c.args.state c.in-Ok.state c.args.exchange c.take_frames.new.exchange c.args.fed c.in-Ok.ensures.done c.finish.result c.finish.ensures.same c.finish.ensures.ends

pub returns-in-Ok-clause-well : goal.returns-in-Ok-clause-well
returns-in-Ok-clause-well g c =
    c.finish.ensures.well (fed_well g.B.Banks.log c.args.state c.in-Ok.state c.args.exchange c.take_frames.new.exchange c.args.fed c.in-Ok.ensures.done c.requires.goes_on)

pub returns-in-Ok-clause-stopped : goal.returns-in-Ok-clause-stopped
returns-in-Ok-clause-stopped g c =
    fed_refused g.B.Banks.log c.args.state c.in-Ok.state c.args.exchange c.take_frames.new.exchange c.args.fed c.in-Ok.ensures.done c.finish.result c.finish.ensures.err
