use Rattle.std.proofs.Common.{◌∷◌}
use Rattle.mld_io.specs.declared.events.WireCall.TheVariants.{Sent}
use Rattle.mld_io.specs.Wires.{after_shut}
use Rattle.node_run.proofs.LogLaws.{told_map, sent_shut}
use Rattle.node_run.proofs.turns.send_one.Goals as goal

pub returns-then-one-clause-ok : goal.returns-then-one-clause-ok
returns-then-one-clause-ok g c =
    let old = g.W.Wire.log c.args.wire.now in
    let mid = g.W.Wire.log c.send.new.self in
    let now = g.W.Wire.log c.shut.new.self in
    let one = c.args.one.now in
    sent_shut one c.as_slice.result.now old mid now c.as_slice.ensures c.if-one.true
    (told_map (λ l. Sent one.conn c.as_slice.result.now ∷ l) old mid c.in_ok-send.ensures.log c.send.ensures.untold)
    (told_map (after_shut one.conn) mid now c.shut.ensures.log c.shut.ensures.untold)
