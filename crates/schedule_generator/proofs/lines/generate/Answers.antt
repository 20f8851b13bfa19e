use Rattle.std.proofs.Common.{◌∙◌, ap}
use Rattle.schedule_generator.proofs.Drawing.{one_more}
use Rattle.schedule_generator.proofs.lines.generate.Goals as goal

pub loop-number-preserved : goal.loop-number-preserved
loop-number-preserved c =
    let drawn = c.from_vec.ensures ∙ ap (λ v. v.items) c.into_bytes.ensures.value ∙ c.in_ok-line.ensures.line in
    let more = one_more c.loop-number.lines.items _ c.loop-number.draws.state c.args.n c.loop-number.number c.loop-number-test.true c.loop-number.invariant in
    rw c.in_ok-push-2.ensures.items (more c.from_vec.result c.from.result c.command_line.new.draws.state c.from.ensures drawn c.command_line.ensures.state)
