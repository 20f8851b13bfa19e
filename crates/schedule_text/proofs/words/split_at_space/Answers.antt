use Rattle.std.proofs.Common.{arith}
use Rattle.schedule_text.proofs.LinesText.{lacks_space, split_cut, front_lacks_space}
use Rattle.schedule_text.proofs.words.split_at_space.Goals as goal

pub returns-in_err-place : goal.returns-in_err-place
returns-in_err-place c = rw c.from_residual.ensures (lacks_space c.args.line.now c.in_err-place.ensures)

pub returns : goal.returns
returns c =
    let found = c.in_ok-place.ensures in
    (split_cut c.args.line.now c.in_ok-place.place found.0 found.1, front_lacks_space c.args.line.now c.in_ok-place.place found.2 (omega (arith, found.0)))
