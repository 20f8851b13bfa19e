use Rattle.std.proofs.Common.{arith}
use Rattle.dot_texts.proofs.DotTexts.{lacks_byte, split_cut, front_lacks}
use Rattle.dot_texts.proofs.dots.split_at.Goals as goal

pub returns-in_err-place : goal.returns-in_err-place
returns-in_err-place c = rw c.from_residual.ensures (lacks_byte c.args.mark c.args.text.now c.in_err-place.ensures)

pub returns : goal.returns
returns c =
    let found = c.in_ok-place.ensures in (
      split_cut c.args.mark c.args.text.now c.in_ok-place.place found.0 found.1,
      front_lacks c.args.mark c.args.text.now c.in_ok-place.place found.2 (omega (arith, found.0)),
    )
