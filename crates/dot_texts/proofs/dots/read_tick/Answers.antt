use Rattle.std.proofs.Common.{◌≡◌, arith}
use Rattle.schedule_text.proofs.LinesNumbers.{one_number}
use Rattle.dot_texts.proofs.dots.read_tick.Goals as goal

pub returns-then-number-lt1 : goal.returns-then-number-lt1
returns-then-number-lt1 c = λ tick is same.
    let alike : c.in_ok-number.number ≡ tick = one_number c.args.text.now c.in_ok-number.number tick c.in_ok-number.ensures.0 (omega (arith, is.within)) c.in_ok-number.ensures.1 same in
    omega (arith, c.then-number-lt1.either, c.from-most.ensures, is.positive, is.within, alike)
