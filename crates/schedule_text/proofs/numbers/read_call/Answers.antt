use Rattle.std.proofs.Common.{◌≡◌, arith}
use Rattle.schedule_text.proofs.LinesNumbers.{small_call, one_number}
use Rattle.schedule_text.proofs.numbers.read_call.Goals as goal

pub returns-then-number-from : goal.returns-then-number-from
returns-then-number-from c = λ number below same.
    let alike : c.in_ok-number.number ≡ number = one_number c.args.text.now c.in_ok-number.number number c.in_ok-number.ensures.0 (small_call below) c.in_ok-number.ensures.1 same in
    omega (arith, c.from.ensures)
