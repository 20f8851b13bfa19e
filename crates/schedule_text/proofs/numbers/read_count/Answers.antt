use Rattle.std.proofs.Common.{◌≡◌, arith}
use Rattle.schedule_text.proofs.LinesNumbers.{one_number}
use Rattle.schedule_text.proofs.numbers.read_count.Goals as goal

pub returns-then-number-lt1 : goal.returns-then-number-lt1
returns-then-number-lt1 c = λ number some most same.
    let alike : c.in_ok-number.number ≡ number = one_number c.args.text.now c.in_ok-number.number number c.in_ok-number.ensures.0 (omega arith) c.in_ok-number.ensures.1 same in
    omega (arith, c.then-number-lt1.either, c.from-most.ensures)
