use Rattle.schedule_text.proofs.LinesCommands.{no_compare_split, no_compare_number, no_compare_other}
use Rattle.schedule_text.proofs.commands.read_compare.Goals as goal

pub returns-in_err-number : goal.returns-in_err-number
returns-in_err-number c = rw c.from_residual.ensures (no_compare_split c.args.rest.now c.in_err-number.ensures)

pub returns-in_err-number-2 : goal.returns-in_err-number-2
returns-in_err-number-2 c =
    rw c.from_residual-in_err-number-2.ensures
    (no_compare_number c.args.rest.now c.in_ok-number.number.now c.in_ok-number.other.now c.in_ok-number.ensures.0 c.in_ok-number.ensures.1 c.in_err-number-2.ensures)

pub returns-in_err-other : goal.returns-in_err-other
returns-in_err-other c =
    rw c.from_residual-in_err-other.ensures
    (no_compare_other c.args.rest.now c.in_ok-number.number.now c.in_ok-number.other.now c.in_ok-number.ensures.0 c.in_ok-number.ensures.1 c.in_err-other.ensures)
