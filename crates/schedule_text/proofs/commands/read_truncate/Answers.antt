use Rattle.schedule_text.proofs.LinesCommands.{no_truncate_split, no_truncate_number, no_truncate_keep}
use Rattle.schedule_text.proofs.commands.read_truncate.Goals as goal

pub returns-in_err-number : goal.returns-in_err-number
returns-in_err-number c = rw c.from_residual.ensures (no_truncate_split c.args.rest.now c.in_err-number.ensures)

pub returns-in_err-number-2 : goal.returns-in_err-number-2
returns-in_err-number-2 c =
    rw c.from_residual-in_err-number-2.ensures
    (no_truncate_number c.args.rest.now c.in_ok-number.number.now c.in_ok-number.keep.now c.in_ok-number.ensures.0 c.in_ok-number.ensures.1 c.in_err-number-2.ensures)

pub returns-in_err-keep : goal.returns-in_err-keep
returns-in_err-keep c =
    rw c.from_residual-in_err-keep.ensures
    (no_truncate_keep c.args.rest.now c.in_ok-number.number.now c.in_ok-number.keep.now c.in_ok-number.ensures.0 c.in_ok-number.ensures.1 c.in_err-keep.ensures)
