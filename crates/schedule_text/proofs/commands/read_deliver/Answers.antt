use Rattle.schedule_text.proofs.LinesCommands.{no_deliver_split, no_deliver_message, no_deliver_number}
use Rattle.schedule_text.proofs.commands.read_deliver.Goals as goal

pub returns-in_err-message : goal.returns-in_err-message
returns-in_err-message c = rw c.from_residual.ensures (no_deliver_split c.args.rest.now c.in_err-message.ensures)

pub returns-in_err-message-2 : goal.returns-in_err-message-2
returns-in_err-message-2 c =
    rw c.from_residual-in_err-message-2.ensures
    (no_deliver_message c.args.rest.now c.in_ok-message.message.now c.in_ok-message.number.now c.in_ok-message.ensures.0 c.in_ok-message.ensures.1 c.in_err-message-2.ensures)

pub returns-in_err-number : goal.returns-in_err-number
returns-in_err-number c =
    rw c.from_residual-in_err-number.ensures
    (no_deliver_number c.args.rest.now c.in_ok-message.message.now c.in_ok-message.number.now c.in_ok-message.ensures.0 c.in_ok-message.ensures.1 c.in_err-number.ensures)
