use Rattle.schedule_text.proofs.LinesCommands.{no_add}
use Rattle.schedule_text.proofs.commands.read_add.Goals as goal

pub returns-in_default : goal.returns-in_default
returns-in_default c = no_add c.args.rest.now (rw c.in_default.is at c.in_ok-number.ensures)
