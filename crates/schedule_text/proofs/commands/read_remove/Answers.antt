use Rattle.schedule_text.proofs.LinesCommands.{no_remove}
use Rattle.schedule_text.proofs.commands.read_remove.Goals as goal

pub returns-in_default : goal.returns-in_default
returns-in_default c = no_remove c.args.rest.now (rw c.in_default.is at c.in_ok-number.ensures)
