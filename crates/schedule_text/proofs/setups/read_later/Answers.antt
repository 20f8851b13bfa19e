use Rattle.std.proofs.Common.{refl}
use Rattle.schedule_text.proofs.LinesSetups.{none_set}
use Rattle.schedule_text.proofs.setups.read_later.Goals as goal

pub returns-in_default-clause-ok : goal.returns-in_default-clause-ok
returns-in_default-clause-ok c = (refl, none_set c.args.setup c.args.line.now (rw c.in_default.is at c.in_ok-property.ensures))
