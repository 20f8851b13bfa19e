use Rattle.schedule_text.proofs.LinesCrashes.{no_task}
use Rattle.schedule_text.proofs.crashes.read_crash_command.Goals as goal

pub returns-in_default-2-clause-found : goal.returns-in_default-2-clause-found
returns-in_default-2-clause-found c =
    no_task c.args.domain.now c.args.rest.now c.in-Some.text.now c.in-Some.call c.in-Some.leave c.in-Some.ensures (rw c.in_default-2.is at c.in_ok-task.ensures.found)
