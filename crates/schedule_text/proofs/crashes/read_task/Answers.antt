use Rattle.schedule_text.proofs.LinesCrashes.{task_found}
use Rattle.schedule_text.proofs.crashes.read_task.Goals as goal

pub returns-in-Some-clause-found : goal.returns-in-Some-clause-found
returns-in-Some-clause-found c =
    task_found c.args.domain.now c.args.text.now c.in-Some.command c.task_of.result (rw c.in-Some.is at c.in_ok-command.ensures.found) c.task_of.ensures
