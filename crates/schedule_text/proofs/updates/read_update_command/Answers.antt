use Rattle.schedule_text.proofs.LinesUpdates.{no_update_split, no_update_number, no_update_text}
use Rattle.schedule_text.proofs.updates.read_update_command.Goals as goal

pub returns-in_default-clause-found : goal.returns-in_default-clause-found
returns-in_default-clause-found c = no_update_split c.args.domain.now c.args.rest.now c.in_default.ensures

pub returns-in_default-read_clone-clause-found : goal.returns-in_default-read_clone-clause-found
returns-in_default-read_clone-clause-found c =
    no_update_number c.args.domain.now c.args.rest.now c.in-Some.number.now c.in-Some.text.now c.in-Some.ensures.0 c.in-Some.ensures.1 c.in_default-read_clone.ensures

pub returns-in_default-2-clause-found : goal.returns-in_default-2-clause-found
returns-in_default-2-clause-found c =
    no_update_text c.args.domain.now c.args.rest.now c.in-Some.number.now c.in-Some.text.now c.in-Some.ensures.0 c.in-Some.ensures.1
    (rw c.in_default-2.is at c.in_ok-plan.ensures.found)
