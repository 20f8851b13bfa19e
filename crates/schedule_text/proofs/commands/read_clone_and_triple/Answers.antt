use Rattle.schedule_text.proofs.LinesCommands.{no_triple_split, no_triple_number, no_triple_text}
use Rattle.schedule_text.proofs.commands.read_clone_and_triple.Goals as goal

pub returns-in_default : goal.returns-in_default
returns-in_default c = no_triple_split c.args.rest.now c.in_default.ensures

pub returns-in_default-read_clone : goal.returns-in_default-read_clone
returns-in_default-read_clone c =
    no_triple_number c.args.rest.now c.in-Some.number.now c.in-Some.text.now c.in-Some.ensures.0 c.in-Some.ensures.1 c.in_default-read_clone.ensures

pub returns-in_default-2 : goal.returns-in_default-2
returns-in_default-2 c =
    no_triple_text c.args.rest.now c.in-Some.number.now c.in-Some.text.now c.in-Some.ensures.0 c.in-Some.ensures.1 (rw c.in_default-2.is at c.in_ok-triple.ensures)
