use Rattle.schedule_model.specs.Schedule.{SpellsAnywhere, SpellsPlain}
use Rattle.schedule_text.specs.ReadLines.{IsQueryRest, IsUpdateRest}
use Rattle.schedule_text.proofs.LinesCommands.{read_behind}
use Rattle.schedule_text.proofs.LinesQueries.{query_behind, elsewhere, plain_in_form}
use Rattle.schedule_text.proofs.LinesUpdates.{update_behind}
use Rattle.schedule_text.proofs.commands.plain_command.Goals as goal

pub returns-in-Some-clause-found : goal.returns-in-Some-clause-found
returns-in-Some-clause-found c =
    read_behind (λ command. IsQueryRest c.args.domain.now c.in-Some.rest.now command) (λ command. SpellsPlain c.args.domain.now c.args.line.now command) c.read_query_command.result
    (query_behind c.args.domain.now c.args.line.now c.in-Some.rest.now c.in-Some.ensures) c.read_query_command.ensures.found

pub returns-in-Some-behind-clause-found : goal.returns-in-Some-behind-clause-found
returns-in-Some-behind-clause-found c =
    read_behind (λ command. IsUpdateRest c.args.domain.now c.in-Some-behind.rest.now command) (λ command. SpellsPlain c.args.domain.now c.args.line.now command) c.read_update_command.result
    (update_behind c.args.domain.now c.args.line.now c.in-Some-behind.rest.now c.in-Some-behind.ensures) c.read_update_command.ensures.found

pub returns-clause-found : goal.returns-clause-found
returns-clause-found c =
    read_behind (λ command. SpellsAnywhere c.args.line.now command) (λ command. SpellsPlain c.args.domain.now c.args.line.now command) c.command_of.result
    (elsewhere c.args.domain.now c.args.line.now c.in_default.ensures c.in_default-behind.ensures) c.command_of.ensures

pub returns-clause-in_form : goal.returns-clause-in_form
returns-clause-in_form c = plain_in_form c.args.line.now c.command_of.result c.command_of.ensures
