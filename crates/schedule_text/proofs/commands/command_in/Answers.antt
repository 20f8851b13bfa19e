use Rattle.schedule_model.specs.Schedule.{SpellsPlain, SpellsCommand}
use Rattle.schedule_text.specs.ReadLines.{IsCrashRest}
use Rattle.schedule_text.proofs.LinesCommands.{read_behind}
use Rattle.schedule_text.proofs.LinesCrashes.{crash_behind, not_crash}
use Rattle.schedule_text.proofs.commands.command_in.Goals as goal

pub returns-in-Some-clause-found : goal.returns-in-Some-clause-found
returns-in-Some-clause-found c =
    read_behind (λ command. IsCrashRest c.args.domain.now c.in-Some.rest.now command) (λ command. SpellsCommand c.args.domain.now c.args.line.now command) c.read_crash_command.result
    (crash_behind c.args.domain.now c.args.line.now c.in-Some.rest.now c.in-Some.ensures) c.read_crash_command.ensures.found

pub returns-clause-found : goal.returns-clause-found
returns-clause-found c =
    read_behind (λ command. SpellsPlain c.args.domain.now c.args.line.now command) (λ command. SpellsCommand c.args.domain.now c.args.line.now command) c.plain_command.result
    (not_crash c.args.domain.now c.args.line.now c.in_default.ensures) c.plain_command.ensures.found
