use Rattle.schedule_model.specs.Schedule.{SpellsAnywhere}
use Rattle.schedule_text.specs.ReadLines.{IsAddRest, IsRemoveRest, IsDeliverRest, IsShowRest, IsCompareRest, IsJoinRest, IsAskRest, IsCompactRest, IsTruncateRest, IsStopRest, IsOpenRest}
use Rattle.schedule_text.proofs.LinesCommands.{read_behind, found_behind, add_behind, remove_behind, deliver_behind, show_behind, compare_behind, join_behind, ask_behind, compact_behind, truncate_behind, stop_behind, open_behind}
use Rattle.schedule_text.proofs.commands.command_of.Goals as goal

pub returns-in-Some : goal.returns-in-Some
returns-in-Some c =
    read_behind (λ command. IsAddRest c.in-Some.rest.now command) (λ command. SpellsAnywhere c.args.line.now command) c.read_add.result
    (add_behind c.args.line.now c.in-Some.rest.now c.in-Some.ensures) c.read_add.ensures

pub returns-in-Some-behind : goal.returns-in-Some-behind
returns-in-Some-behind c =
    read_behind (λ command. IsRemoveRest c.in-Some-behind.rest.now command) (λ command. SpellsAnywhere c.args.line.now command) c.read_remove.result
    (remove_behind c.args.line.now c.in-Some-behind.rest.now c.in-Some-behind.ensures) c.read_remove.ensures

pub returns-in-Some-behind-2 : goal.returns-in-Some-behind-2
returns-in-Some-behind-2 c =
    found_behind (λ command. IsDeliverRest c.in-Some-behind-2.rest.now command) (λ command. SpellsAnywhere c.args.line.now command) c.read_deliver.result
    (deliver_behind c.args.line.now c.in-Some-behind-2.rest.now c.in-Some-behind-2.ensures) c.read_deliver.ensures

pub returns-in-Some-behind-3 : goal.returns-in-Some-behind-3
returns-in-Some-behind-3 c =
    found_behind (λ command. IsShowRest c.in-Some-behind-3.rest.now command) (λ command. SpellsAnywhere c.args.line.now command) c.read_show.result
    (show_behind c.args.line.now c.in-Some-behind-3.rest.now c.in-Some-behind-3.ensures) c.read_show.ensures

pub returns-in-Some-behind-4 : goal.returns-in-Some-behind-4
returns-in-Some-behind-4 c =
    found_behind (λ command. IsCompareRest c.in-Some-behind-4.rest.now command) (λ command. SpellsAnywhere c.args.line.now command) c.read_compare.result
    (compare_behind c.args.line.now c.in-Some-behind-4.rest.now c.in-Some-behind-4.ensures) c.read_compare.ensures

pub returns-in-Some-behind-5 : goal.returns-in-Some-behind-5
returns-in-Some-behind-5 c =
    found_behind (λ command. IsJoinRest c.in-Some-behind-5.rest.now command) (λ command. SpellsAnywhere c.args.line.now command) c.read_join.result
    (join_behind c.args.line.now c.in-Some-behind-5.rest.now c.in-Some-behind-5.ensures) c.read_join.ensures

pub returns-in-Some-behind-6 : goal.returns-in-Some-behind-6
returns-in-Some-behind-6 c =
    found_behind (λ command. IsAskRest c.in-Some-behind-6.rest.now command) (λ command. SpellsAnywhere c.args.line.now command) c.read_ask.result
    (ask_behind c.args.line.now c.in-Some-behind-6.rest.now c.in-Some-behind-6.ensures) c.read_ask.ensures

pub returns-in-Some-behind-7 : goal.returns-in-Some-behind-7
returns-in-Some-behind-7 c =
    found_behind (λ command. IsCompactRest c.in-Some-behind-7.rest.now command) (λ command. SpellsAnywhere c.args.line.now command) c.read_compact.result
    (compact_behind c.args.line.now c.in-Some-behind-7.rest.now c.in-Some-behind-7.ensures) c.read_compact.ensures

pub returns-in-Some-behind-8 : goal.returns-in-Some-behind-8
returns-in-Some-behind-8 c =
    found_behind (λ command. IsTruncateRest c.in-Some-behind-8.rest.now command) (λ command. SpellsAnywhere c.args.line.now command) c.read_truncate.result
    (truncate_behind c.args.line.now c.in-Some-behind-8.rest.now c.in-Some-behind-8.ensures) c.read_truncate.ensures

pub returns-in-Some-behind-9 : goal.returns-in-Some-behind-9
returns-in-Some-behind-9 c =
    found_behind (λ command. IsStopRest c.in-Some-behind-9.rest.now command) (λ command. SpellsAnywhere c.args.line.now command) c.read_stop.result
    (stop_behind c.args.line.now c.in-Some-behind-9.rest.now c.in-Some-behind-9.ensures) c.read_stop.ensures

pub returns-in-Some-behind-10 : goal.returns-in-Some-behind-10
returns-in-Some-behind-10 c =
    found_behind (λ command. IsOpenRest c.in-Some-behind-10.rest.now command) (λ command. SpellsAnywhere c.args.line.now command) c.read_open.result
    (open_behind c.args.line.now c.in-Some-behind-10.rest.now c.in-Some-behind-10.ensures) c.read_open.ensures
