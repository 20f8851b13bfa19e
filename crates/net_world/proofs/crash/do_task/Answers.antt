use Rattle.std.proofs.Common.{sym, subst}
use Rattle.std.specs.Result.{result_err}
use Rattle.schedule_text.specs.schedule_model.Tasks.{number_of_task}
use Rattle.schedule_text.specs.schedule_model.declared.CrashTask.{CrashTask}
use Rattle.world_commands.specs.LeftBanks.{LeavesAt}
use Rattle.net_world.specs.CrashedWorlds.{doing_task}
use Rattle.net_world.proofs.crash.do_task.Goals as goal

pub returns-in-Add-clause-left : goal.returns-in-Add-clause-left
returns-in-Add-clause-left g c =
    subst (λ (t : CrashTask).
    LeavesAt g.B.Banks.log g.B.Banks.meter (doing_task c.args.parts.now.messages.items t) (result_err c.add.result) (number_of_task t) c.args.parts.now.clones.items c.add.new.parts.clones.items)
    (sym c.in-Add.is) c.add.ensures.left

pub returns-in-Remove-clause-left : goal.returns-in-Remove-clause-left
returns-in-Remove-clause-left g c =
    subst (λ (t : CrashTask).
    LeavesAt g.B.Banks.log g.B.Banks.meter (doing_task c.args.parts.now.messages.items t) (result_err c.remove.result) (number_of_task t) c.args.parts.now.clones.items c.remove.new.parts.clones.items)
    (sym c.in-Remove.is) c.remove.ensures.left

pub returns-in-Update-clause-left : goal.returns-in-Update-clause-left
returns-in-Update-clause-left g c =
    subst (λ (t : CrashTask).
    LeavesAt g.B.Banks.log g.B.Banks.meter (doing_task c.args.parts.now.messages.items t) (result_err c.update.result) (number_of_task t) c.args.parts.now.clones.items c.update.new.parts.clones.items)
    (sym c.in-Update.is) c.update.ensures.left

pub returns-in-Compact-clause-left : goal.returns-in-Compact-clause-left
returns-in-Compact-clause-left g c =
    subst (λ (t : CrashTask).
    LeavesAt g.B.Banks.log g.B.Banks.meter (doing_task c.args.parts.now.messages.items t) (result_err c.keep.result) (number_of_task t) c.args.parts.now.clones.items c.keep.new.parts.clones.items)
    (sym c.in-Compact.is) c.keep.ensures.left

pub returns-in-Truncate-clause-left : goal.returns-in-Truncate-clause-left
returns-in-Truncate-clause-left g c =
    subst (λ (t : CrashTask).
    LeavesAt g.B.Banks.log g.B.Banks.meter (doing_task c.args.parts.now.messages.items t) (result_err c.keep-in-Truncate.result) (number_of_task t) c.args.parts.now.clones.items c.keep-in-Truncate.new.parts.clones.items)
    (sym c.in-Truncate.is) c.keep-in-Truncate.ensures.left
