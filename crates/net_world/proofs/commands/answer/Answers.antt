use Rattle.std.proofs.Common.{None, Ok, inr, refl}
use Rattle.std.specs.Result.{result_err}
use Rattle.schedule_text.specs.schedule_model.Tasks.{command_done}
use Rattle.schedule_text.specs.schedule_model.Step.{number_of_clone}
use Rattle.schedule_text.specs.schedule_model.declared.Command.TheVariants as commands
use Rattle.schedule_text.specs.schedule_model.declared.CrashTask.TheVariants as tasks
use Rattle.world_commands.proofs.LeftLemmas.{done_unfailed}
use Rattle.net_world.proofs.DeviceLemmas.{told_fails, crash_told_fails, want_unfailed, task_uses, nothing_uses, same_uses, named_uses, crash_uses}
use Rattle.net_world.proofs.LeftFronts.{task_leaves, nothing_leaves, same_leaves, named_leaves}
use Rattle.net_world.proofs.StepLemmas.{answered_as, crash_answered}
use Rattle.net_world.proofs.commands.answer.Goals as goal

pub returns-in-Add-clause-done : goal.returns-in-Add-clause-done
returns-in-Add-clause-done g c =
    answered_as g.B.Banks.log c.args.parts.now c.args.command.now _ c.add.new.parts c.add.result c.tell.result c.args.out.now.items c.tell.new.out.items c.in-Add.is c.add.ensures.done c.tell.ensures.told

pub returns-in-Remove-clause-done : goal.returns-in-Remove-clause-done
returns-in-Remove-clause-done g c =
    answered_as g.B.Banks.log c.args.parts.now c.args.command.now _ c.remove.new.parts c.remove.result c.tell-in-Remove.result c.args.out.now.items c.tell-in-Remove.new.out.items c.in-Remove.is c.remove.ensures.done c.tell-in-Remove.ensures.told

pub returns-in-Update-clause-done : goal.returns-in-Update-clause-done
returns-in-Update-clause-done g c =
    answered_as g.B.Banks.log c.args.parts.now c.args.command.now _ c.update.new.parts c.update.result c.tell-in-Update.result c.args.out.now.items c.tell-in-Update.new.out.items c.in-Update.is c.update.ensures.done c.tell-in-Update.ensures.told

pub returns-in-Deliver-clause-done : goal.returns-in-Deliver-clause-done
returns-in-Deliver-clause-done g c =
    answered_as g.B.Banks.log c.args.parts.now c.args.command.now _ c.deliver.new.parts c.deliver.result c.tell-in-Deliver.result c.args.out.now.items c.tell-in-Deliver.new.out.items c.in-Deliver.is c.deliver.ensures.done c.tell-in-Deliver.ensures.told

pub returns-in-Join-clause-done : goal.returns-in-Join-clause-done
returns-in-Join-clause-done g c =
    answered_as g.B.Banks.log c.args.parts.now c.args.command.now _ c.join.new.parts c.join.result c.tell-in-Join.result c.args.out.now.items c.tell-in-Join.new.out.items c.in-Join.is c.join.ensures.done c.tell-in-Join.ensures.told

pub returns-in-Ask-clause-done : goal.returns-in-Ask-clause-done
returns-in-Ask-clause-done g c =
    answered_as g.B.Banks.log c.args.parts.now c.args.command.now _ c.ask.new.parts c.ask.result c.tell-in-Ask.result c.args.out.now.items c.tell-in-Ask.new.out.items c.in-Ask.is c.ask.ensures.done c.tell-in-Ask.ensures.told

pub returns-in-Compact-clause-done : goal.returns-in-Compact-clause-done
returns-in-Compact-clause-done g c =
    answered_as g.B.Banks.log c.args.parts.now c.args.command.now _ c.keep.new.parts c.keep.result c.tell-in-Compact.result c.args.out.now.items c.tell-in-Compact.new.out.items c.in-Compact.is c.keep.ensures.done c.tell-in-Compact.ensures.told

pub returns-in-Truncate-clause-done : goal.returns-in-Truncate-clause-done
returns-in-Truncate-clause-done g c =
    answered_as g.B.Banks.log c.args.parts.now c.args.command.now _ c.keep-in-Truncate.new.parts c.keep-in-Truncate.result c.tell-in-Truncate.result c.args.out.now.items c.tell-in-Truncate.new.out.items c.in-Truncate.is c.keep-in-Truncate.ensures.done c.tell-in-Truncate.ensures.told

pub returns-in-Open-clause-done : goal.returns-in-Open-clause-done
returns-in-Open-clause-done g c =
    answered_as g.B.Banks.log c.args.parts.now c.args.command.now _ c.open.new.parts c.open.result c.tell-in-Open.result c.args.out.now.items c.tell-in-Open.new.out.items c.in-Open.is c.open.ensures.done c.tell-in-Open.ensures.told

pub returns-in-Query-clause-done : goal.returns-in-Query-clause-done
returns-in-Query-clause-done g c =
    answered_as g.B.Banks.log c.args.parts.now c.args.command.now _ c.args.parts.now c.query.result c.tell-in-Query.result c.args.out.now.items c.tell-in-Query.new.out.items c.in-Query.is c.query.ensures.done c.tell-in-Query.ensures.told

pub returns-in-Crash-clause-done : goal.returns-in-Crash-clause-done
returns-in-Crash-clause-done g c =
    crash_answered g.B.Banks.log c.args.parts.now c.args.command.now c.in-Crash.call c.in-Crash.leave c.in-Crash.task c.crash.new.parts c.crash.result c.tell_crash.result
    c.args.out.now.items c.tell_crash.new.out.items c.in-Crash.is c.crash.ensures.done c.tell_crash.ensures.told

pub returns-in-Add-clause-left : goal.returns-in-Add-clause-left
returns-in-Add-clause-left g c =
    named_leaves g.B.Banks.log g.B.Banks.meter c.args.parts.now c.add.new.parts c.args.command.now (commands.Add c.in-Add.number c.in-Add.triple) c.in-Add.is
    (task_leaves g.B.Banks.log g.B.Banks.meter c.args.parts.now c.add.new.parts (tasks.Add c.in-Add.number c.in-Add.triple) (result_err c.add.result) c.add.ensures.left)

pub returns-in-Remove-clause-left : goal.returns-in-Remove-clause-left
returns-in-Remove-clause-left g c =
    named_leaves g.B.Banks.log g.B.Banks.meter c.args.parts.now c.remove.new.parts c.args.command.now (commands.Remove c.in-Remove.number c.in-Remove.triple) c.in-Remove.is
    (task_leaves g.B.Banks.log g.B.Banks.meter c.args.parts.now c.remove.new.parts (tasks.Remove c.in-Remove.number c.in-Remove.triple) (result_err c.remove.result) c.remove.ensures.left)

pub returns-in-Update-clause-left : goal.returns-in-Update-clause-left
returns-in-Update-clause-left g c =
    named_leaves g.B.Banks.log g.B.Banks.meter c.args.parts.now c.update.new.parts c.args.command.now (commands.Update c.in-Update.number c.in-Update.plan) c.in-Update.is
    (task_leaves g.B.Banks.log g.B.Banks.meter c.args.parts.now c.update.new.parts (tasks.Update c.in-Update.number c.in-Update.plan) (result_err c.update.result) c.update.ensures.left)

pub returns-in-Deliver-clause-left : goal.returns-in-Deliver-clause-left
returns-in-Deliver-clause-left g c =
    named_leaves g.B.Banks.log g.B.Banks.meter c.args.parts.now c.deliver.new.parts c.args.command.now (commands.Deliver c.in-Deliver.message c.in-Deliver.number) c.in-Deliver.is
    (task_leaves g.B.Banks.log g.B.Banks.meter c.args.parts.now c.deliver.new.parts (tasks.Deliver c.in-Deliver.message c.in-Deliver.number) (result_err c.deliver.result) c.deliver.ensures.left)

pub returns-in-Compact-clause-left : goal.returns-in-Compact-clause-left
returns-in-Compact-clause-left g c =
    named_leaves g.B.Banks.log g.B.Banks.meter c.args.parts.now c.keep.new.parts c.args.command.now (commands.Compact c.in-Compact.number) c.in-Compact.is
    (task_leaves g.B.Banks.log g.B.Banks.meter c.args.parts.now c.keep.new.parts (tasks.Compact c.in-Compact.number) (result_err c.keep.result) c.keep.ensures.left)

pub returns-in-Truncate-clause-left : goal.returns-in-Truncate-clause-left
returns-in-Truncate-clause-left g c =
    named_leaves g.B.Banks.log g.B.Banks.meter c.args.parts.now c.keep-in-Truncate.new.parts c.args.command.now (commands.Truncate c.in-Truncate.number c.in-Truncate.count) c.in-Truncate.is
    (task_leaves g.B.Banks.log g.B.Banks.meter c.args.parts.now c.keep-in-Truncate.new.parts (tasks.Truncate c.in-Truncate.number c.in-Truncate.count) (result_err c.keep-in-Truncate.result) c.keep-in-Truncate.ensures.left)

pub returns-in-Open-clause-left : goal.returns-in-Open-clause-left
returns-in-Open-clause-left g c =
    named_leaves g.B.Banks.log g.B.Banks.meter c.args.parts.now c.open.new.parts c.args.command.now (commands.Open c.in-Open.number) c.in-Open.is
    (task_leaves g.B.Banks.log g.B.Banks.meter c.args.parts.now c.open.new.parts (tasks.Open c.in-Open.number) (result_err c.open.result) c.open.ensures.left)

pub returns-in-Join-clause-left : goal.returns-in-Join-clause-left
returns-in-Join-clause-left g c =
    named_leaves g.B.Banks.log g.B.Banks.meter c.args.parts.now c.join.new.parts c.args.command.now (commands.Join c.in-Join.number) c.in-Join.is
    (nothing_leaves g.B.Banks.log g.B.Banks.meter c.args.parts.now c.join.new.parts (commands.Join c.in-Join.number) c.in-Join.number (result_err c.join.result) c.join.ensures.left)

pub returns-in-Ask-clause-left : goal.returns-in-Ask-clause-left
returns-in-Ask-clause-left g c =
    named_leaves g.B.Banks.log g.B.Banks.meter c.args.parts.now c.ask.new.parts c.args.command.now (commands.Ask c.in-Ask.number) c.in-Ask.is
    (nothing_leaves g.B.Banks.log g.B.Banks.meter c.args.parts.now c.ask.new.parts (commands.Ask c.in-Ask.number) c.in-Ask.number (result_err c.ask.result) c.ask.ensures.left)

pub returns-in-Stop-clause-left : goal.returns-in-Stop-clause-left
returns-in-Stop-clause-left g c =
    named_leaves g.B.Banks.log g.B.Banks.meter c.args.parts.now c.stop.new.parts c.args.command.now (commands.Stop c.in-Stop.number) c.in-Stop.is
    (nothing_leaves g.B.Banks.log g.B.Banks.meter c.args.parts.now c.stop.new.parts (commands.Stop c.in-Stop.number) c.in-Stop.number None c.stop.ensures.left)

pub returns-in-Show-clause-left : goal.returns-in-Show-clause-left
returns-in-Show-clause-left g c = same_leaves g.B.Banks.log g.B.Banks.meter c.args.parts.now c.args.parts.now (command_done c.args.command.now) (number_of_clone c.args.command.now) refl

pub returns-in-Query-clause-left : goal.returns-in-Query-clause-left
returns-in-Query-clause-left g c = same_leaves g.B.Banks.log g.B.Banks.meter c.args.parts.now c.args.parts.now (command_done c.args.command.now) (number_of_clone c.args.command.now) refl

pub returns-in-Compare-clause-left : goal.returns-in-Compare-clause-left
returns-in-Compare-clause-left g c = same_leaves g.B.Banks.log g.B.Banks.meter c.args.parts.now c.args.parts.now (command_done c.args.command.now) (number_of_clone c.args.command.now) refl

pub returns-in-Crash-clause-left : goal.returns-in-Crash-clause-left
returns-in-Crash-clause-left g c =
    named_leaves g.B.Banks.log g.B.Banks.meter c.args.parts.now c.crash.new.parts c.args.command.now (commands.Crash c.in-Crash.call c.in-Crash.leave c.in-Crash.task) c.in-Crash.is c.crash.ensures.left

pub returns-in-Add-clause-device : goal.returns-in-Add-clause-device
returns-in-Add-clause-device g c =
    named_uses g.B.Banks.log g.B.Banks.meter c.args.parts.now c.add.new.parts c.args.command.now (commands.Add c.in-Add.number c.in-Add.triple) (result_err c.tell.result) c.in-Add.is
    (task_uses g.B.Banks.log g.B.Banks.meter c.args.parts.now c.add.new.parts (tasks.Add c.in-Add.number c.in-Add.triple) (result_err c.add.result) (result_err c.tell.result)
    (told_fails c.add.result c.tell.result c.tell.ensures.cause) c.add.ensures.left)

pub returns-in-Remove-clause-device : goal.returns-in-Remove-clause-device
returns-in-Remove-clause-device g c =
    named_uses g.B.Banks.log g.B.Banks.meter c.args.parts.now c.remove.new.parts c.args.command.now (commands.Remove c.in-Remove.number c.in-Remove.triple) (result_err c.tell-in-Remove.result) c.in-Remove.is
    (task_uses g.B.Banks.log g.B.Banks.meter c.args.parts.now c.remove.new.parts (tasks.Remove c.in-Remove.number c.in-Remove.triple) (result_err c.remove.result) (result_err c.tell-in-Remove.result)
    (told_fails c.remove.result c.tell-in-Remove.result c.tell-in-Remove.ensures.cause) c.remove.ensures.left)

pub returns-in-Update-clause-device : goal.returns-in-Update-clause-device
returns-in-Update-clause-device g c =
    named_uses g.B.Banks.log g.B.Banks.meter c.args.parts.now c.update.new.parts c.args.command.now (commands.Update c.in-Update.number c.in-Update.plan) (result_err c.tell-in-Update.result) c.in-Update.is
    (task_uses g.B.Banks.log g.B.Banks.meter c.args.parts.now c.update.new.parts (tasks.Update c.in-Update.number c.in-Update.plan) (result_err c.update.result) (result_err c.tell-in-Update.result)
    (told_fails c.update.result c.tell-in-Update.result c.tell-in-Update.ensures.cause) c.update.ensures.left)

pub returns-in-Deliver-clause-device : goal.returns-in-Deliver-clause-device
returns-in-Deliver-clause-device g c =
    named_uses g.B.Banks.log g.B.Banks.meter c.args.parts.now c.deliver.new.parts c.args.command.now (commands.Deliver c.in-Deliver.message c.in-Deliver.number) (result_err c.tell-in-Deliver.result) c.in-Deliver.is
    (task_uses g.B.Banks.log g.B.Banks.meter c.args.parts.now c.deliver.new.parts (tasks.Deliver c.in-Deliver.message c.in-Deliver.number) (result_err c.deliver.result) (result_err c.tell-in-Deliver.result)
    (told_fails c.deliver.result c.tell-in-Deliver.result c.tell-in-Deliver.ensures.cause) c.deliver.ensures.left)

pub returns-in-Compact-clause-device : goal.returns-in-Compact-clause-device
returns-in-Compact-clause-device g c =
    named_uses g.B.Banks.log g.B.Banks.meter c.args.parts.now c.keep.new.parts c.args.command.now (commands.Compact c.in-Compact.number) (result_err c.tell-in-Compact.result) c.in-Compact.is
    (task_uses g.B.Banks.log g.B.Banks.meter c.args.parts.now c.keep.new.parts (tasks.Compact c.in-Compact.number) (result_err c.keep.result) (result_err c.tell-in-Compact.result)
    (told_fails c.keep.result c.tell-in-Compact.result c.tell-in-Compact.ensures.cause) c.keep.ensures.left)

pub returns-in-Truncate-clause-device : goal.returns-in-Truncate-clause-device
returns-in-Truncate-clause-device g c =
    named_uses g.B.Banks.log g.B.Banks.meter c.args.parts.now c.keep-in-Truncate.new.parts c.args.command.now (commands.Truncate c.in-Truncate.number c.in-Truncate.count) (result_err c.tell-in-Truncate.result) c.in-Truncate.is
    (task_uses g.B.Banks.log g.B.Banks.meter c.args.parts.now c.keep-in-Truncate.new.parts (tasks.Truncate c.in-Truncate.number c.in-Truncate.count) (result_err c.keep-in-Truncate.result) (result_err c.tell-in-Truncate.result)
    (told_fails c.keep-in-Truncate.result c.tell-in-Truncate.result c.tell-in-Truncate.ensures.cause) c.keep-in-Truncate.ensures.left)

pub returns-in-Open-clause-device : goal.returns-in-Open-clause-device
returns-in-Open-clause-device g c =
    named_uses g.B.Banks.log g.B.Banks.meter c.args.parts.now c.open.new.parts c.args.command.now (commands.Open c.in-Open.number) (result_err c.tell-in-Open.result) c.in-Open.is
    (task_uses g.B.Banks.log g.B.Banks.meter c.args.parts.now c.open.new.parts (tasks.Open c.in-Open.number) (result_err c.open.result) (result_err c.tell-in-Open.result)
    (told_fails c.open.result c.tell-in-Open.result c.tell-in-Open.ensures.cause) c.open.ensures.left)

pub returns-in-Join-clause-device : goal.returns-in-Join-clause-device
returns-in-Join-clause-device g c =
    named_uses g.B.Banks.log g.B.Banks.meter c.args.parts.now c.join.new.parts c.args.command.now (commands.Join c.in-Join.number) (result_err c.tell-in-Join.result) c.in-Join.is
    (λ steps world stands sound was now had has. inr (
    nothing_uses g.B.Banks.log g.B.Banks.meter c.args.parts.now c.join.new.parts c.in-Join.number (result_err c.join.result) (result_err c.tell-in-Join.result)
    (told_fails c.join.result c.tell-in-Join.result c.tell-in-Join.ensures.cause) c.join.ensures.left was now had has))

pub returns-in-Ask-clause-device : goal.returns-in-Ask-clause-device
returns-in-Ask-clause-device g c =
    named_uses g.B.Banks.log g.B.Banks.meter c.args.parts.now c.ask.new.parts c.args.command.now (commands.Ask c.in-Ask.number) (result_err c.tell-in-Ask.result) c.in-Ask.is
    (λ steps world stands sound was now had has. inr (
    nothing_uses g.B.Banks.log g.B.Banks.meter c.args.parts.now c.ask.new.parts c.in-Ask.number (result_err c.ask.result) (result_err c.tell-in-Ask.result)
    (told_fails c.ask.result c.tell-in-Ask.result c.tell-in-Ask.ensures.cause) c.ask.ensures.left was now had has))

pub returns-in-Stop-clause-device : goal.returns-in-Stop-clause-device
returns-in-Stop-clause-device g c =
    named_uses g.B.Banks.log g.B.Banks.meter c.args.parts.now c.stop.new.parts c.args.command.now (commands.Stop c.in-Stop.number) (result_err c.tell-in-Stop.result) c.in-Stop.is
    (λ steps world stands sound was now had has. inr (
    nothing_uses g.B.Banks.log g.B.Banks.meter c.args.parts.now c.stop.new.parts c.in-Stop.number None (result_err c.tell-in-Stop.result)
    (told_fails (Ok c.stop.result) c.tell-in-Stop.result c.tell-in-Stop.ensures.cause) c.stop.ensures.left was now had has))

pub returns-in-Show-clause-device : goal.returns-in-Show-clause-device
returns-in-Show-clause-device g c =
    named_uses g.B.Banks.log g.B.Banks.meter c.args.parts.now c.args.parts.now c.args.command.now (commands.Show c.in-Show.number) (result_err c.tell-in-Show.result) c.in-Show.is
    (λ steps world stands sound was now had has. inr (
    same_uses g.B.Banks.log g.B.Banks.meter c.args.parts.now c.args.parts.now c.in-Show.number (result_err c.tell-in-Show.result) refl
    (λ clone is. done_unfailed clone (told_fails (Ok c.show.result) c.tell-in-Show.result c.tell-in-Show.ensures.cause clone is)) was now had has))

pub returns-in-Query-clause-device : goal.returns-in-Query-clause-device
returns-in-Query-clause-device g c =
    named_uses g.B.Banks.log g.B.Banks.meter c.args.parts.now c.args.parts.now c.args.command.now (commands.Query c.in-Query.number c.in-Query.read) (result_err c.tell-in-Query.result) c.in-Query.is
    (λ steps world stands sound was now had has. inr (
    same_uses g.B.Banks.log g.B.Banks.meter c.args.parts.now c.args.parts.now c.in-Query.number (result_err c.tell-in-Query.result) refl
    (λ clone is. want_unfailed c.query.result c.query.ensures.cause clone (told_fails c.query.result c.tell-in-Query.result c.tell-in-Query.ensures.cause clone is)) was now had has))

pub returns-in-Compare-clause-device : goal.returns-in-Compare-clause-device
returns-in-Compare-clause-device g c =
    named_uses g.B.Banks.log g.B.Banks.meter c.args.parts.now c.args.parts.now c.args.command.now (commands.Compare c.in-Compare.number c.in-Compare.other) (result_err c.tell-in-Compare.result) c.in-Compare.is
    (λ steps world stands sound was now had has. inr (
    same_uses g.B.Banks.log g.B.Banks.meter c.args.parts.now c.args.parts.now c.in-Compare.number (result_err c.tell-in-Compare.result) refl
    (λ clone is. done_unfailed clone (told_fails (Ok c.compare.result) c.tell-in-Compare.result c.tell-in-Compare.ensures.cause clone is)) was now had has))

pub returns-in-Crash-clause-device : goal.returns-in-Crash-clause-device
returns-in-Crash-clause-device g c =
    named_uses g.B.Banks.log g.B.Banks.meter c.args.parts.now c.crash.new.parts c.args.command.now (commands.Crash c.in-Crash.call c.in-Crash.leave c.in-Crash.task) (result_err c.tell_crash.result) c.in-Crash.is
    (crash_uses g.B.Banks.log g.B.Banks.meter c.args.parts.now c.crash.new.parts c.in-Crash.call c.in-Crash.leave c.in-Crash.task (result_err c.crash.result) (result_err c.tell_crash.result)
    (crash_told_fails c.crash.result c.tell_crash.result c.tell_crash.ensures.cause) c.crash.ensures.device)
