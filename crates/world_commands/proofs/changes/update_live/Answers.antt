use Rattle.std.proofs.Common.{Ok, Err, None, Some, sym, subst}
use Rattle.std.specs.Result.{result_err}
use Rattle.crash_laws.specs.clone_parts.declared.faults.UpdateFault.{UpdateFault}
use Rattle.world_commands.specs.declared.faults.WorldFault.TheVariants as faults
use Rattle.world_commands.proofs.LeftLemmas.{UpdateAnswers, fault_undone, done_unfailed, short_unfailed, memory_unfailed, below_last, update_left}
use Rattle.world_commands.proofs.changes.update_live.Goals as goal

pub unreachable-requires : goal.unreachable-requires
unreachable-requires g c = absurd (cc (c.requires.opened, (c.in-Err-Closed.ensures.closed c.in-Err-Closed.field-0-0).0 (λ i. Err (c.in-Err-Closed.field-0-is i))))

pub returns-in-Ok-Nothing-clause-left : goal.returns-in-Ok-Nothing-clause-left
returns-in-Ok-Nothing-clause-left g c =
    update_left g.B.Banks.log g.B.Banks.meter c.args.clone.now c.update.new.self c.args.plan.now None (Ok c.in-Ok-Nothing.field-0) (below_last c.args.clone.now c.requires.ticks) (λ whole. tt) (λ clone is. done_unfailed clone is) c.in-Ok-Nothing.ensures.ok tt tt c.in-Ok-Nothing.ensures.durable

pub returns-in_ok-send_entry-in-Ok-Made-clause-left : goal.returns-in_ok-send_entry-in-Ok-Made-clause-left
returns-in_ok-send_entry-in-Ok-Made-clause-left g c =
    update_left g.B.Banks.log g.B.Banks.meter c.args.clone.now c.update.new.self c.args.plan.now None (Ok c.in-Ok-Made.field-0) (below_last c.args.clone.now c.requires.ticks) (λ whole. tt) (λ clone is. done_unfailed clone is) c.in-Ok-Made.ensures.ok tt tt c.in-Ok-Made.ensures.durable

pub returns-in_err-send_entry-in-Ok-Made-clause-left : goal.returns-in_err-send_entry-in-Ok-Made-clause-left
returns-in_err-send_entry-in-Ok-Made-clause-left g c =
    update_left g.B.Banks.log g.B.Banks.meter c.args.clone.now c.update.new.self c.args.plan.now (result_err c.from_residual.result) (Ok c.in-Ok-Made.field-0) (below_last c.args.clone.now c.requires.ticks) (λ whole. tt)
    (λ clone is. memory_unfailed c.from_residual.result c.from_residual.ensures.1 clone is) c.in-Ok-Made.ensures.ok tt tt c.in-Ok-Made.ensures.durable

pub returns-in-Err-TooMany-clause-left : goal.returns-in-Err-TooMany-clause-left
returns-in-Err-TooMany-clause-left g c =
    update_left g.B.Banks.log g.B.Banks.meter c.args.clone.now c.update.new.self c.args.plan.now None (Err c.in-Err-TooMany.field-0) (below_last c.args.clone.now c.requires.ticks)
    (λ whole. subst (λ (f : UpdateFault). UpdateAnswers (Err f)) (sym c.in-Err-TooMany.field-0-is) tt) (λ clone is. done_unfailed clone is) tt c.in-Err-TooMany.ensures.refused c.in-Err-TooMany.ensures.left c.in-Err-TooMany.ensures.durable

pub returns-in-Err-Single-clause-left : goal.returns-in-Err-Single-clause-left
returns-in-Err-Single-clause-left g c =
    update_left g.B.Banks.log g.B.Banks.meter c.args.clone.now c.update.new.self c.args.plan.now None (Err c.in-Err-Single.field-0) (below_last c.args.clone.now c.requires.ticks)
    (λ whole. subst (λ (f : UpdateFault). UpdateAnswers (Err f)) (sym c.in-Err-Single.field-0-is) tt) (λ clone is. done_unfailed clone is) tt c.in-Err-Single.ensures.refused c.in-Err-Single.ensures.left c.in-Err-Single.ensures.durable

pub returns-in-Err-NoMemory-clause-left : goal.returns-in-Err-NoMemory-clause-left
returns-in-Err-NoMemory-clause-left g c =
    update_left g.B.Banks.log g.B.Banks.meter c.args.clone.now c.update.new.self c.args.plan.now (Some faults.NoMemory) (Err c.in-Err-NoMemory.field-0) (below_last c.args.clone.now c.requires.ticks)
    (λ whole. fault_undone faults.NoMemory whole) (λ clone is. short_unfailed clone is) tt c.in-Err-NoMemory.ensures.refused c.in-Err-NoMemory.ensures.left c.in-Err-NoMemory.ensures.durable

pub returns-in-Err-Device-clause-left : goal.returns-in-Err-Device-clause-left
returns-in-Err-Device-clause-left g c =
    update_left g.B.Banks.log g.B.Banks.meter c.args.clone.now c.update.new.self c.args.plan.now (Some (faults.Device c.args.number)) (Err c.in-Err-Device.field-0) (below_last c.args.clone.now c.requires.ticks)
    (λ whole. fault_undone (faults.Device c.args.number) whole) (λ clone is. λ i. Err (c.in-Err-Device.field-0-is i)) tt c.in-Err-Device.ensures.refused c.in-Err-Device.ensures.left c.in-Err-Device.ensures.durable
