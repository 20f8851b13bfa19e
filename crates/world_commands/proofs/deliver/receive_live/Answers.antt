use Rattle.std.proofs.Common.{Ok, Err, None, Some, sym, subst}
use Rattle.crash_laws.specs.clone_parts.declared.faults.ReceiveFault.{ReceiveFault}
use Rattle.world_commands.specs.declared.faults.WorldFault.TheVariants as faults
use Rattle.world_commands.proofs.LeftLemmas.{MessageAnswers, fault_undone, done_unfailed, short_unfailed, receive_left}
use Rattle.world_commands.proofs.deliver.receive_live.Goals as goal

pub unreachable-requires : goal.unreachable-requires
unreachable-requires g c = absurd (cc (c.requires.opened, (c.in-Err-Closed.ensures.closed c.in-Err-Closed.field-0-0).0 (λ i. Err (c.in-Err-Closed.field-0-is i))))

pub returns-in-Ok-Took-clause-left : goal.returns-in-Ok-Took-clause-left
returns-in-Ok-Took-clause-left g c =
    receive_left g.B.Banks.log g.B.Banks.meter c.args.clone.now c.receive.new.self c.args.message.now None (Ok c.in-Ok-Took.field-0) (λ whole. tt) (λ clone is. done_unfailed clone is) c.in-Ok-Took.ensures.ok tt tt c.in-Ok-Took.ensures.durable

pub returns-in-Ok-Merged-clause-left : goal.returns-in-Ok-Merged-clause-left
returns-in-Ok-Merged-clause-left g c =
    receive_left g.B.Banks.log g.B.Banks.meter c.args.clone.now c.receive.new.self c.args.message.now None (Ok c.in-Ok-Merged.field-0) (λ whole. tt) (λ clone is. done_unfailed clone is) c.in-Ok-Merged.ensures.ok tt tt c.in-Ok-Merged.ensures.durable

pub returns-in-Ok-Held-clause-left : goal.returns-in-Ok-Held-clause-left
returns-in-Ok-Held-clause-left g c =
    receive_left g.B.Banks.log g.B.Banks.meter c.args.clone.now c.receive.new.self c.args.message.now None (Ok c.in-Ok-Held.field-0) (λ whole. tt) (λ clone is. done_unfailed clone is) c.in-Ok-Held.ensures.ok tt tt c.in-Ok-Held.ensures.durable

pub returns-in-Ok-Known-clause-left : goal.returns-in-Ok-Known-clause-left
returns-in-Ok-Known-clause-left g c =
    receive_left g.B.Banks.log g.B.Banks.meter c.args.clone.now c.receive.new.self c.args.message.now None (Ok c.in-Ok-Known.field-0) (λ whole. tt) (λ clone is. done_unfailed clone is) c.in-Ok-Known.ensures.ok tt tt c.in-Ok-Known.ensures.durable

pub returns-in-Ok-Nothing-clause-left : goal.returns-in-Ok-Nothing-clause-left
returns-in-Ok-Nothing-clause-left g c =
    receive_left g.B.Banks.log g.B.Banks.meter c.args.clone.now c.receive.new.self c.args.message.now None (Ok c.in-Ok-Nothing.field-0) (λ whole. tt) (λ clone is. done_unfailed clone is) c.in-Ok-Nothing.ensures.ok tt tt c.in-Ok-Nothing.ensures.durable

pub returns-in-Ok-Ignored-clause-left : goal.returns-in-Ok-Ignored-clause-left
returns-in-Ok-Ignored-clause-left g c =
    receive_left g.B.Banks.log g.B.Banks.meter c.args.clone.now c.receive.new.self c.args.message.now None (Ok c.in-Ok-Ignored.field-0) (λ whole. tt) (λ clone is. done_unfailed clone is) c.in-Ok-Ignored.ensures.ok tt tt c.in-Ok-Ignored.ensures.durable

pub returns-in-Ok-Answer-clause-left : goal.returns-in-Ok-Answer-clause-left
returns-in-Ok-Answer-clause-left g c =
    receive_left g.B.Banks.log g.B.Banks.meter c.args.clone.now c.receive.new.self c.args.message.now None (Ok c.in-Ok-Answer.field-0) (λ whole. tt) (λ clone is. done_unfailed clone is) c.in-Ok-Answer.ensures.ok tt tt c.in-Ok-Answer.ensures.durable

pub returns-in-Err-HeldFull-clause-left : goal.returns-in-Err-HeldFull-clause-left
returns-in-Err-HeldFull-clause-left g c =
    receive_left g.B.Banks.log g.B.Banks.meter c.args.clone.now c.receive.new.self c.args.message.now None (Err c.in-Err-HeldFull.field-0)
    (λ whole. subst (λ (f : ReceiveFault). MessageAnswers (Err f)) (sym c.in-Err-HeldFull.field-0-is) tt) (λ clone is. done_unfailed clone is) tt c.in-Err-HeldFull.ensures.err c.in-Err-HeldFull.ensures.left c.in-Err-HeldFull.ensures.durable

pub returns-in-Err-Deep-clause-left : goal.returns-in-Err-Deep-clause-left
returns-in-Err-Deep-clause-left g c =
    receive_left g.B.Banks.log g.B.Banks.meter c.args.clone.now c.receive.new.self c.args.message.now None (Err c.in-Err-Deep.field-0)
    (λ whole. subst (λ (f : ReceiveFault). MessageAnswers (Err f)) (sym c.in-Err-Deep.field-0-is) tt) (λ clone is. done_unfailed clone is) tt c.in-Err-Deep.ensures.err c.in-Err-Deep.ensures.left c.in-Err-Deep.ensures.durable

pub returns-in-Err-NoMemory-clause-left : goal.returns-in-Err-NoMemory-clause-left
returns-in-Err-NoMemory-clause-left g c =
    receive_left g.B.Banks.log g.B.Banks.meter c.args.clone.now c.receive.new.self c.args.message.now (Some faults.NoMemory) (Err c.in-Err-NoMemory.field-0)
    (λ whole. fault_undone faults.NoMemory whole) (λ clone is. short_unfailed clone is) tt c.in-Err-NoMemory.ensures.err c.in-Err-NoMemory.ensures.left c.in-Err-NoMemory.ensures.durable

pub returns-in-Err-Device-clause-left : goal.returns-in-Err-Device-clause-left
returns-in-Err-Device-clause-left g c =
    receive_left g.B.Banks.log g.B.Banks.meter c.args.clone.now c.receive.new.self c.args.message.now (Some (faults.Device c.args.number)) (Err c.in-Err-Device.field-0)
    (λ whole. fault_undone (faults.Device c.args.number) whole) (λ clone is. λ i. Err (c.in-Err-Device.field-0-is i)) tt c.in-Err-Device.ensures.err c.in-Err-Device.ensures.left c.in-Err-Device.ensures.durable
