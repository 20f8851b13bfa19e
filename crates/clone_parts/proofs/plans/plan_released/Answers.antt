use Rattle.std.proofs.Common.{subst}
use Rattle.mld_ops.specs.Entry.{EntryValue}
use Rattle.clone_parts.specs.Plans.{PlansEntry}
use Rattle.clone_parts.proofs.Planning.{plan_from}
use Rattle.clone_parts.proofs.plans.plan_released.Goals as goal

pub returns : goal.returns
returns c =
    plan_from c.args.clock.now.ticks c.args.pairs.now.pairs c.args.held.now c.args.entry.now c.in_ok-plan.plan c.take.new.plan c.release_held.new.plan c.in_ok-left.left c.in_ok-cut.cut
    c.requires.pairs c.in_ok-plan.ensures.nothing
    (subst (λ (e : EntryValue). PlansEntry c.args.pairs.now.pairs c.in_ok-plan.plan e c.take.new.plan) c.in_ok-copy_in.ensures c.in_ok-take.ensures)
    c.in_ok-left.ensures c.in_ok-cut.ensures.drops c.in_ok-cut.ensures.adds
