use Rattle.std.proofs.Common.{List, refl, sym, subst, arith}
use Rattle.mld_ops.specs.Entry.{EntryValue}
use Rattle.mld_ops.proofs.PickingLaws.{first_is}
use Rattle.mld_ops.specs.Ready.{IsKnownEntry, IsReadyEntry}
use Rattle.clone_parts.specs.Plans.{PlansReleases}
use Rattle.clone_parts.proofs.Planning.{releasing_more, releasing_all, drops_shorter, first_shorter}
use Rattle.clone_parts.proofs.plans.release.Goals as goal

pub returns-in_default : goal.returns-in_default
returns-in_default c =
    let kept = c.drop_known.new.self in
    subst (λ (left : List EntryValue). PlansReleases c.args.pairs.now.pairs c.args.plan.now c.args.held.now c.loop-entry.plan left) (sym c.in_default.ensures.unchanged)
    (releasing_all c.args.pairs.now.pairs c.args.plan.now c.args.held.now c.loop-entry.plan c.loop-entry.held kept c.loop-entry.invariant c.drop_known.ensures (c.in_default.ensures.none.0 refl))

pub take-requires : goal.take-requires
take-requires c = first_is (IsReadyEntry c.loop-entry.plan.clock.ticks) c.drop_known.new.self c.in-Some.entry c.take_ready.new.self c.in-Some.ensures.some

pub loop-entry-preserved : goal.loop-entry-preserved
loop-entry-preserved c =
    releasing_more c.args.pairs.now.pairs c.args.plan.now c.args.held.now c.loop-entry.plan c.take.new.plan c.loop-entry.held c.drop_known.new.self c.take_ready.new.self c.in-Some.entry
    c.loop-entry.invariant c.drop_known.ensures c.in-Some.ensures.some c.in_ok-take.ensures

pub loop-entry-smaller : goal.loop-entry-smaller
loop-entry-smaller c =
    let ticks = c.loop-entry.plan.clock.ticks in
    let d = drops_shorter (IsKnownEntry ticks) c.loop-entry.held c.drop_known.new.self c.drop_known.ensures in
    let f = first_shorter (IsReadyEntry ticks) c.drop_known.new.self c.in-Some.entry c.take_ready.new.self c.in-Some.ensures.some in
    omega (arith, d, f)
