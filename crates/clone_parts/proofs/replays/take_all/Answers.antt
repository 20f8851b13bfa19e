use Rattle.std.proofs.Common.{List, refl, subst, arith}
use Rattle.tree_clock.specs.Clock.{ticks_of, RaisesTo}
use Rattle.tree_clock.specs.declared.dots.Range.{Range}
use Rattle.mld_ops.specs.declared.tagged.Tagged.{Tagged}
use Rattle.mld_ops.specs.Applies.{Applies}
use Rattle.mld_ops.specs.Ready.{last_dot}
use Rattle.op_fusion.proofs.CutPairs.{cut_is_applied}
use Rattle.clone_parts.proofs.Replaying.{replaying_more, replaying_all}
use Rattle.clone_parts.proofs.replays.take_all.Goals as goal

pub loop-entry-init : goal.loop-entry-init
loop-entry-init c = record { leads = (refl, refl); ready = c.requires.ready; covered = c.requires.covered }

pub loop-entry-preserved : goal.loop-entry-preserved
loop-entry-preserved c =
    let entry = c.entry-item.result in
    let before = c.loop-entry.clock.ticks in
    let after = c.raise.new.self.ticks in
    let pairs = c.loop-entry.pairs.pairs in
    let cut = c.in_ok-cut.cut in
    let new = c.apply.new.self.pairs in
    let raised = subst (λ (r : Range). RaisesTo before after (last_dot r)) c.range-range.ensures.value
    (subst (λ ts. RaisesTo ts after (last_dot c.range-range.result)) c.reserve.ensures.ticks c.raise.ensures.raised) in
    let leaves = cut_is_applied entry (ticks_of before entry.range.path) pairs cut.drops.items cut.adds.items new c.in_ok-cut.ensures
    (subst (λ (ps : List Tagged). Applies cut.drops.items cut.adds.items ps new) c.prepare.ensures.pairs c.apply.ensures) in
    replaying_more c.args.clock.now.ticks c.args.pairs.now.pairs c.args.entries.now c.loop-entry.entry-index before after
    pairs new entry c.loop-entry-test.true c.entry-item.is c.loop-entry.invariant c.range-range.ensures.entry raised leaves

pub returns-clause-leads : goal.returns-clause-leads
returns-clause-leads c =
    replaying_all c.args.clock.now.ticks c.args.pairs.now.pairs c.args.entries.now c.loop-entry.entry-index c.loop-entry.clock.ticks c.loop-entry.pairs.pairs
    (omega (arith, c.loop-entry-test.false)) c.loop-entry.invariant

pub returns-clause-covered : goal.returns-clause-covered
returns-clause-covered c = c.loop-entry.invariant.covered
