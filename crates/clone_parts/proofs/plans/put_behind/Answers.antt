use Rattle.std.proofs.Common.{List, subst}
use Rattle.std.proofs.lemmas.Result.{on_ok_weaker}
use Rattle.tree_clock.specs.Clock.{ticks_of}
use Rattle.mld_ops.specs.declared.tagged.Tagged.{Tagged}
use Rattle.mld_ops.specs.Applies.{Applies}
use Rattle.clone_parts.proofs.Planning.{put_behind_cuts}
use Rattle.clone_parts.proofs.plans.put_behind.Goals as goal

pub returns : goal.returns
returns c =
    let entry = c.args.entry.now in
    let base = c.in_ok-base.base in
    let own = c.in_ok-own.own in
    let drops = c.args.drops.now in
    let adds = c.args.adds.now in
    let more_drops = c.change.new.self in
    let dropped = subst (λ (none : List Tagged). Applies none base.drops.items drops more_drops) c.new.ensures.items c.in_ok-change.ensures.ok in
    on_ok_weaker c.change-2.result
    (put_behind_cuts entry (ticks_of c.args.clock.now.ticks entry.range.path) c.args.pairs.now.pairs drops adds base.drops.items base.adds.items own.drops.items own.adds.items
    more_drops c.change-2.new.self c.in_ok-base.ensures c.in_ok-own.ensures dropped)
    c.change-2.ensures.ok
