use Rattle.std.proofs.Common.{◌≡◌, ◌∙◌, ◌++◌, ◌∷◌, [], ap, subst}
use Rattle.tree_clock.specs.declared.dots.Range.{Range}
use Rattle.tree_clock.specs.Clock.{RaisesTo}
use Rattle.mld_ops.specs.Ready.{last_dot}
use Rattle.clone_parts.specs.declared.plans.Growing.{Growing}
use Rattle.clone_parts.proofs.Planning.{plans_more}
use Rattle.clone_parts.proofs.plans.take.Goals as goal

pub returns : goal.returns
returns c =
    let entry = c.args.entry in
    let old = c.args.plan.now in
    let pairs = c.args.pairs.now.pairs in
    let ticks = old.clock.ticks in
    let after = c.raise.new.self.ticks in
    let range : c.range-range.result ≡ entry.range = c.range-range.ensures.value in
    let raised : RaisesTo ticks after (last_dot c.range-range.result) = subst (λ ts. RaisesTo ts after (last_dot c.range-range.result)) c.reserve.ensures.ticks c.raise.ensures.raised in
    let new : Growing = record { clock = c.raise.new.self; entries = c.push-2.new.self; ranges = c.push.new.self; drops = c.put_behind.new.drops; adds = c.put_behind.new.adds } in
    plans_more pairs old new entry c.range-range.ensures.entry c.requires (subst (λ (r : Range). RaisesTo ticks after (last_dot r)) range raised)
    c.in_ok-put_behind.ensures c.in_ok-push-2.ensures.items (c.in_ok-push.ensures.ok ∙ ap (λ (r : Range). old.ranges ++ r ∷ []) range)
