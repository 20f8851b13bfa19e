use Rattle.std.proofs.Common.{refl}
use Rattle.op_fusion.proofs.Merging.{merging_begins, merging_more, merging_ends}
use Rattle.op_fusion.proofs.pairs.merge.Goals as goal

pub loop-pair-init : goal.loop-pair-init
loop-pair-init c =
    let left = c.from_vec-left.result.items in
    let right = c.from_vec-right.result.items in
    merging_begins left right left right c.new-merged.result.items (rw c.from_vec-left.ensures.items c.requires.left) (rw c.from_vec-right.ensures.items c.requires.right) refl refl c.new-merged.ensures.items

pub loop-pair-preserved : goal.loop-pair-preserved
loop-pair-preserved c =
    rw c.in_ok-push.ensures.items (merging_more c.from_vec-left.result.items c.from_vec-right.result.items c.loop-pair.left.items c.loop-pair.right.items c.loop-pair.merged.items
    c.take_least.new.left.items c.take_least.new.right.items c.in-Some.pair c.loop-pair.invariant c.in-Some.ensures.some)

pub returns-clause-ascending : goal.returns-clause-ascending
returns-clause-ascending c = c.loop-pair.invariant.merged_ascends

pub returns-clause-members : goal.returns-clause-members
returns-clause-members c =
    merging_ends c.args.left.items c.args.right.items c.from_vec-left.result.items c.from_vec-right.result.items c.loop-pair.left.items c.loop-pair.right.items c.loop-pair.merged.items
    c.from_vec-left.ensures.items c.from_vec-right.ensures.items c.in_default.ensures.none.0 c.in_default.ensures.none.1 c.loop-pair.invariant
