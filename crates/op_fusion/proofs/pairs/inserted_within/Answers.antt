use Rattle.std.proofs.Common.{ap, arith}
use Rattle.tree_clock.specs.declared.dots.Range.{Range}
use Rattle.mld_ops.specs.Tagged.{tagged_cmp, insert_cmp}
use Rattle.mld_ops.specs.History.{dot_at}
use Rattle.mld_ops.proofs.Computing.{tagged_alike}
use Rattle.op_fusion.proofs.Lists.{picks_none, picks_more, picks_skip, picks_all}
use Rattle.op_fusion.proofs.Orders.{as_pair, pairs_rise, IsWithin, within_members}
use Rattle.op_fusion.proofs.pairs.inserted_within.Goals as goal
use Rattle.op_fusion.proofs.pairs.inserted_within.Goals.{then-low-tick+then-tick-high+in_ok-triple+in_ok-push, else-low-tick, else-low-tick-via-then-low-tick+else-tick-high, else-low-tick-via-else-low-tick}

pub loop-triple-init : goal.loop-triple-init
loop-triple-init c =
    picks_none tagged_cmp (as_pair c.range-path.result.path) (IsWithin c.args.low c.args.high) c.inserts-triple-items.result.now c.new-pairs.result.items c.new-pairs.ensures.items

pub loop-triple-preserved : goal.loop-triple-preserved
loop-triple-preserved c =
    let path = c.range-path.result.path in
    let inserts = c.inserts-triple-items.result.now in
    let insert = c.loop-triple-item.result in
    let skips = picks_skip tagged_cmp (as_pair path) (IsWithin c.args.low c.args.high) inserts c.loop-triple.triple-index insert c.loop-triple.pairs.items c.loop-triple-test.true c.loop-triple-item.is in
    elim c.if-low-tick.branch [
      | then-low-tick+then-tick-high+in_ok-triple+in_ok-push w ↦ rw (w.pairs-is, w.in_ok-push.ensures.items)
          (picks_more tagged_cmp (as_pair path) (IsWithin c.args.low c.args.high) insert_cmp (pairs_rise path) inserts c.loop-triple.triple-index insert c.loop-triple.pairs.items _
          (rw c.inserts-triple-items.ensures c.range-path.ensures.entry.inserts_ascend) c.loop-triple-test.true c.loop-triple-item.is
          (tagged_alike w.in_ok-triple.triple insert.0 (dot_at path insert.1) w.in_ok-triple.ensures) (w.if-low-tick.true, w.if-tick-high.true) c.loop-triple.invariant)
      | else-low-tick w ↦ rw w.pairs-is (elim w.else-low-tick.branch [
        | else-low-tick-via-then-low-tick+else-tick-high v ↦ skips (λ h. omega (arith, h.1, v.if-tick-high.false)) c.loop-triple.invariant
        | else-low-tick-via-else-low-tick v ↦ skips (λ h. omega (arith, h.0, v.if-low-tick.false)) c.loop-triple.invariant
      ])
    ]

pub returns-clause-ascending : goal.returns-clause-ascending
returns-clause-ascending c = c.loop-triple.invariant.ascending

pub returns-clause-members : goal.returns-clause-members
returns-clause-members c =
    let path = c.range-path.result.path in
    let inserts = c.inserts-triple-items.result.now in
    within_members c.args.entry.now path inserts c.args.low c.args.high c.loop-triple.pairs.items (ap (λ (r : Range). r.path) c.range-path.ensures.value) c.inserts-triple-items.ensures
    (picks_all tagged_cmp (as_pair path) (IsWithin c.args.low c.args.high) inserts c.loop-triple.triple-index c.loop-triple.pairs.items c.loop-triple-test.false c.loop-triple.invariant)
