use Rattle.std.proofs.Common.{ℕ, ◌≤◌, arith}
use Rattle.std.proofs.lemmas.Bool.{false≢true}
use Rattle.rdf_terms.specs.declared.terms.Triple.{Triple}
use Rattle.mld_ops.proofs.Walking.{all_more, all_fails}
use Rattle.mld_ops.proofs.entries.all_inside.Goals as goal
use Rattle.mld_ops.proofs.entries.all_inside.Goals.{then-tick-range-via-then-tick-range, then-tick-range-via-else-tick-range+then-range-tick}

pub returns-then-tick-range : goal.returns-then-tick-range
returns-then-tick-range c = (
  λ t. absurd (false≢true t),
  λ a. absurd (all_fails (λ (insert : Triple × ℕ). (c.args.range.now.first ≤ insert.1) × (insert.1 ≤ c.args.range.now.last)) c.args.inserts.now c.loop-tick.tick-index c.loop-tick-item.result c.loop-tick-test.true c.loop-tick-item.is
      (λ p. elim c.then-tick-range.branch [
        | then-tick-range-via-then-tick-range w ↦ omega (arith, w.if-tick-range.true, p.0)
        | then-tick-range-via-else-tick-range+then-range-tick w ↦ omega (arith, w.if-range-tick.true, p.1)
      ]) a),
)

pub loop-tick-preserved : goal.loop-tick-preserved
loop-tick-preserved c =
    all_more (λ (insert : Triple × ℕ). (c.args.range.now.first ≤ insert.1) × (insert.1 ≤ c.args.range.now.last)) c.args.inserts.now c.loop-tick.tick-index c.loop-tick-item.result c.loop-tick-test.true c.loop-tick-item.is
    c.loop-tick.invariant (c.if-tick-range.false, c.if-range-tick.false)
