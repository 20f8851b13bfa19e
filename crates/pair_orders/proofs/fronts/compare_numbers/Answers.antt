use Rattle.std.proofs.Common.{◌+◌, ◌∙◌, drop, sym, ap, arith}
use Rattle.std.specs.Cmp.Lexicographic.{slice_cmp}
use Rattle.std.specs.Ordering.{nat_cmp, ordering_then}
use Rattle.pair_orders.proofs.Comparing.{rest_is, ended_less, ended_equal, decides, defers}
use Rattle.pair_orders.proofs.fronts.compare_numbers.Goals as goal

pub returns-then-is_ne : goal.returns-then-is_ne
returns-then-is_ne c =
    let rest = slice_cmp nat_cmp (drop (c.loop-i.i + 1) c.args.a.now) (drop (c.loop-i.i + 1) c.args.b.now) in
    decides c.cmp-found.result rest (sym c.is_ne.ensures ∙ c.if-is_ne.true) ∙ ap (λ k. ordering_then k rest) c.cmp-found.ensures
    ∙ sym (rest_is c.args.a.now c.args.b.now c.loop-i.i (omega arith) (omega arith)) ∙ c.loop-i.invariant

pub loop-i-preserved : goal.loop-i-preserved
loop-i-preserved c =
    let rest = slice_cmp nat_cmp (drop (c.loop-i.i + 1) c.args.a.now) (drop (c.loop-i.i + 1) c.args.b.now) in
    defers c.cmp-found.result rest (sym c.is_ne.ensures ∙ c.if-is_ne.false) ∙ ap (λ k. ordering_then k rest) c.cmp-found.ensures
    ∙ sym (rest_is c.args.a.now c.args.b.now c.loop-i.i (omega arith) (omega arith)) ∙ c.loop-i.invariant

pub returns-then-shorter : goal.returns-then-shorter
returns-then-shorter c = ended_less c.args.a.now c.args.b.now c.loop-i.i (omega arith) (omega arith) ∙ c.loop-i.invariant

pub returns : goal.returns
returns c = ended_equal c.args.a.now c.args.b.now c.loop-i.i (omega arith) (omega arith) ∙ c.loop-i.invariant
