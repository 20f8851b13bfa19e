use Rattle.std.proofs.Common.{◌∙◌, sym, ap}
use Rattle.std.proofs.lemmas.Bool.{false≢true}
use Rattle.std.specs.Ordering.{is_eq}
use Rattle.pair_orders.specs.KeyFronts.{is_before_front}
use Rattle.pair_orders.proofs.Fronting.{before_front, begins_so, first_is, first_tells, none_tells, tied}
use Rattle.pair_orders.proofs.finds.first_with.Goals as goal

pub first_from-requires : goal.first_from-requires
first_from-requires c = before_front c.args.front.now c.args.keys.now.elements c.requires

pub returns-in_err-first-clause-none : goal.returns-in_err-first-clause-none
returns-in_err-first-clause-none c = rw c.from_residual.ensures (none_tells c.args.front.now c.args.keys.now.elements c.in_err-first.ensures)

pub returns-then-is_eq-clause-some : goal.returns-then-is_eq-clause-some
returns-then-is_eq-clause-some c =
    let first = c.in_ok-first.first.now in
    let e = sym c.compare_front.ensures ∙ tied c.compare_front.result (sym c.if-is_eq.ensures) in
    (first_is (is_before_front c.args.front.now) c.args.keys.now.elements first c.in_ok-first.ensures, begins_so c.args.front.now first e)

pub returns-clause-none : goal.returns-clause-none
returns-clause-none c =
    let m = c.if-is_eq.ensures in
    first_tells c.args.front.now c.args.keys.now.elements c.in_ok-first.first.now c.requires c.in_ok-first.ensures (λ e. false≢true (m ∙ ap is_eq (c.compare_front.ensures ∙ e)))
