use Rattle.std.proofs.Common.{◌+◌, ◌-◌, length}
use Rattle.pair_orders.specs.Orders.{binary_digits, is_before_places}
use Rattle.pair_orders.proofs.Narrowing.{IsNarrowed}
use Rattle.pair_orders.proofs.searches.first_within.Given as goal

abbrev pub invariant-loop-low : goal.invariant-loop-low
invariant-loop-low g l =
    IsNarrowed (is_before_places l.order.shape l.wanted) l.order.keys l.low l.high l.steps (l.fn.steps + binary_digits (length l.order.keys))

abbrev pub decreases-loop-low : goal.decreases-loop-low
decreases-loop-low g l = l.high - l.low
