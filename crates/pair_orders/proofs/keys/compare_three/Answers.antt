use Rattle.std.specs.Ordering.{nat_cmp}
use Rattle.pair_orders.proofs.Comparing.{three_made}
use Rattle.pair_orders.proofs.keys.compare_three.Goals as goal

pub returns : goal.returns
returns c =
    three_made (nat_cmp c.args.a.0 c.args.b.0) (nat_cmp c.args.a.1 c.args.b.1) (nat_cmp c.args.a.2 c.args.b.2) c.cmp.result c.then_number.result c.then_number-2.result
    c.then_number.ensures c.then_number-2.ensures c.cmp.ensures
