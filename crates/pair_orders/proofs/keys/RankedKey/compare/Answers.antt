use Rattle.pair_orders.proofs.Comparing.{six_made}
use Rattle.pair_orders.proofs.keys.RankedKey.compare.Goals as goal

pub returns : goal.returns
returns c =
    let a = c.args.self.now in
    let b = c.args.other.now in
    six_made c.compare_three.result c.then_three.result a.first a.second a.third a.fourth a.fifth a.slot b.first b.second b.third b.fourth b.fifth b.slot c.compare_three.ensures c.then_three.ensures
