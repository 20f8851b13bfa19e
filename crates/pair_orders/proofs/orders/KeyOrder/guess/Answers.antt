use Rattle.pair_orders.proofs.Fronting.{before_front}
use Rattle.pair_orders.proofs.Ranking.{ascending_ranked}
use Rattle.pair_orders.proofs.orders.KeyOrder.guess.Goals as goal

pub count_before-requires : goal.count_before-requires
count_before-requires c = before_front c.least_front-front.result c.self.inside.keys.now.elements (ascending_ranked c.self.inside.shape c.self.inside.keys.now.elements c.self.invariant.ascending)
