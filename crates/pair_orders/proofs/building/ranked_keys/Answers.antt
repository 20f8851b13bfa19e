use Rattle.pair_orders.proofs.Ranking.{more_ranked}
use Rattle.pair_orders.proofs.building.ranked_keys.Goals as goal

pub loop-key-preserved : goal.loop-key-preserved
loop-key-preserved c =
    more_ranked c.args.shape c.args.keys.now c.loop-key.key-index (record { s = 0; p = 0; o = 0; path = 0; tick = 0; slot = 0 }) c.loop-key.list.items c.push.new.self.items c.ranked.result c.loop-key-test.true
    c.ranked.ensures c.in_ok-push.ensures.items c.loop-key.invariant
