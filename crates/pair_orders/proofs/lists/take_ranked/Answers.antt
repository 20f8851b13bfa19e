use Rattle.pair_orders.proofs.Ranking.{take_members}
use Rattle.pair_orders.proofs.lists.take_ranked.Goals as goal

pub returns-clause-members : goal.returns-clause-members
returns-clause-members c =
    take_members c.args.shape c.args.list.now.elements c.remove.new.self.elements c.args.key.now c.ranked.result c.ranked.ensures c.remove.ensures.members
