use Rattle.pair_orders.proofs.Ranking.{put_members}
use Rattle.pair_orders.proofs.lists.put_ranked.Goals as goal

pub returns-clause-members : goal.returns-clause-members
returns-clause-members c =
    put_members c.args.shape c.args.list.now.elements c.insert.new.self.elements c.args.key.now c.ranked.result c.ranked.ensures c.insert.ensures.members
