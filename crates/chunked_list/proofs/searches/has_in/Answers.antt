use Rattle.chunked_list.proofs.Parting.{parted_ascending}
use Rattle.chunked_list.proofs.searches.has_in.Goals as goal

pub find-requires-clause-parted : goal.find-requires-clause-parted
find-requires-clause-parted g c = parted_ascending (g.O.Order.order c.args.order.now) (g.met.O.Order.total c.args.order.now) c.args.element.now _ c.requires.ascending
