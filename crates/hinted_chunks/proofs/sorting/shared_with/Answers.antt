use Rattle.hinted_chunks.proofs.HintedSort.{shared_beside, shared_alone}
use Rattle.hinted_chunks.proofs.sorting.shared_with.Goals as goal

pub returns-in-Some : goal.returns-in-Some
returns-in-Some g c =
    shared_beside (g.O.TextOrder.text c.args.order.now) c.args.hinted.now c.args.element.now c.args.shared c.in-Some.last.now c.shared.result c.min.result c.in-Some.ensures.value c.requires
    c.shared.ensures c.min.ensures

pub returns-in-None : goal.returns-in-None
returns-in-None g c = shared_alone (g.O.TextOrder.text c.args.order.now) c.args.hinted.now c.args.element.now c.args.shared c.in-None.ensures.value
