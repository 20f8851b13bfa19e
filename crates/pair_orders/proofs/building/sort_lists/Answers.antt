use Rattle.pair_orders.proofs.Filling.{lists_are, lists_same}
use Rattle.pair_orders.proofs.building.sort_lists.Goals as goal

pub returns-clause-is : goal.returns-clause-is
returns-clause-is c =
    lists_are c.lists_of.result c.in_ok-dot.dot c.in_ok-subject.subject c.in_ok-predicate.predicate c.in_ok-object.object c.args.keys.now c.lists_of.ensures
    c.in_ok-dot.ensures c.in_ok-subject.ensures c.in_ok-predicate.ensures c.in_ok-object.ensures

pub returns-clause-same : goal.returns-clause-same
returns-clause-same c =
    lists_same c.lists_of.result c.in_ok-dot.dot c.in_ok-subject.subject c.in_ok-predicate.predicate c.in_ok-object.object c.args.keys.now c.lists_of.ensures
    c.in_ok-dot.ensures c.in_ok-subject.ensures c.in_ok-predicate.ensures c.in_ok-object.ensures
