use Rattle.pair_orders.specs.KeptPairs.{dots_in}
use Rattle.pair_orders.proofs.Changing.{inserted_none, inserted_one, found_there, found_none}
use Rattle.pair_orders.proofs.changes.insert_in.Goals as goal

pub returns-then-is_some-clause-members : goal.returns-then-is_some-clause-members
returns-then-is_some-clause-members c =
    inserted_none c.args.slots.now.pairs.items (dots_in c.args.lists.now) c.args.numbers c.args.pair c.requires.is.held
    (found_there (dots_in c.args.lists.now) c.args.numbers c.find_slot.result c.find_slot.ensures.some c.if-is_some.ensures)

pub returns-clause-members : goal.returns-clause-members
returns-clause-members c =
    inserted_one c.args.slots.now.pairs.items (dots_in c.args.lists.now) c.args.numbers c.args.pair _ c.requires.is.held
    (found_none (dots_in c.args.lists.now) c.args.numbers c.find_slot.result c.find_slot.ensures.none c.if-is_some.ensures) c.put_new.ensures.members
