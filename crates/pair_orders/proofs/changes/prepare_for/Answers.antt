use Rattle.pair_orders.proofs.Changing.{prepared_is}
use Rattle.pair_orders.proofs.changes.prepare_for.Goals as goal

pub returns-clause-is : goal.returns-clause-is
returns-clause-is c =
    let made = c.make_slots.ensures in
    prepared_is c.args.slots.now c.make_slots.new.slots c.args.lists.now c.make_room.new.lists c.requires made.is made.same made.made made.room c.make_room.ensures.is c.make_room.ensures.dots
