use Rattle.pair_orders.specs.KeptPairs.{dots_in}
use Rattle.pair_orders.proofs.Changing.{put_is, put_entries}
use Rattle.pair_orders.proofs.changes.put_new.Goals as goal

pub returns-clause-is : goal.returns-clause-is
returns-clause-is c =
    put_is c.args.slots.now c.take_slot-slot.new.slots c.args.lists.now c.put_key.new.lists c.args.numbers c.args.pair c.take_slot-slot.result c.new.result c.requires.is c.take_slot-slot.ensures.is c.take_slot-slot.ensures.empty
    c.take_slot-slot.ensures.put c.take_slot-slot.ensures.pairs c.take_slot-slot.ensures.len c.take_slot-slot.ensures.capacity c.requires.none c.put_key.ensures.is c.put_key.ensures.members c.new.ensures

pub returns-clause-members : goal.returns-clause-members
returns-clause-members c =
    put_entries c.args.slots.now.pairs.items c.take_slot-slot.new.slots.pairs.items (dots_in c.args.lists.now) (dots_in c.put_key.new.lists) c.args.numbers c.args.pair c.take_slot-slot.result c.new.result
    c.requires.is.held c.take_slot-slot.ensures.empty c.take_slot-slot.ensures.put c.requires.none c.put_key.ensures.members c.new.ensures
