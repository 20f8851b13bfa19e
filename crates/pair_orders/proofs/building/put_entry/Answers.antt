use Rattle.std.proofs.Common.{◌≡◌, ◌+◌, length, arith}
use Rattle.pair_orders.proofs.Filling.{filled_more, entries_more, numbers_more}
use Rattle.pair_orders.proofs.building.put_entry.Goals as goal

pub returns-clause-is : goal.returns-clause-is
returns-clause-is c =
    let taken = c.take_slot-slot.ensures in
    let longer : length c.push_reserved.new.self.items ≡ length c.args.keys.now.items + 1 = omega arith in
    filled_more c.args.slots.now c.take_slot-slot.new.slots c.args.keys.now.items c.push_reserved.new.self.items c.args.entry.0 c.args.entry.1 c.take_slot-slot.result c.new.result
    c.requires.is c.requires.none taken.empty taken.put c.new.ensures c.push_reserved.ensures.items taken.is taken.pairs taken.len taken.capacity longer

pub returns-clause-members : goal.returns-clause-members
returns-clause-members c =
    let taken = c.take_slot-slot.ensures in
    entries_more c.args.slots.now c.take_slot-slot.new.slots c.args.keys.now.items c.push_reserved.new.self.items c.args.entry.0 c.args.entry.1 c.take_slot-slot.result c.new.result
    c.requires.is c.requires.none taken.empty taken.put c.new.ensures c.push_reserved.ensures.items

pub returns-clause-numbers : goal.returns-clause-numbers
returns-clause-numbers c =
    let taken = c.take_slot-slot.ensures in
    numbers_more c.args.slots.now c.take_slot-slot.new.slots c.args.keys.now.items c.push_reserved.new.self.items c.args.entry.0 c.args.entry.1 c.take_slot-slot.result c.new.result
    c.requires.is c.requires.none taken.empty taken.put c.new.ensures c.push_reserved.ensures.items
