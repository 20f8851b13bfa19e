use Rattle.std.proofs.Common.{◌<◌, Some, length, arith}
use Rattle.pair_orders.proofs.Slotting.{last_free, taken_free, puts_at}
use Rattle.pair_orders.proofs.slots.take_slot.Goals as goal

pub index_mut-requires : goal.index_mut-requires
index_mut-requires c =
    let within : c.in-Some.slot < length c.args.slots.now.pairs.items = c.requires.is.free_are.within c.in-Some.slot (last_free c.args.slots.now.free.items c.pop.new.self.items c.in-Some.slot c.in-Some.ensures.items) in
    omega arith

pub returns-in-Some-clause-is : goal.returns-in-Some-clause-is
returns-in-Some-clause-is c = record {
  free_are = taken_free c.args.slots.now.pairs.items c.args.slots.now.free.items c.pop.new.self.items c.in-Some.slot (Some c.args.pair) c.requires.is.free_are c.in-Some.ensures.items;
  few = c.requires.is.few;
}

pub returns-in-Some-clause-empty : goal.returns-in-Some-clause-empty
returns-in-Some-clause-empty c = c.requires.is.free_are.empty c.in-Some.slot (last_free c.args.slots.now.free.items c.pop.new.self.items c.in-Some.slot c.in-Some.ensures.items)

pub returns-in-Some-clause-put : goal.returns-in-Some-clause-put
returns-in-Some-clause-put c =
    puts_at c.args.slots.now.pairs.items c.in-Some.slot (Some c.args.pair)
    (c.requires.is.free_are.within c.in-Some.slot (last_free c.args.slots.now.free.items c.pop.new.self.items c.in-Some.slot c.in-Some.ensures.items))
