use Rattle.std.proofs.Common.{arith}
use Rattle.pair_orders.proofs.Filling.{filling_begun, last_apart, filling_more, filling_ended, nothing_left}
use Rattle.pair_orders.proofs.building.put_all.Goals as goal

pub loop-entry-init : goal.loop-entry-init
loop-entry-init c = record {
  is = c.requires.is;
  filling = filling_begun c.args.entries.items c.args.slots.now.pairs.items c.args.keys.now.items c.requires.none c.requires.once;
  free = c.requires.free;
  room = c.requires.room;
}

pub put_entry-requires-clause-none : goal.put_entry-requires-clause-none
put_entry-requires-clause-none c =
    last_apart c.args.entries.items c.loop-entry.rest.items c.pop.new.self.items c.in-Some.entry c.loop-entry.slots.pairs.items c.loop-entry.slots.pairs.items c.loop-entry.keys.items c.loop-entry.keys.items
    c.loop-entry.invariant.filling c.in-Some.ensures.items

pub loop-entry-preserved : goal.loop-entry-preserved
loop-entry-preserved c = record {
  is = c.put_entry.ensures.is;
  filling =
      filling_more c.args.entries.items c.loop-entry.rest.items c.pop.new.self.items c.in-Some.entry c.loop-entry.slots.pairs.items c.put_entry.new.slots.pairs.items c.loop-entry.keys.items c.put_entry.new.keys.items
      c.loop-entry.invariant.filling c.in-Some.ensures.items c.put_entry.ensures.members c.put_entry.ensures.numbers;
  free = omega (arith, c.loop-entry.invariant.free, c.in-Some.ensures.cases, c.put_entry.ensures.free);
  room = omega (arith, c.loop-entry.invariant.room, c.in-Some.ensures.cases, c.put_entry.ensures.len, c.put_entry.ensures.capacity);
}

pub returns-clause-members : goal.returns-clause-members
returns-clause-members c =
    filling_ended c.args.entries.items c.loop-entry.rest.items c.loop-entry.slots.pairs.items c.loop-entry.keys.items c.loop-entry.invariant.filling
    (nothing_left c.loop-entry.rest.items (omega (arith, c.in_default.ensures.cases.0)))
