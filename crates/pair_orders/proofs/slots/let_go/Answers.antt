use Rattle.pair_orders.proofs.Slotting.{let_free}
use Rattle.pair_orders.proofs.slots.let_go.Goals as goal

pub returns-clause-is : goal.returns-clause-is
returns-clause-is c = record {
  free_are = let_free c.args.slots.now.pairs.items c.args.slots.now.free.items c.push_reserved.new.self.items c.args.slot c.requires.is.free_are c.requires.occupied c.push_reserved.ensures.items;
  few = c.requires.is.few;
}
