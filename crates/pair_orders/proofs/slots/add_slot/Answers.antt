use Rattle.std.proofs.Common.{◌≡◌, length, arith}
use Rattle.pair_orders.proofs.Slotting.{made_free}
use Rattle.pair_orders.proofs.slots.add_slot.Goals as goal

pub returns-clause-is : goal.returns-clause-is
returns-clause-is c =
    let last : c.len-slot.result ≡ length c.args.slots.now.pairs.items = omega arith in
    record {
      free_are = made_free c.args.slots.now.pairs.items c.push_reserved.new.self.items c.args.slots.now.free.items c.push_reserved-2.new.self.items c.len-slot.result c.requires.is.free_are
          last c.push_reserved.ensures.items c.push_reserved-2.ensures.items;
      few = omega arith;
    }
