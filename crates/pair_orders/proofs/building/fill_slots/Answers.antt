use Rattle.std.proofs.Common.{◌≡◌, List, Option, length, vec_len, ap, arith}
use Rattle.mld_ops.specs.declared.pair_lists.PairRow.{PairRow}
use Rattle.pair_orders.proofs.Filling.{filled_none}
use Rattle.pair_orders.proofs.building.fill_slots.Goals as goal

pub make_slots-requires-clause-room : goal.make_slots-requires-clause-room
make_slots-requires-clause-room c = let e = ap (λ (xs : List (Option PairRow)). length xs) c.requires.pairs in omega arith

pub put_all-requires-clause-is : goal.put_all-requires-clause-is
put_all-requires-clause-is c =
    let made = c.make_slots.ensures in
    let e = ap (λ (xs : List (Option PairRow)). length xs) c.requires.pairs in
    let none : vec_len c.make_slots.new.slots.free ≡ vec_len c.make_slots.new.slots.pairs = omega (arith, e, made.made, c.requires.free) in
    filled_none c.make_slots.new.slots c.in_ok-keys.keys.items c.in_ok-keys.ensures.items made.is none made.room
