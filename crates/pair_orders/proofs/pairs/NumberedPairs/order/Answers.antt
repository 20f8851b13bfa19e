use Rattle.std.proofs.Common.{◌≡◌, ◌↔◌, List, Option, IsSome, length, map, ap, subst, sym}
use Rattle.mld_ops.specs.declared.pair_lists.PairRow.{PairRow}
use Rattle.tree_clock.specs.Lists.{Has}
use Rattle.pair_orders.specs.Keys.{keys_by, slot_at}
use Rattle.pair_orders.specs.KeptPairs.{dots_in}
use Rattle.pair_orders.specs.Orders.{OrderValue}
use Rattle.pair_orders.specs.PairEntries.{StandOnce, entries_of}
use Rattle.pair_orders.specs.declared.keys.Numbers.{Numbers}
use Rattle.pair_orders.proofs.Changing.{once_by_dot}
use Rattle.pair_orders.proofs.Lending.{order_entries, order_once, order_length}
use Rattle.pair_orders.proofs.Ranking.{once_keys, ascending_keys}
use Rattle.pair_orders.proofs.pairs.NumberedPairs.order.Goals as goal

pub order_of-requires : goal.order_of-requires
order_of-requires c = record {
  ascending = ascending_keys c.args.shape c.keys_in.result.now.elements c.keys_in.ensures.ascending;
  occupied = λ key h. subst (λ (xs : List (Option PairRow)). IsSome (slot_at xs key.slot)) (sym c.as_slice.ensures.value) (c.self.invariant.held.occupied key ((c.keys_in.ensures.same key).0 h));
}

pub returns-clause-shape : goal.returns-clause-shape
returns-clause-shape c = ap (λ (o : OrderValue). o.shape) c.order_of.ensures

pub returns-clause-entries : goal.returns-clause-entries
returns-clause-entries c =
    subst (λ (o : OrderValue). (entry : Numbers × PairRow) → Has (entries_of o.slots o.keys) entry ↔ Has c.args.self.now.pairs entry) (sym c.order_of.ensures)
    (order_entries c.self.inside.slots.pairs.items c.as_slice.result.now (keys_by c.args.shape c.keys_in.result.now.elements) (dots_in c.self.inside.lists) c.args.self.now.pairs c.as_slice.ensures.value (ap (λ v. v.pairs) c.self.view_is)
    c.keys_in.ensures.same)

pub returns-clause-once : goal.returns-clause-once
returns-clause-once c =
    subst (λ (o : OrderValue). StandOnce (map (λ entry. entry.0) (entries_of o.slots o.keys))) (sym c.order_of.ensures)
    (order_once c.self.inside.slots.pairs.items c.as_slice.result.now (keys_by c.args.shape c.keys_in.result.now.elements) (dots_in c.self.inside.lists) c.as_slice.ensures.value c.keys_in.ensures.same c.self.invariant.held
    (once_keys c.args.shape c.keys_in.result.now.elements c.keys_in.ensures.ascending))

pub returns-clause-length : goal.returns-clause-length
returns-clause-length c =
    subst (λ (o : OrderValue). length o.keys ≡ length c.args.self.now.pairs) (sym c.order_of.ensures)
    (order_length c.self.inside.slots.pairs.items (keys_by c.args.shape c.keys_in.result.now.elements) (dots_in c.self.inside.lists) c.args.self.now.pairs (ap (λ v. v.pairs) c.self.view_is) c.keys_in.ensures.same c.self.invariant.held
    (once_keys c.args.shape c.keys_in.result.now.elements c.keys_in.ensures.ascending) (once_by_dot c.self.inside.lists c.self.invariant.lists_are))
