use Rattle.std.proofs.Common.{◌↔◌, List, subst}
use Rattle.tree_clock.specs.Lists.{Has}
use Rattle.pair_orders.specs.KeptPairs.{dots_in}
use Rattle.pair_orders.specs.declared.keys.Key.{Key}
use Rattle.pair_orders.proofs.Filling.{built_is, built_members}
use Rattle.pair_orders.proofs.pairs.NumberedPairs.build.Goals as goal

pub invariant_of-result : goal.invariant_of-result
invariant_of-result c =
    let same = subst (λ (ks : List Key). (key : Key) → Has (dots_in c.in_ok-lists.lists) key ↔ Has ks key) c.as_slice.ensures.value c.in_ok-lists.ensures.same in
    built_is c.fill_slots.new.slots c.in_ok-lists.lists c.in_ok-keys.keys.items c.in_ok-keys.ensures.is c.in_ok-lists.ensures.is same

pub returns : goal.returns
returns c =
    let same = subst (λ (ks : List Key). (key : Key) → Has (dots_in c.in_ok-lists.lists) key ↔ Has ks key) c.as_slice.ensures.value c.in_ok-lists.ensures.same in
    built_members c.fill_slots.new.slots c.in_ok-lists.lists c.in_ok-keys.keys.items c.args.entries.items same c.in_ok-keys.ensures.members
