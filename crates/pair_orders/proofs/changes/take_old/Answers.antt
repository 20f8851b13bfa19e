use Rattle.std.proofs.Common.{◌≡◌, ◌↔◌, subst}
use Rattle.tree_clock.specs.Lists.{Has}
use Rattle.pair_orders.specs.Keys.{slotted_key}
use Rattle.pair_orders.specs.declared.keys.Key.{Key}
use Rattle.pair_orders.specs.KeptPairs.{dots_in}
use Rattle.pair_orders.proofs.Changing.{taken_is}
use Rattle.pair_orders.proofs.Holding.{removed_entries}
use Rattle.pair_orders.proofs.changes.take_old.Goals as goal

pub returns-clause-is : goal.returns-clause-is
returns-clause-is c =
    let members = subst (λ (k : Key). (other : Key) → Has (dots_in c.take_key.new.lists) other ↔ (Has (dots_in c.args.lists.now) other × ¬ (other ≡ k))) c.new.ensures c.take_key.ensures.members in
    taken_is c.args.slots.now c.let_go.new.slots c.args.lists.now c.take_key.new.lists (slotted_key c.args.numbers.now c.args.slot) c.requires.is c.let_go.ensures.is c.let_go.ensures.put c.let_go.ensures.pairs c.let_go.ensures.len
    c.let_go.ensures.capacity c.requires.member c.take_key.ensures.is members

pub returns-clause-members : goal.returns-clause-members
returns-clause-members c =
    let members = subst (λ (k : Key). (other : Key) → Has (dots_in c.take_key.new.lists) other ↔ (Has (dots_in c.args.lists.now) other × ¬ (other ≡ k))) c.new.ensures c.take_key.ensures.members in
    removed_entries c.args.slots.now.pairs.items c.let_go.new.slots.pairs.items (dots_in c.args.lists.now) (dots_in c.take_key.new.lists) (slotted_key c.args.numbers.now c.args.slot) c.requires.is.held
    c.let_go.ensures.put c.requires.member members
