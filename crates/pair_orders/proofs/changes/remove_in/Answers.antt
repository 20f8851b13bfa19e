use Rattle.pair_orders.specs.KeptPairs.{dots_in}
use Rattle.pair_orders.proofs.Changing.{removed_none}
use Rattle.pair_orders.proofs.changes.remove_in.Goals as goal

pub returns-in_default-clause-members : goal.returns-in_default-clause-members
returns-in_default-clause-members c = removed_none c.args.slots.now.pairs.items (dots_in c.args.lists.now) c.args.numbers.now c.requires.held c.in_default.ensures.none
