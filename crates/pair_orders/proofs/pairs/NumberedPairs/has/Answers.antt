use Rattle.std.proofs.Common.{◌↔◌, IsTrue, subst}
use Rattle.pair_orders.specs.PairEntries.{HasNumbers, PairsValue}
use Rattle.pair_orders.specs.KeptPairs.{dots_in}
use Rattle.pair_orders.proofs.Changing.{found_tells}
use Rattle.pair_orders.proofs.pairs.NumberedPairs.has.Goals as goal

pub returns : goal.returns
returns c =
    subst (λ (v : PairsValue). IsTrue c.is_some.result ↔ HasNumbers v.pairs c.args.numbers.now) c.self.view_is
    (found_tells c.self.inside.slots.pairs.items (dots_in c.self.inside.lists) c.args.numbers.now c.find_slot.result c.is_some.result c.self.invariant.held c.find_slot.ensures.some c.find_slot.ensures.none c.is_some.ensures)
