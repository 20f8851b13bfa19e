use Rattle.std.proofs.Common.{◌∙◌, refl, sym, subst, ap}
use Rattle.pair_orders.specs.KeptPairs.{list_at}
use Rattle.pair_orders.specs.Keys.{slot_pairs}
use Rattle.pair_orders.specs.PairEntries.{StandOnce}
use Rattle.pair_orders.proofs.Changing.{once_by_dot, numbers_once}
use Rattle.pair_orders.proofs.Lending.{lent_all, ok_weaker}
use Rattle.pair_orders.proofs.Emptying.{slots_once}
use Rattle.pair_orders.proofs.pairs.NumberedPairs.into_rows.Goals as goal

pub move_all-requires : goal.move_all-requires
move_all-requires c =
    let elements = (list_at c.self.inside.lists 0).elements in
    subst (λ ns. StandOnce ns) (sym (c.deref.ensures.value ∙ c.in_ok-numbers.ensures)) (slots_once c.self.inside.slots.pairs.items elements elements refl c.self.invariant.held (once_by_dot c.self.inside.lists c.self.invariant.lists_are))

pub returns-clause-pairs : goal.returns-clause-pairs
returns-clause-pairs c =
    let elements = (list_at c.self.inside.lists 0).elements in
    let slots = c.self.inside.slots.pairs.items in
    ok_weaker c.move_all.result
    (λ list h. h ∙ ap (slot_pairs slots) (c.deref.ensures.value ∙ c.in_ok-numbers.ensures) ∙ lent_all slots slots elements elements c.args.self.pairs refl refl (ap (λ v. v.pairs) c.self.view_is))
    c.move_all.ensures

pub returns-clause-once : goal.returns-clause-once
returns-clause-once c = numbers_once c.self.inside.slots c.self.inside.lists c.args.self c.self.view_is c.self.invariant

pub returns-in_err-numbers-clause-once : goal.returns-in_err-numbers-clause-once
returns-in_err-numbers-clause-once c = numbers_once c.self.inside.slots c.self.inside.lists c.args.self c.self.view_is c.self.invariant
