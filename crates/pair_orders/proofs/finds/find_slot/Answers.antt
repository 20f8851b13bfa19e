use Rattle.std.proofs.Common.{◌∷◌, [], subst}
use Rattle.chunked_list.specs.Room.{ChunkedValue}
use Rattle.tree_clock.specs.Lists.{Has}
use Rattle.pair_orders.specs.KeyFronts.{HasFront}
use Rattle.pair_orders.specs.KeptPairs.{list_at}
use Rattle.pair_orders.specs.declared.keys.RankedKey.{RankedKey}
use Rattle.pair_orders.proofs.Ranking.{slot_found, slot_not_found}
use Rattle.pair_orders.proofs.finds.find_slot.Goals as goal

pub returns-in_err-first-clause-none : goal.returns-in_err-first-clause-none
returns-in_err-first-clause-none c =
    let n = c.args.numbers.now in
    let none = subst (λ (l : ChunkedValue RankedKey). (key : RankedKey) → Has l.elements key → ¬ HasFront (n.path ∷ n.tick ∷ n.s ∷ n.p ∷ n.o ∷ []) key) c.by_dot.ensures c.in_err-first.ensures.none in
    rw c.from_residual.ensures (slot_not_found n (list_at c.args.lists.now 0).elements none)

pub returns-clause-some : goal.returns-clause-some
returns-clause-some c =
    let first = c.in_ok-first.first.now in
    slot_found c.args.numbers.now (list_at c.args.lists.now 0).elements first (subst (λ (l : ChunkedValue RankedKey). Has l.elements first) c.by_dot.ensures c.in_ok-first.ensures.some.0) c.in_ok-first.ensures.some.1
