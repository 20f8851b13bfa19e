use Rattle.std.proofs.Common.{◌∙◌, ap}
use Rattle.chunked_list.specs.Room.{ChunkedValue}
use Rattle.pair_orders.specs.KeptPairs.{list_at}
use Rattle.pair_orders.specs.declared.keys.RankedKey.{RankedKey}
use Rattle.chunked_list.specs.Joined.{joined_chunks}
use Rattle.pair_orders.proofs.Changing.{numbers_once}
use Rattle.pair_orders.proofs.Lending.{lent_all, ok_weaker}
use Rattle.pair_orders.proofs.pairs.NumberedPairs.lend_all.Goals as goal

pub returns-clause-pairs : goal.returns-clause-pairs
returns-clause-pairs c =
    ok_weaker c.lend_chunks.result
    (λ found h. h ∙ lent_all c.self.inside.slots.pairs.items c.deref.result.now (list_at c.self.inside.lists 0).elements (joined_chunks c.chunks.result.now) c.args.self.now.pairs c.deref.ensures.value
    (c.chunks.ensures ∙ ap (λ (l : ChunkedValue RankedKey). l.elements) c.by_dot-dots.ensures) (ap (λ v. v.pairs) c.self.view_is))
    c.lend_chunks.ensures

pub returns-clause-once : goal.returns-clause-once
returns-clause-once c = numbers_once c.self.inside.slots c.self.inside.lists c.args.self.now c.self.view_is c.self.invariant
