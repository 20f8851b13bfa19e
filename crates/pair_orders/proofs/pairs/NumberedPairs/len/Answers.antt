use Rattle.std.proofs.Common.{◌≡◌, ◌∙◌, length, sym, subst, ap}
use Rattle.std.proofs.lemmas.List.{length-map}
use Rattle.chunked_list.specs.Room.{ChunkedValue}
use Rattle.pair_orders.specs.PairEntries.{PairsValue}
use Rattle.pair_orders.specs.Keys.{key_by}
use Rattle.pair_orders.specs.KeptPairs.{dots_in, list_at}
use Rattle.pair_orders.specs.declared.keys.RankedKey.{RankedKey}
use Rattle.pair_orders.specs.declared.keys.Shape.TheVariants.{Dot}
use Rattle.pair_orders.proofs.Changing.{numbers_once}
use Rattle.pair_orders.proofs.Holding.{length_entries}
use Rattle.pair_orders.proofs.pairs.NumberedPairs.len.Goals as goal

pub returns-clause-len : goal.returns-clause-len
returns-clause-len c =
    subst (λ (v : PairsValue). c.len.result ≡ length v.pairs) c.self.view_is
    (c.len.ensures ∙ ap (λ (l : ChunkedValue RankedKey). length l.elements) c.by_dot.ensures ∙ sym (length-map (list_at c.self.inside.lists 0).elements (key_by Dot)) ∙ sym (length_entries c.self.inside.slots.pairs.items (dots_in c.self.inside.lists) c.self.invariant.held.occupied))

pub returns-clause-once : goal.returns-clause-once
returns-clause-once c = numbers_once c.self.inside.slots c.self.inside.lists c.args.self.now c.self.view_is c.self.invariant
