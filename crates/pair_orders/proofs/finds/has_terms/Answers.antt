use Rattle.pair_orders.specs.KeptPairs.{dots_in}
use Rattle.pair_orders.proofs.Ranking.{terms_found}
use Rattle.pair_orders.proofs.finds.has_terms.Goals as goal

pub returns : goal.returns
returns c =
    terms_found (λ x. x.now) c.keys_in.result.now.elements (dots_in c.args.lists.now) c.args.s c.args.p c.args.o c.first_with.result c.is_some.result c.keys_in.ensures c.first_with.ensures.some
    c.first_with.ensures.none c.is_some.ensures
