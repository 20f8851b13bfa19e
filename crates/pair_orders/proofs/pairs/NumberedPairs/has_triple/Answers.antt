use Rattle.std.proofs.Common.{◌↔◌, IsTrue, subst}
use Rattle.pair_orders.specs.PairEntries.{HasTerms, PairsValue}
use Rattle.pair_orders.specs.KeptPairs.{dots_in}
use Rattle.pair_orders.proofs.Changing.{terms_tell}
use Rattle.pair_orders.proofs.pairs.NumberedPairs.has_triple.Goals as goal

pub returns : goal.returns
returns c =
    subst (λ (v : PairsValue). IsTrue c.has_terms.result ↔ HasTerms v.pairs c.args.s c.args.p c.args.o) c.self.view_is
    (terms_tell c.self.inside.slots.pairs.items (dots_in c.self.inside.lists) c.args.s c.args.p c.args.o c.has_terms.result c.self.invariant.held c.has_terms.ensures)
