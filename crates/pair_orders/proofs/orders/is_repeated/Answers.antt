use Rattle.std.proofs.Common.{arith}
use Rattle.pair_orders.specs.Keys.{key_by}
use Rattle.pair_orders.specs.TripleEntries.{key_terms}
use Rattle.pair_orders.proofs.Triples.{first_at, repeated_told}
use Rattle.pair_orders.proofs.orders.is_repeated.Goals as goal

pub returns-then-at-gt0 : goal.returns-then-at-gt0
returns-then-at-gt0 c =
    repeated_told (λ key. key_terms (key_by c.args.shape key.now)) c.args.keys.now c.args.at _ _ c.terms.result c.terms-then-at-gt0.result c.eq.result c.if-at-gt0.true c.requires
    c.terms.ensures c.terms-then-at-gt0.ensures c.eq.ensures

pub returns-else-at-gt0 : goal.returns-else-at-gt0
returns-else-at-gt0 c = first_at (λ key. key_terms (key_by c.args.shape key.now)) c.args.keys.now c.args.at (omega (arith, c.if-at-gt0.false))
