use Rattle.std.proofs.Common.{arith}
use Rattle.jrql_eval.proofs.searching.keep.Goals as goal

pub returns : goal.returns
returns c =
    let keeps = c.in_ok-keep.ensures in
    let count = keeps.count in
    record { keeps = keeps; few = omega (arith, count) }
