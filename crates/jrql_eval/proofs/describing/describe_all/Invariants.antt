use Rattle.std.proofs.Common.{◌≡◌, ◌<◌, map, take, flat_map}
use Rattle.jrql_rows.specs.mld_ops.Present.{present}
use Rattle.jrql_rows.specs.mld_ops.Tagged.{tagged_cmp}
use Rattle.jrql_rows.specs.tree_clock.Lists.{IsAscending}
use Rattle.jrql_eval.specs.Asked.{described_where}
use Rattle.jrql_eval.proofs.describing.describe_all.Given as goal

abbrev pub invariant-loop-iri : goal.invariant-loop-iri
invariant-loop-iri l = record {
  subjects : l.subjects.items ≡ flat_map (described_where (present l.graph.pairs)) (map (λ x. x.now) (take l.iri-index l.iris));
  ascending : 0 < l.iri-index → IsAscending tagged_cmp l.graph.pairs;
}
