use Rattle.std.proofs.Common.{◌∙◌, ◌<◌, List, ℕ, length, flat_map, map, sym, ap, subst}
use Rattle.std.proofs.lemmas.List.{length-map}
use Rattle.jrql_rows.specs.rdf_terms.Order.{iri_cmp}
use Rattle.jrql_rows.specs.mld_ops.InOrder.{IsPutInOrder}
use Rattle.jrql_rows.specs.mld_ops.Present.{present}
use Rattle.jrql_rows.proofs.of_mld_ops.PresentLaws.{present_ascends}
use Rattle.jrql_rows.proofs.of_graph_index.Ranging.{ok_weaker}
use Rattle.jrql_eval.specs.Asked.{described_where}
use Rattle.jrql_eval.proofs.DescribeLaws.{described_are}
use Rattle.jrql_eval.proofs.describing.describe_targets.Goals as goal

pub returns : goal.returns
returns c =
    let graph = present c.args.graph.now.pairs in
    let iris = map (λ x. x.now) c.put_iris.new.iris.items in
    let put = subst (λ (given : List (List ℕ)). IsPutInOrder iri_cmp given iris) c.in_ok-iris.ensures c.put_iris.ensures in
    let some = λ (l : 0 < length iris).
    let some_put : 0 < length c.put_iris.new.iris.items = subst (λ n. 0 < n) (length-map c.put_iris.new.iris.items (λ x. x.now)) l in
    present_ascends c.args.graph.now.pairs (c.describe_all.ensures.ascending (subst (λ zs. 0 < length zs) (sym c.deref.ensures.value) some_put)) in
    ok_weaker c.describe_all.result
    (λ subjects e. e ∙ ap (λ l. flat_map (described_where graph) (map (λ x. x.now) l)) c.deref.ensures.value
    ∙ described_are graph c.args.kept.now.rows c.args.targets.now iris some put)
    c.describe_all.ensures.subjects
