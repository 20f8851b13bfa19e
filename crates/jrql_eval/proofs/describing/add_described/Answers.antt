use Rattle.std.proofs.Common.{◌∙◌, ◌++◌, None, Some, map, sym, ap}
use Rattle.jrql_rows.specs.mld_ops.Present.{present}
use Rattle.jrql_rows.proofs.of_mld_ops.PresentLaws.{present_ascends}
use Rattle.jrql_eval.specs.Evaluating.{has_parts}
use Rattle.jrql_eval.proofs.LedRows.{on_ok_weaker}
use Rattle.jrql_eval.proofs.DescribeLaws.{described_found}
use Rattle.jrql_eval.proofs.TripleScans.{sorted_found}
use Rattle.jrql_eval.proofs.describing.add_described.Goals as goal

pub returns-clause-subjects : goal.returns-clause-subjects
returns-clause-subjects c =
    let graph = present c.args.graph.now.pairs in
    let sorted = sorted_found (has_parts (Some c.args.iri.now) None None) graph (map (λ x. x.now) c.in_ok-triples.triples.items) (map (λ x. x.now) c.sort_triples.new.triples.items)
    (present_ascends c.args.graph.now.pairs c.in_ok-triples.ensures.ascending) c.in_ok-triples.ensures.triples c.sort_triples.ensures in
    on_ok_weaker c.add_subject.result
    (λ e. e ∙ ap (λ l. c.args.subjects.now.items ++ l)
    (sym (described_found graph c.args.iri.now (map (λ x. x.now) c.deref.result.now) (ap (map (λ x. x.now)) c.deref.ensures.value ∙ sorted))))
    c.add_subject.ensures
