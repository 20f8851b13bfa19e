use Rattle.std.proofs.Common.{◌∙◌, ◌++◌, ◌∷◌, [], length, sym, ap, append-nil, eqb-true}
use Rattle.std.proofs.lemmas.Bool.{eqb-false}
use Rattle.jrql_eval.proofs.DescribeLaws.{described_none, described_some}
use Rattle.jrql_eval.proofs.describing.add_subject.Goals as goal

pub returns-then-is_empty : goal.returns-then-is_empty
returns-then-is_empty c =
    sym (append-nil c.args.subjects.now.items)
    ∙ ap (λ l. c.args.subjects.now.items ++ l) (sym (described_none c.args.iri.now c.args.triples.now (eqb-true (length c.args.triples.now) 0 (sym c.is_empty.ensures ∙ c.if-is_empty.true))))

pub returns : goal.returns
returns c =
    c.in_ok-push.ensures.items
    ∙ ap (λ l. c.args.subjects.now.items ++ l)
    ((λ i. record { id = c.in_ok-id.ensures i; triples = (c.from_vec-triples.ensures ∙ c.in_ok-copy_triples.ensures) i } ∷ [])
    ∙ sym (described_some c.args.iri.now c.args.triples.now (eqb-false (length c.args.triples.now) 0 (sym c.is_empty.ensures ∙ c.if-is_empty.false))))
