use Rattle.std.proofs.Common.{◌∙◌, ◌++◌, ◌<◌, ◌≤◌, length, map, sym, ap, append_assoc, take, take_all, arith}
use Rattle.std.specs.Option.{option_copied, option_to_list}
use Rattle.jrql_eval.specs.Asked.{bound_iris}
use Rattle.jrql_eval.specs.Evaluating.{iri_of_term}
use Rattle.jrql_eval.proofs.DescribeLaws.{bound_more}
use Rattle.jrql_eval.proofs.describing.add_bound.Goals as goal

pub loop-row-preserved : goal.loop-row-preserved
loop-row-preserved c =
    let rows = c.args.kept.now.rows in
    let variable = c.args.variable in
    let i = c.loop-row.row in
    let l : i < length rows = omega arith in
    let one = c.iri_of.ensures ∙ ap iri_of_term c.value.ensures in
    c.in_ok-add_iri.ensures
    ∙ ap (λ zs. zs ++ option_to_list (option_copied c.iri_of.result)) c.loop-row.invariant
    ∙ append_assoc (map (λ x. x.now) c.args.iris.now.items) (bound_iris variable (take i rows)) (option_to_list (option_copied c.iri_of.result))
    ∙ ap (λ zs. map (λ x. x.now) c.args.iris.now.items ++ zs)
    (ap (λ o. bound_iris variable (take i rows) ++ option_to_list o) one ∙ sym (bound_more variable rows i l))

pub returns : goal.returns
returns c =
    let rows = c.args.kept.now.rows in
    let l : length rows ≤ c.loop-row.row = omega arith in
    c.loop-row.invariant ∙ ap (λ z. map (λ x. x.now) c.args.iris.now.items ++ bound_iris c.args.variable z) (take_all c.loop-row.row rows l)
