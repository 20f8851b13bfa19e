use Rattle.std.proofs.Common.{◌∙◌, ◌∷◌, [], ◌++◌, List, Option, get_or, take, sym, ap}
use Rattle.std.proofs.lemmas.List.{map-append, take_more}
use Rattle.rdf_terms.specs.declared.terms.Term.{Term}
use Rattle.jrql_rows.specs.Bindings.{row_numbered}
use Rattle.jrql_rows.specs.KeptValues.{KeptValue, row_at, rows_at}
use Rattle.jrql_rows.proofs.kept.KeptRows.make_rows.Goals as goal

pub loop-row-preserved : goal.loop-row-preserved
loop-row-preserved c =
    let kept = c.args.self.now.rows in
    let rows = c.args.rows.now in
    let i = c.loop-row.row-index in
    let one = c.in_ok-make_row.ensures ∙ ap (λ (v : KeptValue). row_numbered v.graph c.numbers_of.result.now) c.self.view_is ∙ c.numbers_of.ensures in
    c.in_ok-push.ensures.items
    ∙ ap (λ (l : List (List (Option Term))). l ++ c.in_ok-make_row.field-0 ∷ []) c.loop-row.invariant
    ∙ ap (λ (z : List (Option Term)). rows_at kept (take i rows) ++ z ∷ []) one
    ∙ sym (ap (rows_at kept) (take_more rows i 0 c.loop-row-test.true) ∙ map-append (row_at kept) (take i rows) (get_or rows i 0 ∷ []))
