use Rattle.std.proofs.Common.{◌≡◌, ◌∙◌, Option, None, replicate, sym, ap, subst}
use Rattle.rdf_terms.specs.declared.terms.Term.{Term}
use Rattle.jrql_rows.specs.Bindings.{AreOwnNumbers, row_numbered}
use Rattle.jrql_rows.proofs.NumberedRows.{none_numbered, none_own}
use Rattle.jrql_rows.proofs.bindings.Bindings.unbound.Goals as goal

pub invariant_of-result : goal.invariant_of-result
invariant_of-result c = subst (AreOwnNumbers c.args.graph.now) (sym c.in_ok-numbers.ensures) (none_own c.args.graph.now c.args.variables c.term-first.ensures.own)

pub returns : goal.returns
returns c =
    let row : row_numbered c.args.graph.now c.in_ok-numbers.numbers.items ≡ replicate {A = Option Term} c.args.variables None =
    ap (row_numbered c.args.graph.now) c.in_ok-numbers.ensures ∙ none_numbered c.args.graph.now c.args.variables in
    λ i. record { graph = c.args.graph.now; row = row i }
