use Rattle.std.proofs.Common.{◌∙◌, None, get_or, ap}
use Rattle.jrql_rows.proofs.NumberedRows.{some_if}
use Rattle.jrql_rows.proofs.bindings.Bindings.number.Goals as goal

pub returns-clause-some : goal.returns-clause-some
returns-clause-some c =
    some_if c.self.inside.graph.now c.self.inside.numbers.items c.args.variable c.args.self.now.row c.self.invariant (ap (λ v. v.row) c.self.view_is)
    c.number_at.result (c.number_at.ensures ∙ ap (λ l. get_or l c.args.variable None) c.deref.ensures.value)
