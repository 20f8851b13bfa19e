use Rattle.std.proofs.Common.{◌∙◌, ap}
use Rattle.jrql_rows.specs.Bindings.{BindingsValue}
use Rattle.jrql_rows.specs.Unbinding.{cleared}
use Rattle.jrql_rows.proofs.NumberedRows.{cleared_numbered, cleared_own}
use Rattle.jrql_rows.proofs.bindings.Bindings.unbind.Goals as goal

pub invariant_of-self : goal.invariant_of-self
invariant_of-self c =
    cleared_own c.self.inside.graph.now c.self.inside.numbers.items c.clear_number.new.numbers.items c.args.variable c.self.invariant c.clear_number.ensures

pub returns-clause-unbound : goal.returns-clause-unbound
returns-clause-unbound c =
    cleared_numbered c.self.inside.graph.now c.self.inside.numbers.items c.clear_number.new.numbers.items c.args.variable c.clear_number.ensures
    ∙ ap (λ (v : BindingsValue). cleared c.args.variable v.row) c.self.view_is
