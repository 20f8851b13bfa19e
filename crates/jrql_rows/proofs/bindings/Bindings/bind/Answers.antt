use Rattle.std.proofs.Common.{◌≡◌, ◌∙◌, None, Some, IsSome, length, get_or, refl, sym, ap, subst}
use Rattle.rdf_terms.specs.declared.terms.Term.{Term}
use Rattle.graph_index.specs.Numbered.{term_numbered}
use Rattle.jrql_ast.specs.Solutions.{value_of, bind_from}
use Rattle.jrql_rows.specs.Bindings.{BindingsValue, IsBinding, row_numbered}
use Rattle.jrql_rows.specs.Unbinding.{BindsFree, if_free}
use Rattle.jrql_rows.proofs.NumberedRows.{bound_free, bound_number, bound_own, bound_places}
use Rattle.jrql_rows.proofs.bindings.Bindings.bind.Goals as goal

pub invariant_of-self : goal.invariant_of-self
invariant_of-self c =
    bound_own c.self.inside.graph.now c.self.inside.numbers.items c.bind_number.new.numbers.items c.args.variable c.args.number c.bind_number.result c.self.invariant
    (get_or c.self.inside.numbers.items c.args.variable None)
    (subst (λ (v : BindingsValue). IsSome (term_numbered v.graph c.args.number)) (sym c.self.view_is) c.requires) c.bind_number.ensures

pub returns-clause-bound : goal.returns-clause-bound
returns-clause-bound c =
    let old = c.self.inside.numbers.items in
    let new = c.bind_number.new.numbers.items in
    let graph = c.self.inside.graph.now in
    subst (λ (v : BindingsValue). (term : Term) → term_numbered v.graph c.args.number ≡ Some term
    → IsBinding (bind_from (value_of c.args.variable v.row) c.args.variable term v.row) c.bind_number.result (row_numbered graph new)) c.self.view_is
    (λ term named. bound_number graph old new c.args.variable c.args.number c.bind_number.result c.self.invariant term named
    (get_or old c.args.variable None) refl c.bind_number.ensures)

pub returns-clause-places : goal.returns-clause-places
returns-clause-places c =
    bound_places c.self.inside.graph.now c.self.inside.numbers.items c.bind_number.new.numbers.items c.args.variable c.args.number c.bind_number.result c.self.invariant
    (get_or c.self.inside.numbers.items c.args.variable None) c.bind_number.ensures
    ∙ ap (λ v. length v.row) c.self.view_is

pub returns-clause-free : goal.returns-clause-free
returns-clause-free c =
    let old = c.self.inside.numbers.items in
    let new = c.bind_number.new.numbers.items in
    let graph = c.self.inside.graph.now in
    subst (λ (v : BindingsValue). BindsFree (if_free c.args.variable (value_of c.args.variable v.row)) v.row (row_numbered graph new)) c.self.view_is
    (bound_free graph old new c.args.variable c.args.number c.bind_number.result c.self.invariant (get_or old c.args.variable None) refl
    (subst (λ (v : BindingsValue). IsSome (term_numbered v.graph c.args.number)) (sym c.self.view_is) c.requires) c.bind_number.ensures)
