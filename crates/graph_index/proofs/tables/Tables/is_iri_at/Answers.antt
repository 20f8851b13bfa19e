use Rattle.std.proofs.Common.{◌≡◌, ◌∙◌, Some, sym, subst, ap}
use Rattle.rdf_terms.specs.declared.terms.Term.{Term}
use Rattle.rdf_terms.specs.declared.terms.Term.TheVariants as terms
use Rattle.graph_index.specs.TermNumbers.{TablesValue, iri_number}
use Rattle.number_tables.proofs.Numbers.{placed_term}
use Rattle.graph_index.proofs.Numbers.{iris_alike}
use Rattle.graph_index.proofs.tables.Tables.is_iri_at.Goals as goal

pub returns-in-Some-Iri : goal.returns-in-Some-Iri
returns-in-Some-Iri c = λ h.
    subst (λ (v : TablesValue). iri_number v c.args.iri.now ≡ Some c.args.number) c.self.view_is
    (placed_term c.self.inside.terms c.args.number (terms.Iri c.in-Some-Iri.own) (terms.Iri c.args.iri.now) c.in-Some-Iri.ensures.apart
    (sym c.in-Some-Iri.ensures.value ∙ ap (λ (t : Term). Some t) c.in-Some-Iri.field-0-is)
    (sym (iris_alike c.args.iri.now c.in-Some-Iri.own) ∙ sym c.eq.ensures ∙ h))
