use Rattle.std.proofs.Common.{◌≡◌, ◌∙◌, Some, sym, subst}
use Rattle.number_tables.specs.TableNumbers.{number_of_term}
use Rattle.graph_index.specs.TermNumbers.{TablesValue}
use Rattle.number_tables.proofs.Numbers.{placed_term}
use Rattle.graph_index.proofs.tables.Tables.is_term_at.Goals as goal

pub returns-in-Some : goal.returns-in-Some
returns-in-Some c = λ h.
    subst (λ (v : TablesValue). number_of_term v.terms c.args.term.now ≡ Some c.args.number) c.self.view_is
    (placed_term c.self.inside.terms c.args.number c.in-Some.own.now c.args.term.now c.in-Some.ensures.apart (sym c.in-Some.ensures.value) (sym c.eq.ensures ∙ h))
