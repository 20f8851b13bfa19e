use Rattle.std.proofs.Common.{◌≡◌, ◌∙◌, Some, sym, subst}
use Rattle.number_tables.specs.TableNumbers.{number_of_path}
use Rattle.graph_index.specs.TermNumbers.{TablesValue}
use Rattle.number_tables.proofs.Numbers.{placed_path}
use Rattle.graph_index.proofs.tables.Tables.is_path_at.Goals as goal

pub returns-in-Some : goal.returns-in-Some
returns-in-Some c = λ h.
    subst (λ (v : TablesValue). number_of_path v.paths c.args.path.now ≡ Some c.args.number) c.self.view_is
    (placed_path c.self.inside.paths c.args.number c.in-Some.own.now c.args.path.now c.in-Some.ensures.apart (sym c.in-Some.ensures.value) (sym c.eq.ensures ∙ h))
