use Rattle.std.proofs.Common.{◌≡◌, ℕ, List, Option, All, length, sym, subst}
use Rattle.rdf_terms.specs.declared.terms.Term.{Term}
use Rattle.jrql_ast.specs.InForm.{IsAnswerTo}
use Rattle.jrql_ast.specs.declared.answers.Answer.TheVariants.{Rows}
use Rattle.jrql_ast.specs.declared.queries.What.{What}
use Rattle.text_cases.proofs.answers.put_answer.Goals as goal

pub put_selected-requires-clause-kind : goal.put_selected-requires-clause-kind
put_selected-requires-clause-kind c =
    λ rows all. subst (λ (what : What). IsAnswerTo what (Rows rows)) (sym c.in-Select.is) (subst (λ (n : ℕ). All (λ (row : List (Option Term)). length row ≡ n) rows) c.len.ensures all)
