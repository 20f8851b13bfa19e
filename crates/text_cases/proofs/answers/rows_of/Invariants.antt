use Rattle.std.proofs.Common.{◌≡◌, All, List, Option, length}
use Rattle.rdf_terms.specs.declared.terms.Term.{Term}
use Rattle.text_cases.proofs.answers.rows_of.Given as goal

abbrev pub invariant-loop-values : goal.invariant-loop-values
invariant-loop-values l = All (λ (row : List (Option Term)). length row ≡ l.width) l.rows
