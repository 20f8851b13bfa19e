-- What becomes of the rows that are kept where those of a list are found, and how many may be found. The private calls that find rows cite it.
use Rattle.std.specs.Prelude.{ℕ, ◌+◌, ◌<◌, ◌≤◌, List, Option, Result, Ok, Err, length}
use Rattle.std.specs.Option.{option_and_then}
use Rattle.jrql_rows.specs.rdf_terms.declared.terms.Term.{Term}
use Rattle.jrql_rows.specs.graph_index.Graphs.{GraphValue}
use Rattle.jrql_rows.specs.graph_index.Numbered.{triple_numbered, TermNumbers}
use Rattle.jrql_rows.specs.jrql_ast.declared.patterns.PatternTriple.{PatternTriple}
use Rattle.jrql_rows.specs.jrql_ast.QueryAnswers.{solution_limit}
use Rattle.jrql_rows.specs.jrql_ast.Solutions.{agree}
use Rattle.jrql_rows.specs.KeptValues.{KeepsEach, KeptValue}
use Rattle.jrql_eval.specs.declared.faults.EvalFault.{EvalFault}
use Rattle.jrql_eval.specs.declared.faults.EvalFault.TheVariants.{TooMany, NoMemory}

-- these rows are found beside those that were, what is asked of them is kept, and they are not too many
pub record KeepsEachFound (old : KeptValue) (added : List (List (Option Term))) (new : KeptValue) : Type 0 where
  pub keeps : KeepsEach old added new
  pub few : new.count ≤ solution_limit

-- the same, or they are too many, or memory is wanting
abbrev pub KeepsFound : {X : Type 0} → KeptValue → List (List (Option Term)) → Result X EvalFault → KeptValue → Type 0
KeepsFound old added (Ok done) new = KeepsEachFound old added new
KeepsFound old added (Err TooMany) new = solution_limit < old.count + length added
KeepsFound old added (Err NoMemory) new = Unit {0}

-- the row once a pattern is the triple of these numbers, where they agree
abbrev pub agree_numbered : GraphValue → PatternTriple → List (Option Term) → TermNumbers → Option (List (Option Term))
agree_numbered graph pattern row numbers = option_and_then (λ triple. agree pattern triple row) (triple_numbered graph numbers)
