-- Seats as contracts see them, and what becomes of one by a query. `Seat` and its calls cite it.
use Rattle.std.specs.Prelude.{◌≡◌, ◌<◌, ◌≤◌, List, length, Result, IfOk, IsErrOf}
use Rattle.jrql_ast.specs.declared.answers.Answer.{Answer}
use Rattle.jrql_ast.specs.declared.queries.Query.{Query}
use Rattle.jrql_ast.specs.InForm.{IsAnswerTo}
use Rattle.jrql_ast.specs.QueryAnswers.{solution_limit, found, IsAnswer}
use Rattle.jrql_eval.specs.declared.faults.EvalFault.{EvalFault}
use Rattle.jrql_eval.specs.declared.faults.EvalFault.TheVariants as faults
use Rattle.mld_ops.specs.Present.{present}
use Rattle.mld_ops.specs.declared.tagged.Tagged.{Tagged}
use Rattle.shared_reads.specs.declared.marks.Front.{Front}
use Rattle.shared_reads.specs.Fronts.{IsFrontOf, nothing}

-- the list that a seat saw last, and the longest that it was told of
pub record Seated : Type 0 where
  pub seen : Front
  pub told : Front

-- a seat that saw nothing yet, and was told of nothing
abbrev pub newcomer : Seated
newcomer = record { seen = nothing; told = nothing }

-- the seat saw a list that holds all that it saw before and was told of
pub record Continues (old new : Seated) : Type 0 where
  pub saw : IsFrontOf new.seen old.seen
  pub knew : IsFrontOf new.seen old.told
  pub told : new.told ≡ old.told

-- what became of a query over these pairs
pub record ReadsOver (pairs : List Tagged) (query : Query) (result : Result Answer EvalFault) : Type 0 where
  pub answer : IfOk result (IsAnswer (present pairs) query)
  pub kind : IfOk result (IsAnswerTo query.what)
  pub few : IfOk result (λ answer. length (found (present pairs) query.group) ≤ solution_limit)
  pub too_many : IsErrOf result faults.TooMany → solution_limit < length (found (present pairs) query.group)
