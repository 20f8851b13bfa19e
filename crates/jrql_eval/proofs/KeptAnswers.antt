-- What was kept of a group's rows, from nothing on, answers what was asked.
use Rattle.std.proofs.Common.{◌≡◌, ℕ, ◌+◌, ◌<◌, ◌≤◌, List, [], Bool, true, false, Option, Result, Ok, Err, IsErrOf, length, ap, subst}
use Rattle.std.proofs.lemmas.Bool.{false≢true}
use Rattle.std.specs.List.{range_with_len}
use Rattle.jrql_rows.specs.rdf_terms.declared.terms.Term.{Term}
use Rattle.jrql_rows.specs.mld_ops.Present.{present}
use Rattle.jrql_rows.specs.graph_index.Graphs.{GraphValue}
use Rattle.jrql_rows.specs.jrql_ast.declared.answers.Answer.TheVariants as answers
use Rattle.jrql_rows.specs.jrql_ast.declared.answers.Described.{Described}
use Rattle.jrql_rows.specs.jrql_ast.declared.patterns.Group.{Group}
use Rattle.jrql_rows.specs.jrql_ast.declared.queries.Query.{Query}
use Rattle.jrql_rows.specs.jrql_ast.declared.queries.Select.{Select}
use Rattle.jrql_rows.specs.jrql_ast.declared.queries.Target.{Target}
use Rattle.jrql_rows.specs.jrql_ast.declared.queries.What.TheVariants as kinds
use Rattle.jrql_rows.specs.jrql_ast.InForm.{variables_of}
use Rattle.jrql_rows.specs.jrql_ast.QueryAnswers.{IsAnswer, IsSolutions, IsSortingOf, found, row_cmp, solution_limit}
use Rattle.jrql_eval.specs.declared.faults.EvalFault.{EvalFault}
use Rattle.jrql_eval.specs.declared.faults.EvalFault.TheVariants.{TooMany, NoMemory}
use Rattle.jrql_eval.specs.KeptFound.{KeepsEachFound, KeepsFound}
use Rattle.jrql_rows.specs.KeptValues.{KeepsRows, KeptValue, nothing_kept}
use Rattle.jrql_eval.specs.Asked.{IsDescribedBy, IsSelectedOf}
use Rattle.jrql_rows.specs.ColumnOrder.{AreColumnsOf}
use Rattle.jrql_eval.proofs.AnswerLaws.{rows_answer, subjects_answer}
use Rattle.jrql_eval.proofs.BranchLaws.{solutions_are}
use Rattle.jrql_eval.proofs.KeptLaws.{found_few, found_many, found_rows}
use Rattle.jrql_eval.proofs.WholeRows.{found_whole}

-- the fault is that there are too many
abbrev is_many : {T : Type 0} → Result T EvalFault → Bool
is_many (Ok done) = false
is_many (Err TooMany) = true
is_many (Err NoMemory) = false

module _ (graph : GraphValue) (columns : List ℕ) (distinct : Bool) (start : KeptValue) (group : Group) (e : start ≡ nothing_kept graph columns distinct) where
  same_found : found (present start.graph.pairs) group ≡ found (present graph.pairs) group
  same_found = ap (λ (s : KeptValue). found (present s.graph.pairs) group) e

  pub keeps_found : (kept : KeptValue) → KeepsEachFound start (found (present start.graph.pairs) group) kept → KeepsEachFound start (found (present graph.pairs) group) kept
  keeps_found kept k = subst (λ (l : List (List (Option Term))). KeepsEachFound start l kept) same_found k

  pub answered_few : (kept : KeptValue) → KeepsEachFound start (found (present start.graph.pairs) group) kept → length (found (present graph.pairs) group) ≤ solution_limit
  answered_few kept k = found_few graph columns distinct start (found (present graph.pairs) group) e kept (keeps_found kept k)

  pub answered_many : solution_limit < start.count + length (found (present start.graph.pairs) group) → solution_limit < length (found (present graph.pairs) group)
  answered_many h =
      found_many graph columns distinct start (found (present graph.pairs) group) e
      (subst (λ (l : List (List (Option Term))). solution_limit < start.count + length l) same_found h)

  pub answered_fault : (T : Type 0) (fault : EvalFault) (new : KeptValue) → KeepsFound {X = Unit {0}} start (found (present start.graph.pairs) group) (Err fault) new
      → IsErrOf {T = T} (Err fault) TooMany → solution_limit < length (found (present graph.pairs) group)
  answered_fault T TooMany new k h = answered_many k
  answered_fault T NoMemory new k h = absurd (false≢true (ap (is_many {T = T}) h))

-- where all variables are kept
pub all_kept : (graph : GraphValue) (distinct : Bool) (group : Group) (start kept : KeptValue) → start ≡ nothing_kept graph (range_with_len 0 (variables_of group)) distinct
    → KeepsEachFound start (found (present start.graph.pairs) group) kept → KeepsRows distinct [] (found (present graph.pairs) group) kept.rows
all_kept graph distinct group start kept e k =
    let columns = range_with_len 0 (variables_of group) in
    subst (λ (l : List (List (Option Term))). KeepsRows distinct [] l kept.rows) (found_whole (present graph.pairs) group)
    (found_rows graph columns distinct start (found (present graph.pairs) group) e kept (keeps_found graph columns distinct start group e kept k))

pub solutions_kept : (graph : GraphValue) (group : Group) (columns : List ℕ) (start kept : KeptValue) (rows : List (List (Option Term))) → AreColumnsOf group.names group.hidden columns
    → start ≡ nothing_kept graph (range_with_len 0 (variables_of group)) false → KeepsEachFound start (found (present start.graph.pairs) group) kept
    → IsSortingOf (row_cmp columns) kept.rows rows → IsSolutions (present graph.pairs) group rows
solutions_kept graph group columns start kept rows a e k s = solutions_are (present graph.pairs) group columns kept.rows rows a (all_kept graph false group start kept e k) s

pub select_kept : (graph : GraphValue) (query : Query) (select : Select) (start kept : KeptValue) (rows : List (List (Option Term))) → query.what ≡ kinds.Select select
    → start ≡ nothing_kept graph select.vars select.distinct → KeepsEachFound start (found (present start.graph.pairs) query.group) kept
    → IsSelectedOf select kept.rows rows → IsAnswer (present graph.pairs) query (answers.Rows rows)
select_kept graph query select start kept rows w e k s =
    rows_answer (present graph.pairs) query select kept.rows rows w
    (found_rows graph select.vars select.distinct start (found (present graph.pairs) query.group) e kept
    (keeps_found graph select.vars select.distinct start query.group e kept k)) s

pub describe_kept : (graph : GraphValue) (query : Query) (given : List Target) (start kept : KeptValue) (subjects : List Described) → query.what ≡ kinds.Describe given
    → start ≡ nothing_kept graph (range_with_len 0 (variables_of query.group)) true → KeepsEachFound start (found (present start.graph.pairs) query.group) kept
    → IsDescribedBy (present graph.pairs) kept.rows given subjects → IsAnswer (present graph.pairs) query (answers.Subjects subjects)
describe_kept graph query given start kept subjects w e k d =
    subjects_answer (present graph.pairs) query given kept.rows subjects w (all_kept graph true query.group start kept e k) d
