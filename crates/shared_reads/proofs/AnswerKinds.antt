-- An answer to a query is of the query's kind.
use Rattle.std.proofs.Common.{◌≡◌, ◌<◌, ◌≤◌, ℕ, List, Bool, true, false, Option, Some, None, Result, Ok, Err, IfOk, IsErrOf, All, length, map, drop, sym, subst}
use Rattle.std.specs.Cmp.Lexicographic.{slice_cmp}
use Rattle.std.specs.Ordering.{eq_by_cmp}
use Rattle.std.proofs.lemmas.List.{length-map}
use Rattle.std.proofs.lemmas.List.Elements.{All-map, All-take, All-drop}
use Rattle.std.proofs.lemmas.List.Filters.{All-dedup}
use Rattle.std.proofs.lemmas.List.Sorted.{All-permutation}
use Rattle.rdf_terms.specs.declared.terms.Term.{Term}
use Rattle.rdf_terms.specs.declared.terms.Triple.{Triple}
use Rattle.jrql_ast.specs.declared.answers.Answer.{Answer}
use Rattle.jrql_ast.specs.declared.answers.Answer.TheVariants as answers
use Rattle.jrql_ast.specs.declared.patterns.Group.{Group}
use Rattle.jrql_ast.specs.declared.queries.Select.{Select}
use Rattle.jrql_ast.specs.declared.queries.What.{What}
use Rattle.jrql_ast.specs.declared.queries.What.TheVariants as kinds
use Rattle.jrql_ast.specs.InForm.{IsAnswerTo}
use Rattle.jrql_ast.specs.declared.queries.Query.{Query}
use Rattle.jrql_ast.specs.QueryAnswers.{solution_limit, IsAnswer, place_cmp, project, found, distinct_rows, limited, IsSelected, IsAnswerBy}
use Rattle.jrql_ast.specs.Solutions.{value_of}
use Rattle.jrql_eval.specs.declared.faults.EvalFault.{EvalFault}
use Rattle.jrql_eval.specs.declared.faults.EvalFault.TheVariants as faults
use Rattle.mld_ops.specs.Present.{present}
use Rattle.mld_ops.specs.declared.tagged.Tagged.{Tagged}
use Rattle.shared_reads.specs.Seats.{ReadsOver}

-- a row has a place for each of these variables
abbrev HasPlaces : List ℕ → List (Option Term) → Type 0
HasPlaces variables row = length row ≡ length variables

distinct_places : (variables : List ℕ) (distinct : Bool) (rows : List (List (Option Term))) → All (HasPlaces variables) rows → All (HasPlaces variables) (distinct_rows distinct rows)
distinct_places variables true rows all = All-dedup (eq_by_cmp (slice_cmp place_cmp)) (HasPlaces variables) rows all
distinct_places variables false rows all = all

limited_places : (variables : List ℕ) (limit : Option ℕ) (rows : List (List (Option Term))) → All (HasPlaces variables) rows → All (HasPlaces variables) (limited limit rows)
limited_places variables None rows all = all
limited_places variables (Some limit) rows all = All-take (HasPlaces variables) limit rows all

-- what is taken of a row
projected_places : (variables : List ℕ) (row : List (Option Term)) → HasPlaces variables (project variables row)
projected_places variables row = length-map variables (λ variable. value_of variable row)

-- the rows of a select
rows_of_kind : (graph : List Triple) (group : Group) (select : Select) (rows : List (List (Option Term))) → IsSelected graph group select rows → All (HasPlaces select.vars) rows
rows_of_kind graph group select rows s =
    let P : List (Option Term) → Type 0 = HasPlaces select.vars in
    let projected : All P (map (project select.vars) (found graph group)) =
    All-map P (project select.vars) (found graph group) (λ k d inside. projected_places select.vars _) in
    let values : All P s.values = All-permutation P (map (project select.vars) (found graph group)) s.values s.sorted.same projected in
    let kept : All P (drop select.offset (distinct_rows select.distinct s.values)) =
    All-drop P select.offset (distinct_rows select.distinct s.values) (distinct_places select.vars select.distinct s.values values) in
    subst (All P) (sym s.whole) (limited_places select.vars select.limit (drop select.offset (distinct_rows select.distinct s.values)) kept)

-- any answer
answer_of_kind : (graph : List Triple) (group : Group) (what : What) (answer : Answer) → IsAnswerBy graph group what answer → IsAnswerTo what answer
answer_of_kind graph group (kinds.Select select) (answers.Rows rows) is = rows_of_kind graph group select rows is
answer_of_kind graph group (kinds.Select select) (answers.Subjects subjects) is = absurd is
answer_of_kind graph group (kinds.Describe targets) (answers.Rows rows) is = absurd is
answer_of_kind graph group (kinds.Describe targets) (answers.Subjects subjects) is = tt

-- what became of a query
pub reads : (pairs : List Tagged) (query : Query) (result : Result Answer EvalFault) → IfOk result (IsAnswer (present pairs) query)
    → IfOk result (λ answer. length (found (present pairs) query.group) ≤ solution_limit) → (IsErrOf result faults.TooMany → solution_limit < length (found (present pairs) query.group))
    → ReadsOver pairs query result
reads pairs query (Ok answer) is few many = record { answer = is; kind = answer_of_kind (present pairs) query.group query.what answer is; few = few; too_many = many }
reads pairs query (Err fault) is few many = record { answer = is; kind = tt; few = few; too_many = many }
