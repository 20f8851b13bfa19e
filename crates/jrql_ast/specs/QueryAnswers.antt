-- What a group's solutions are, and what the answer to a query is (SPARQL 1.1 Query Language, sections 15, 16 and 18.2).
use Rattle.std.specs.Prelude.{◌≡◌, ℕ, List, [], ◌++◌, Bool, true, false, length, take, drop, map, Option, None, Some}
use Rattle.std.specs.Cmp.Lexicographic.{slice_cmp}
use Rattle.std.specs.List.{filter, list_all, list_any, dedup, range_with_len, slice_index_or}
use Rattle.std.specs.List.Sorted.{IsPermutation, IsSorted}
use Rattle.std.specs.Option.{option_cmp, option_map_or}
use Rattle.std.specs.Ordering.{nat_cmp, eq_by_cmp}
use Rattle.std.specs.declared.cmp.Ordering.{Ordering}
use Rattle.rdf_terms.specs.declared.terms.Term.{Term}
use Rattle.rdf_terms.specs.declared.terms.Term.TheVariants as terms
use Rattle.rdf_terms.specs.declared.terms.Triple.{Triple}
use Rattle.rdf_terms.specs.Literal.{is_same}
use Rattle.rdf_terms.specs.Order.{term_cmp}
use Rattle.rdf_terms.specs.ReplyOrder.{reply_cmp}
use Rattle.jrql_ast.specs.declared.answers.Answer.{Answer}
use Rattle.jrql_ast.specs.declared.answers.Answer.TheVariants as answers
use Rattle.jrql_ast.specs.declared.answers.Described.{Described}
use Rattle.jrql_ast.specs.declared.patterns.Group.{Group}
use Rattle.jrql_ast.specs.declared.queries.Query.{Query}
use Rattle.jrql_ast.specs.declared.queries.Select.{Select}
use Rattle.jrql_ast.specs.declared.queries.Target.{Target}
use Rattle.jrql_ast.specs.declared.queries.Target.TheVariants as targets
use Rattle.jrql_ast.specs.declared.queries.What.{What}
use Rattle.jrql_ast.specs.declared.queries.What.TheVariants as kinds
use Rattle.jrql_ast.specs.FilterMeaning.{holds}
use Rattle.jrql_ast.specs.Solutions.{is_same_term, value_of, joined_rows}

-- how many solutions a group may have
abbrev pub solution_limit : ℕ
solution_limit = 1048576

-- a group's solutions, but for their order: the joined rows for which every filter holds. Equal ones of different branches stay
abbrev pub found : List Triple → Group → List (List (Option Term))
found graph group = filter (λ row. list_all (λ filter. holds filter row) group.filters) (joined_rows graph group)

-- an unbound place comes before every term: in the plain order, and in that of replies
abbrev pub place_cmp : Option Term → Option Term → Ordering
place_cmp = option_cmp term_cmp

abbrev pub reply_place_cmp : Option Term → Option Term → Ordering
reply_place_cmp = option_cmp reply_cmp

-- what a row has for these variables, and the order of rows by them
abbrev pub project : List ℕ → List (Option Term) → List (Option Term)
project variables row = map (λ variable. value_of variable row) variables

abbrev pub row_cmp : List ℕ → List (Option Term) → List (Option Term) → Ordering
row_cmp variables row other = slice_cmp place_cmp (project variables row) (project variables other)

-- the same items, each as often, in order
pub record IsSortingOf {X : Type 0} (order : X → X → Ordering) (given sorted : List X) : Type 0 where
  pub same : IsPermutation given sorted
  pub ascending : IsSorted order sorted

-- the named variables by their names, and behind them the hidden ones
pub record AreColumns (group : Group) (columns : List ℕ) : Type 0 where
  pub named : List ℕ
  pub by_name : IsSortingOf (λ left right. slice_cmp nat_cmp (slice_index_or group.names left []) (slice_index_or group.names right []))
      (range_with_len 0 (length group.names)) named
  pub whole : columns ≡ named ++ range_with_len (length group.names) group.hidden

-- the group's solutions, in the plain order
pub record IsSolutions (graph : List Triple) (group : Group) (rows : List (List (Option Term))) : Type 0 where
  pub columns : List ℕ
  pub by_columns : AreColumns group columns
  pub sorted : IsSortingOf (row_cmp columns) (found graph group) rows

-- the rows each once, where that is asked for: equal ones are neighbours
abbrev pub distinct_rows : Bool → List (List (Option Term)) → List (List (Option Term))
distinct_rows true rows = dedup (eq_by_cmp (slice_cmp place_cmp)) rows
distinct_rows false rows = rows

-- as many in front as may be
abbrev pub limited : {X : Type 0} → Option ℕ → List X → List X
limited None rows = rows
limited (Some limit) rows = take limit rows

-- the answer to a select: the solutions' values for the listed variables, in the order of replies, and then distinct, offset and limit
pub record IsSelected (graph : List Triple) (group : Group) (select : Select) (rows : List (List (Option Term))) : Type 0 where
  pub values : List (List (Option Term))
  pub sorted : IsSortingOf (slice_cmp reply_place_cmp) (map (project select.vars) (found graph group)) values
  pub whole : rows ≡ limited select.limit (drop select.offset (distinct_rows select.distinct values))

-- a value is this IRI
abbrev pub is_iri_value : List ℕ → Option Term → Bool
is_iri_value iri value = option_map_or (is_same_term (terms.Iri iri)) value false

-- a target is this IRI, or some solution has it for the target's variable
abbrev pub targets_iri : List (List (Option Term)) → List ℕ → Target → Bool
targets_iri rows iri (targets.Iri named) = is_same named iri
targets_iri rows iri (targets.Var variable) = list_any (λ row. is_iri_value iri (value_of variable row)) rows

-- the subjects of a graph, in order, each once: triples of one subject are neighbours
abbrev pub subjects_of : List Triple → List (List ℕ)
subjects_of graph = dedup is_same (map (λ (triple : Triple). triple.s) graph)

-- a subject with its triples, in order
abbrev pub described : List Triple → List ℕ → Described
described graph iri = record { id = iri; triples = filter (λ (triple : Triple). is_same triple.s iri) graph }

-- the answer to a describe: the graph's subjects that a target names or has in a solution, each with its triples
abbrev pub IsDescribed : List Triple → Group → List Target → List Described → Type 0
IsDescribed graph group targets subjects =
    subjects ≡ map (described graph) (filter (λ iri. list_any (targets_iri (found graph group) iri) targets) (subjects_of graph))

-- the answer of a query's kind
abbrev pub IsAnswerBy : List Triple → Group → What → Answer → Type 0
IsAnswerBy graph group (kinds.Select select) (answers.Rows rows) = IsSelected graph group select rows
IsAnswerBy graph group (kinds.Select select) (answers.Subjects subjects) = ⊥
IsAnswerBy graph group (kinds.Describe targets) (answers.Rows rows) = ⊥
IsAnswerBy graph group (kinds.Describe targets) (answers.Subjects subjects) = IsDescribed graph group targets subjects

-- the answer to a query
abbrev pub IsAnswer : List Triple → Query → Answer → Type 0
IsAnswer graph query answer = IsAnswerBy graph query.group query.what answer
