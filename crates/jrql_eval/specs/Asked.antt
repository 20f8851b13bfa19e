-- What is asked of the rows of a query's group, in whatever order they are. `select` and `describe` cite it.
use Rattle.std.specs.Prelude.{◌≡◌, ℕ, List, [], ◌∷◌, Option, map, drop}
use Rattle.std.specs.Cmp.Lexicographic.{slice_cmp}
use Rattle.std.specs.List.{filter, filter_map, flat_map, list_any}
use Rattle.jrql_rows.specs.rdf_terms.declared.terms.Term.{Term}
use Rattle.jrql_rows.specs.rdf_terms.declared.terms.Triple.{Triple}
use Rattle.jrql_rows.specs.rdf_terms.Literal.{is_same}
use Rattle.jrql_rows.specs.jrql_ast.declared.answers.Described.{Described}
use Rattle.jrql_rows.specs.jrql_ast.declared.queries.Select.{Select}
use Rattle.jrql_rows.specs.jrql_ast.declared.queries.Target.{Target}
use Rattle.jrql_rows.specs.jrql_ast.declared.queries.Target.TheVariants as targets
use Rattle.jrql_rows.specs.jrql_ast.declared.queries.What.{What}
use Rattle.jrql_rows.specs.jrql_ast.declared.queries.What.TheVariants as kinds
use Rattle.jrql_rows.specs.jrql_ast.QueryAnswers.{IsSortingOf, described, distinct_rows, limited, reply_place_cmp, subjects_of, targets_iri}
use Rattle.jrql_rows.specs.jrql_ast.Solutions.{value_of}
use Rattle.jrql_eval.specs.Evaluating.{iri_of_term}

-- rows are asked for
abbrev pub AsksRows : What → Type 0
AsksRows (kinds.Select select) = Unit {0}
AsksRows (kinds.Describe targets) = ⊥

-- subjects are asked for
abbrev pub AsksSubjects : What → Type 0
AsksSubjects (kinds.Select select) = ⊥
AsksSubjects (kinds.Describe targets) = Unit {0}

-- rows of a select's values, as it asks for them
pub record IsSelectedOf (select : Select) (rows kept : List (List (Option Term))) : Type 0 where
  pub values : List (List (Option Term))
  pub sorted : IsSortingOf (slice_cmp reply_place_cmp) rows values
  pub whole : kept ≡ limited select.limit (drop select.offset (distinct_rows select.distinct values))

-- the IRIs that rows have for a variable
abbrev pub bound_iris : ℕ → List (List (Option Term)) → List (List ℕ)
bound_iris variable rows = filter_map (λ row. iri_of_term (value_of variable row)) rows

-- the IRIs that a target names or has in rows
abbrev pub targeted_by : List (List (Option Term)) → Target → List (List ℕ)
targeted_by rows (targets.Iri iri) = iri ∷ []
targeted_by rows (targets.Var variable) = bound_iris variable rows

-- and those of all targets
abbrev pub all_targeted : List (List (Option Term)) → List Target → List (List ℕ)
all_targeted rows targets = flat_map (targeted_by rows) targets

-- a subject with its triples, where it has any
abbrev pub described_by : List ℕ → List Triple → List Described
described_by iri [] = []
described_by iri (triple ∷ triples) = record { id = iri; triples = triple ∷ triples } ∷ []

abbrev pub described_where : List Triple → List ℕ → List Described
described_where graph iri = described_by iri (filter (λ (triple : Triple). is_same triple.s iri) graph)

-- the graph's subjects that a target names or has in rows, each with its triples
abbrev pub IsDescribedBy : List Triple → List (List (Option Term)) → List Target → List Described → Type 0
IsDescribedBy graph rows targets subjects =
    subjects ≡ map (described graph) (filter (λ iri. list_any (targets_iri rows iri) targets) (subjects_of graph))
