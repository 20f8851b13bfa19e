-- How often a row stands in a list. `without`, `with`, `unknown_of` and `moved` cite it.
use Rattle.std.specs.Prelude.{ℕ, List, Bool, length, Option}
use Rattle.std.specs.Cmp.Lexicographic.{slice_cmp}
use Rattle.std.specs.List.{filter}
use Rattle.std.specs.Ordering.{eq_by_cmp}
use Rattle.rdf_terms.specs.declared.terms.Term.{Term}
use Rattle.jrql_ast.specs.QueryAnswers.{place_cmp}

-- two rows are the same
abbrev pub is_same_row : List (Option Term) → List (Option Term) → Bool
is_same_row = eq_by_cmp (slice_cmp place_cmp)

-- how often a row stands in a list
abbrev pub times : List (Option Term) → List (List (Option Term)) → ℕ
times row rows = length (filter (is_same_row row) rows)
