-- What a pattern finds in a row by numbers. The private calls that look patterns up cite it.
use Rattle.std.specs.Prelude.{◌≡◌, ℕ, List, Option, None, Some, map}
use Rattle.std.specs.List.{filter_map}
use Rattle.std.specs.List.Sorted.{IsPermutation}
use Rattle.jrql_rows.specs.rdf_terms.declared.terms.Term.{Term}
use Rattle.jrql_rows.specs.rdf_terms.declared.terms.Triple.{Triple}
use Rattle.jrql_rows.specs.mld_ops.Present.{present}
use Rattle.jrql_rows.specs.graph_index.Graphs.{GraphValue}
use Rattle.jrql_rows.specs.graph_index.Numbered.{term_numbered, triple_numbered, TermNumbers}
use Rattle.jrql_rows.specs.jrql_ast.declared.patterns.PatternTriple.{PatternTriple}
use Rattle.jrql_rows.specs.jrql_ast.Solutions.{agree}
use Rattle.jrql_rows.specs.Bindings.{BindingsValue}

-- the number that is wanted where a place is this term, if it is one: none at all, where the term has no number
abbrev pub IsPlaceOf : GraphValue → Option Term → Option (Option ℕ) → Type 0
IsPlaceOf graph side None = (term : Term) × (side ≡ Some term) × ((number : ℕ) → ¬ (term_numbered graph number ≡ Some term))
IsPlaceOf graph side (Some None) = side ≡ None
IsPlaceOf graph side (Some (Some number)) = (term : Term) × (side ≡ Some term) × (term_numbered graph number ≡ Some term)

-- these triples, by the numbers of their terms, are those of the graph that a pattern may be in the row, and maybe others, in whatever order
pub record FindsFor (pattern : PatternTriple) (row : BindingsValue) (found : List TermNumbers) : Type 0 where
  pub triples : List Triple
  pub are : map (triple_numbered row.graph) found ≡ map (λ triple. Some triple) triples
  pub whole : IsPermutation (filter_map (λ triple. agree pattern triple row.row) (present row.graph.pairs)) (filter_map (λ triple. agree pattern triple row.row) triples)
