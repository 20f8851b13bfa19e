-- Whether filters hold of a row, and whether they may hold of one in which what is bound in it has its value. `all_hold` and `all_can_hold`
-- cite it (SPARQL 1.1 Query Language, section 18.5, for what a filter leaves).
use Rattle.std.specs.Borrow.{Bor}
use Rattle.std.specs.Prelude.{List, Bool, true, Option}
use Rattle.std.specs.List.{list_all}
use Rattle.std.specs.Option.{option_map_or, option_zip}
use Rattle.rdf_terms.specs.declared.terms.Term.{Term}
use Rattle.jrql_ast.specs.declared.patterns.Filter.{Filter}
use Rattle.jrql_ast.specs.FilterMeaning.{compares_so, side_value, holds}

-- all filters hold of the row
abbrev pub all_hold : List Filter → List (Option Term) → Bool
all_hold filters row = list_all (λ filter. holds filter row) filters

-- the filter may hold behind the row: where both its sides are bound, it does
abbrev pub can_hold : Filter → List (Option Term) → Bool
can_hold filter row = option_map_or (λ both. compares_so filter.op both.0 both.1) (option_zip (side_value filter.left row) (side_value filter.right row)) true

-- all filters may hold behind the row
abbrev pub all_can_hold : List (Bor Filter) → List (Option Term) → Bool
all_can_hold filters row = list_all (λ filter. can_hold filter.now row) filters
