-- Numbers of values: a number is the place of a value in a table. The calls of both tables cite it.
use Rattle.std.specs.Prelude.{ℕ, List, [], ◌∷◌, ◌++◌, Bool, nat_eq, Option, position, if◌then◌else◌}
use Rattle.std.specs.Cmp.Lexicographic.{pointwise}
use Rattle.std.specs.List.{list_any}
use Rattle.std.specs.Ordering.{eq_by_cmp}
use Rattle.rdf_terms.specs.declared.terms.Term.{Term}
use Rattle.rdf_terms.specs.Order.{term_cmp}

-- the number of a term among these
abbrev pub number_of_term : List Term → Term → Option ℕ
number_of_term terms term = position (eq_by_cmp term_cmp term) terms

-- the number of a path among these
abbrev pub number_of_path : List (List ℕ) → List ℕ → Option ℕ
number_of_path paths path = position (pointwise nat_eq path) paths

-- values with one more behind them, unless the test finds it among them
abbrev pub with_new_value : {X : Type 0} → (X → X → Bool) → List X → X → List X
with_new_value test values value = if list_any (test value) values then values else values ++ value ∷ []
