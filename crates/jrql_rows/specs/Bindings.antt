-- What is bound while a group is solved: rows of terms that stand as numbers of a graph. The model of `Bindings` cites it, and so do the calls
-- that bind variables.
use Rattle.std.specs.Prelude.{◌≡◌, ℕ, List, Bool, nat_eq, true, false, Option, None, Some, IsSome, map}
use Rattle.std.specs.List.{slice_set}
use Rattle.std.specs.Option.{option_and_then}
use Rattle.rdf_terms.specs.declared.terms.Term.{Term}
use Rattle.graph_index.specs.hinted_chunks.tree_clock.Lists.{Has}
use Rattle.graph_index.specs.Graphs.{GraphValue}
use Rattle.graph_index.specs.Numbered.{term_numbered, StandForOwn}

-- a row over a graph
pub record BindingsValue : Type 0 where
  pub graph : GraphValue
  pub row : List (Option Term)

-- the row of the terms that have the numbers
abbrev pub row_numbered : GraphValue → List (Option ℕ) → List (Option Term)
row_numbered graph numbers = map (option_and_then (term_numbered graph)) numbers

-- each number has a term
abbrev pub HaveTerms : GraphValue → List (Option ℕ) → Type 0
HaveTerms graph numbers = (number : ℕ) → Has numbers (Some number) → IsSome (term_numbered graph number)

-- each number has a term, and no two have one
pub record AreOwnNumbers (graph : GraphValue) (numbers : List (Option ℕ)) : Type 0 where
  pub named : HaveTerms graph numbers
  pub own : StandForOwn graph

-- what becomes of numbers where one is bound to a variable that had this one before: an unbound variable takes it, a bound one has to have it
abbrev pub BindsNumber : Option ℕ → ℕ → ℕ → List (Option ℕ) → Bool → List (Option ℕ) → Type 0
BindsNumber None variable number old agreed new = (agreed ≡ true) × (new ≡ slice_set old variable (Some number))
BindsNumber (Some bound) variable number old agreed new = (agreed ≡ nat_eq bound number) × (new ≡ old)

-- what becomes of a row where something is bound in it: it agrees, and is then this row, or it doesn't
abbrev pub IsBinding : Option (List (Option Term)) → Bool → List (Option Term) → Type 0
IsBinding None agreed row = agreed ≡ false
IsBinding (Some bound) agreed row = (agreed ≡ true) × (row ≡ bound)
