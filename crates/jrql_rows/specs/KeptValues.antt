-- Rows that are kept of those that are found: without the columns that nobody asks for, and how many were found. The model of `KeptRows` cites it,
-- and so do the calls that keep, sort and give rows.
use Rattle.std.specs.Prelude.{◌≡◌, ℕ, zero, suc, ◌+◌, ◌*◌, ◌≤◌, ◌⊎◌, ◌↔◌, List, [], ◌∷◌, ◌++◌, Bool, true, false, Option, length, map, take, drop}
use Rattle.std.specs.List.{slice_index_or}
use Rattle.std.specs.List.Sorted.{IsPermutation}
use Rattle.rdf_terms.specs.declared.terms.Term.{Term}
use Rattle.graph_index.specs.hinted_chunks.tree_clock.Lists.{Has}
use Rattle.graph_index.specs.Graphs.{GraphValue}
use Rattle.jrql_ast.specs.QueryAnswers.{project}
use Rattle.jrql_rows.specs.Bindings.{row_numbered}

-- rows over a graph, of which these columns are kept, each once where it stands behind the same one; and how many were found
pub record KeptValue : Type 0 where
  pub graph : GraphValue
  pub columns : List ℕ
  pub distinct : Bool
  pub count : ℕ
  pub rows : List (List (Option Term))

-- nothing is found yet
abbrev pub nothing_kept : GraphValue → List ℕ → Bool → KeptValue
nothing_kept graph columns distinct = record { graph = graph; columns = columns; distinct = distinct; count = 0; rows = [] }

-- the row of a number, and the rows of numbers
abbrev pub row_at : List (List (Option Term)) → ℕ → List (Option Term)
row_at rows number = slice_index_or rows number []

abbrev pub rows_at : List (List (Option Term)) → List ℕ → List (List (Option Term))
rows_at rows numbers = map (row_at rows) numbers

-- rows are added to others, in whatever order; where each is to stand once, it is enough that the same ones stand there
abbrev pub KeepsRows : Bool → List (List (Option Term)) → List (List (Option Term)) → List (List (Option Term)) → Type 0
KeepsRows false old added new = IsPermutation (old ++ added) new
KeepsRows true old added new = (row : List (Option Term)) → Has new row ↔ (Has old row ⊎ Has added row)

-- these rows are found beside those that were: they are counted, and what is asked of them is kept
pub record KeepsEach (old : KeptValue) (added : List (List (Option Term))) (new : KeptValue) : Type 0 where
  pub graph : new.graph ≡ old.graph
  pub columns : new.columns ≡ old.columns
  pub distinct : new.distinct ≡ old.distinct
  pub count : new.count ≡ old.count + length added
  pub rows : KeepsRows old.distinct old.rows (map (project old.columns) added) new.rows

-- so many lists of so many places each, that stand one behind the other
abbrev pub cut_rows : {X : Type 0} → ℕ → ℕ → List X → List (List X)
cut_rows width zero places = []
cut_rows width (suc rows) places = take width places ∷ cut_rows width rows (drop width places)

-- the rows of the numbers that stand so
abbrev pub rows_numbered : GraphValue → ℕ → ℕ → List (Option ℕ) → List (List (Option Term))
rows_numbered graph width rows numbers = map (row_numbered graph) (cut_rows width rows numbers)

-- there are so many whole rows, and no more of them than were found
pub record AreWholeRows (width rows count : ℕ) (numbers : List (Option ℕ)) : Type 0 where
  pub whole : length numbers ≡ rows * width
  pub few : rows ≤ count

-- the numbers of a row's values for these columns stand behind others
pub record AddsRow (graph : GraphValue) (columns : List ℕ) (row : List (Option Term)) (old new : List (Option ℕ)) : Type 0 where
  pub added : List (Option ℕ)
  pub behind : new ≡ old ++ added
  pub are : row_numbered graph added ≡ project columns row
