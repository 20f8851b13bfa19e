-- Lists of pairs that name each path once: the paths, and rows that have the numbers of their paths.
use Rattle.std.specs.Prelude.{◌≡◌, ℕ, List, [], ◌++◌, Some, map, slice_index_or}
use Rattle.std.specs.List.{slice_get}
use Rattle.mld_ops.specs.declared.pair_lists.PairRef.{PairRef}
use Rattle.mld_ops.specs.declared.pair_lists.PairRow.{PairRow}
use Rattle.mld_ops.specs.declared.tagged.Tagged.{Tagged}

-- the path that has a number among these; the root, where none has
abbrev pub path_numbered : List (List ℕ) → ℕ → List ℕ
path_numbered paths number = slice_index_or paths number []

-- the pair of a row
abbrev pub row_pair : List (List ℕ) → PairRow → Tagged
row_pair paths row = record { triple = row.triple; dot = record { path = path_numbered paths row.path; tick = row.tick } }

-- the pairs of rows
abbrev pub rows_pairs : List (List ℕ) → List PairRow → List Tagged
rows_pairs paths rows = map (row_pair paths) rows

-- the pair that is lent
abbrev pub pair_lent : PairRef → Tagged
pair_lent pair = record { triple = pair.triple.now; dot = pair.dot }

-- ---- paths that more are put behind

-- a path has its number among the new paths, which begin with the old ones
pub record IsNumberedIn (old new : List (List ℕ)) (path : List ℕ) (number : ℕ) : Type 0 where
  pub grown : (more : List (List ℕ)) × (new ≡ old ++ more)
  pub stands : slice_get new number ≡ Some path

-- the row is a pair's, whatever paths are put behind the new ones, which begin with the old ones
pub record IsRowIn (old new : List (List ℕ)) (pair : Tagged) (row : PairRow) : Type 0 where
  pub grown : (more : List (List ℕ)) × (new ≡ old ++ more)
  pub is : (later : List (List ℕ)) → row_pair (new ++ later) row ≡ pair
