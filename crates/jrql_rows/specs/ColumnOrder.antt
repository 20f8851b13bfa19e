-- The columns of names and so many hidden variables. A private call behind `solutions` cites it.
use Rattle.std.specs.Prelude.{◌≡◌, ℕ, List, [], ◌++◌, length}
use Rattle.std.specs.Cmp.Lexicographic.{slice_cmp}
use Rattle.std.specs.List.{range_with_len, slice_index_or}
use Rattle.std.specs.Ordering.{nat_cmp}
use Rattle.jrql_ast.specs.QueryAnswers.{IsSortingOf}

-- the numbers of the names by the names, and behind them those of the hidden variables
pub record AreColumnsOf (names : List (List ℕ)) (hidden : ℕ) (columns : List ℕ) : Type 0 where
  pub named : List ℕ
  pub by_name : IsSortingOf (λ left right. slice_cmp nat_cmp (slice_index_or names left []) (slice_index_or names right []))
      (range_with_len 0 (length names)) named
  pub whole : columns ≡ named ++ range_with_len (length names) hidden
