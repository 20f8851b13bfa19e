-- Paths with their numbers. The private table of paths cites it: how its numbers are ordered, and what the table keeps.
use Rattle.std.specs.Prelude.{◌≡◌, ℕ, ◌^◌, ◌<◌, List, [], ◌↔◌, Some, Bool, length, nat_eq}
use Rattle.std.proofs.Common.{sym}
use Rattle.std.proofs.lemmas.Cmp.{nat_cmp_total, nat_list_cmp_total, on_total, then_total}
use Rattle.std.proofs.lemmas.Map.Lookups.{CmpEqualImpliesEq, exact_bytes, exact_unsigned}
use Rattle.std.specs.Cmp.{IsTotalOrder}
use Rattle.std.specs.Cmp.Lexicographic.{pointwise, slice_cmp}
use Rattle.std.specs.List.{IsDistinct, slice_get}
use Rattle.std.specs.Ordering.{nat_cmp, ordering_then, is_lt}
use Rattle.std.specs.declared.cmp.Ordering.{Ordering}
use Rattle.std.specs.declared.cmp.Ordering.TheVariants.{Less, Equal, Greater}
use Rattle.rdf_terms.specs.OrderLaws.{both_equal}
use Rattle.tree_clock.specs.Lists.{Has, IsAscending}
use Rattle.number_tables.specs.declared.path_table.NumberedPath.{NumberedPath}

-- two paths with their numbers: by their letters, and then by the numbers
abbrev pub numbered_path_cmp : NumberedPath → NumberedPath → Ordering
numbered_path_cmp a b = ordering_then (slice_cmp nat_cmp a.path b.path) (nat_cmp a.number b.number)

-- a path with its number is in front of a path
abbrev pub is_before_path : List ℕ → NumberedPath → Bool
is_before_path path a = is_lt (slice_cmp nat_cmp a.path path)

-- what a table of paths keeps: no path stands twice, and all are there with their numbers, in order, and no others
pub record IsPathTable (paths : List (List ℕ)) (places : List NumberedPath) : Type 0 where
  pub apart : IsDistinct (pointwise nat_eq) paths
  pub few : length paths < 2 ^ 32
  pub members : (place : NumberedPath) → Has places place ↔ (slice_get paths place.number ≡ Some place.path)
  pub ascending : IsAscending numbered_path_cmp places

-- the order is total
pub numbered_path_total : IsTotalOrder numbered_path_cmp
numbered_path_total = then_total (on_total (λ (a : NumberedPath). a.path) nat_list_cmp_total) (on_total (λ (a : NumberedPath). a.number) nat_cmp_total)

-- and what it finds equal is the same
pub numbered_path_exact : CmpEqualImpliesEq numbered_path_cmp
numbered_path_exact a b h =
    let all = both_equal (slice_cmp nat_cmp a.path b.path) (nat_cmp a.number b.number) h in
    let path = exact_bytes a.path b.path all.0 in
    let number = exact_unsigned a.number b.number all.1 in
    λ i. record { path = path i; number = number i }

-- texts that have no byte tell nothing
pub no_text_tells : {A : Type 0} (r : Ordering) → ¬ (r ≡ Equal) → slice_cmp nat_cmp [] [] ≡ r → A
no_text_tells r differs e = absurd (differs (sym e))

pub no_text_below : {A : Type 0} → slice_cmp nat_cmp [] [] ≡ Less → A
no_text_below e = no_text_tells Less differs e
  where
    differs : ¬ (Less ≡ Equal)
    differs q = cc

pub no_text_above : {A : Type 0} → slice_cmp nat_cmp [] [] ≡ Greater → A
no_text_above e = no_text_tells Greater differs e
  where
    differs : ¬ (Greater ≡ Equal)
    differs q = cc
