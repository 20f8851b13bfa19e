-- Variables that are put one by one stand in the byte order of their names.
use Rattle.std.proofs.Common.{◌≡◌, ◌∙◌, ℕ, zero, suc, ◌+◌, List, [], ◌∷◌, ◌++◌, true, false, refl, sym, ap, subst, true≢false, if◌then◌else◌, arith}
use Rattle.std.specs.Prelude.{slice_index_or}
use Rattle.std.specs.List.Sorted.{IsPermutation, IsSorted}
use Rattle.std.specs.Ordering.{is_lt, ordering_reverse}
use Rattle.std.specs.declared.cmp.Ordering.{Ordering}
use Rattle.std.specs.declared.cmp.Ordering.TheVariants.{Less, Equal, Greater}
use Rattle.std.proofs.lemmas.Cmp.{nat_list_cmp_total}
use Rattle.std.proofs.lemmas.List.{append-nil}
use Rattle.std.proofs.lemmas.List.Sorted.{IsPermutation-refl, IsPermutation-sym, IsPermutation-cons, IsPermutation-trans, IsPermutation-append_right, IsPermutation-middle, IsPermutation-insert}
use Rattle.jrql_patterns.specs.OpenGroups.{OpenGroup}
use Rattle.jrql_patterns.specs.QueryReading.{name_cmp, is_before, placed, each_placed, standing_variables, every_column, AreInNameOrder}

turned : (o : Ordering) → is_lt o ≡ true → is_lt (ordering_reverse o) ≡ false
turned Less h = refl
turned Equal h = refl
turned Greater h = absurd (true≢false (sym h))

module _ (named : List (List ℕ)) where
  behind : (variable other : ℕ) → is_before named variable other ≡ true → is_before named other variable ≡ false
  behind variable other h =
      ap is_lt (nat_list_cmp_total.antisymm (slice_index_or named other []) (slice_index_or named variable [])) ∙ turned (name_cmp named variable other) h

  -- ---- in order

  -- the first of a list isn't before a variable
  abbrev Leads : ℕ → List ℕ → Type 0
  Leads variable [] = Unit {0}
  Leads variable (other ∷ rest) = is_before named other variable ≡ false

  abbrev Rises : List ℕ → Type 0
  Rises [] = Unit {0}
  Rises (variable ∷ rest) = Leads variable rest × Rises rest

  placed_leads : (first variable : ℕ) (rest : List ℕ) → is_before named variable first ≡ false → Leads first rest → Leads first (placed named variable rest)
  placed_leads first variable [] is leads = is
  placed_leads first variable (other ∷ rest) is leads =
      elim (is_before named variable other) as (λ b. Leads first (if b then variable ∷ other ∷ rest else other ∷ placed named variable rest)) [ true ↦ is | false ↦ leads ]

  placed_rises : (variable : ℕ) (others : List ℕ) → Rises others → Rises (placed named variable others)
  placed_rises variable [] rises = (tt, tt)
  placed_rises variable (other ∷ rest) rises =
      elim (is_before named variable other) as (λ b. is_before named variable other ≡ b → Rises (if b then variable ∷ other ∷ rest else other ∷ placed named variable rest)) [
        | true ↦ λ is. (behind variable other is, rises)
        | false ↦ λ is. (placed_leads other variable rest is rises.0, placed_rises variable rest rises.1)
      ] refl

  each_rises : (variables others : List ℕ) → Rises others → Rises (each_placed named variables others)
  each_rises [] others rises = rises
  each_rises (variable ∷ rest) others rises = each_rises rest (placed named variable others) (placed_rises variable others rises)

  sorted : (list : List ℕ) → Rises list → IsSorted (name_cmp named) list
  sorted [] rises k d low high = absurd (omega arith)
  sorted (variable ∷ []) rises k d low high = absurd (omega arith)
  sorted (variable ∷ other ∷ rest) rises zero d low high = rises.0
  sorted (variable ∷ other ∷ rest) rises (suc k) d low high =
      let next : suc k + 1 ≡ suc (k + 1) = omega arith in
      rw next (sorted (other ∷ rest) rises.1 k d (omega arith) (omega arith))

  -- ---- the same variables

  placed_same : (variable : ℕ) (others : List ℕ) → IsPermutation (variable ∷ others) (placed named variable others)
  placed_same variable [] = IsPermutation-refl (variable ∷ [])
  placed_same variable (other ∷ rest) =
      elim (is_before named variable other) as (λ b. IsPermutation (variable ∷ other ∷ rest) (if b then variable ∷ other ∷ rest else other ∷ placed named variable rest)) [
        | true ↦ IsPermutation-refl (variable ∷ other ∷ rest)
        | false ↦ IsPermutation-trans (variable ∷ other ∷ rest) (other ∷ variable ∷ rest) (other ∷ placed named variable rest)
            (IsPermutation-insert (other ∷ rest) 1 variable) (IsPermutation-cons other (variable ∷ rest) (placed named variable rest) (placed_same variable rest))
      ]

  each_same : (variables others : List ℕ) → IsPermutation (variables ++ others) (each_placed named variables others)
  each_same [] others = IsPermutation-refl others
  each_same (variable ∷ rest) others =
      IsPermutation-trans (variable ∷ rest ++ others) (rest ++ variable ∷ others) (each_placed named (variable ∷ rest) others)
      (IsPermutation-sym (rest ++ variable ∷ others) (variable ∷ rest ++ others) (IsPermutation-middle rest variable others))
      (IsPermutation-trans (rest ++ variable ∷ others) (rest ++ placed named variable others) (each_placed named rest (placed named variable others))
      (IsPermutation-append_right rest (variable ∷ others) (placed named variable others) (placed_same variable others))
      (each_same rest (placed named variable others)))

pub columns_in_order : (group : OpenGroup) → AreInNameOrder group.names.named (standing_variables group) (every_column group)
columns_in_order group =
    let named = group.names.named in
    let standing = standing_variables group in
    record {
      same = subst (λ l. IsPermutation l (every_column group)) (append-nil standing) (each_same named standing []);
      ascending = sorted named (every_column group) (each_rises named standing [] tt);
    }
