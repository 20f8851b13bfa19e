-- Columns that are sorted are the columns in order, so a row that is written by them has its members.
use Rattle.std.proofs.Common.{◌≡◌, ◌∙◌, ℕ, zero, suc, ◌+◌, ◌<◌, List, [], ◌∷◌, ◌++◌, false, Option, None, length, take, get_or, refl, sym, ap, subst, arith}
use Rattle.std.specs.Cmp.{IsTotalOrder, nat_cmp_is}
use Rattle.std.specs.Cmp.Lexicographic.{slice_cmp}
use Rattle.std.specs.List.{AllByRecursion}
use Rattle.std.specs.List.Sorted.{IsPermutation, IsSorted}
use Rattle.std.specs.Ordering.{nat_cmp, is_lt, ordering_reverse, ordering_then}
use Rattle.std.specs.declared.cmp.Ordering.{Ordering}
use Rattle.std.specs.declared.cmp.Ordering.TheVariants.{Less, Equal, Greater}
use Rattle.std.proofs.lemmas.Bool.{true≢false}
use Rattle.std.proofs.lemmas.Cmp.{nat_list_cmp_total, nat_cmp_total, on_total, then_total}
use Rattle.std.proofs.lemmas.List.Sorted.{IsPermutation-refl, IsPermutation-cons, IsPermutation-trans, IsPermutation-append_left, IsPermutation-append_comm}
use Rattle.std.proofs.lemmas.List.{length-take-le}
use Rattle.std.proofs.Math.Seq.{take-suc}
use Rattle.std.proofs.lemmas.Map.Lookups.{exact_bytes, exact_unsigned}
use Rattle.rdf_terms.specs.declared.terms.Term.{Term}
use Rattle.jrql_ast.specs.QueryAnswers.{IsSortingOf}
use Rattle.jrql_ast.proofs.Sortings.{one_sorting}
use Rattle.jsonld_context.specs.Context.{ContextValue}
use Rattle.jrql_reply.specs.AnswerText.{name_of, row_members}
use Rattle.jrql_reply.specs.Columns.{ColumnValue, columns_from, column_cmp, members_by}
use Rattle.jrql_reply.proofs.ColumnLaws.{members_from, put_column, insert_column, sort_columns, all_inserted, AscendByPlace, NamesAscend, members_sorted, all_by}

-- the order of columns is total, and tells them apart
pub column_total : IsTotalOrder column_cmp
column_total = then_total (on_total (λ (column : ColumnValue). column.name) nat_list_cmp_total) (on_total (λ (column : ColumnValue). column.place) nat_cmp_total)

column_exact : (column other : ColumnValue) → column_cmp column other ≡ Equal → column ≡ other
column_exact column other equal =
    let both = parts (slice_cmp nat_cmp column.name other.name) (nat_cmp column.place other.place) equal in
    let named = exact_bytes column.name other.name both.0 in
    let placed = exact_unsigned column.place other.place both.1 in
    λ i. record { name = named i; place = placed i }
  where
    parts : (first second : Ordering) → ordering_then first second ≡ Equal → (first ≡ Equal) × (second ≡ Equal)
    parts Less second h = let e : Less ≡ Equal = h in cc e
    parts Equal second h = (refl, h)
    parts Greater second h = let e : Greater ≡ Equal = h in cc e

-- ---- the sorting

turned : (column first : ColumnValue) (rest : List ColumnValue) → IsPermutation (column ∷ first ∷ rest) (first ∷ column ∷ rest)
turned column first rest = IsPermutation-append_left rest ((column ∷ []) ++ (first ∷ [])) ((first ∷ []) ++ (column ∷ [])) (IsPermutation-append_comm (column ∷ []) (first ∷ []))

inserted_same : (column : ColumnValue) (columns : List ColumnValue) → IsPermutation (column ∷ columns) (insert_column column columns)
inserted_same column [] = IsPermutation-refl (column ∷ [])
inserted_same column (first ∷ rest) = by (column_cmp column first) (inserted_same column rest)
  where
    by : (o : Ordering) → IsPermutation (column ∷ rest) (insert_column column rest) → IsPermutation (column ∷ first ∷ rest) (put_column o column first rest (insert_column column rest))
    by Less more = IsPermutation-refl (column ∷ first ∷ rest)
    by Equal more = IsPermutation-refl (column ∷ first ∷ rest)
    by Greater more =
        IsPermutation-trans (column ∷ first ∷ rest) (first ∷ column ∷ rest) (first ∷ insert_column column rest) (turned column first rest)
        (IsPermutation-cons first (column ∷ rest) (insert_column column rest) more)

sorted_same : (columns : List ColumnValue) → IsPermutation columns (sort_columns columns)
sorted_same [] = IsPermutation-refl []
sorted_same (column ∷ columns) =
    IsPermutation-trans (column ∷ columns) (column ∷ sort_columns columns) (insert_column column (sort_columns columns))
    (IsPermutation-cons column columns (sort_columns columns) (sorted_same columns)) (inserted_same column (sort_columns columns))

-- no column comes before this one
abbrev NotBefore : ColumnValue → ColumnValue → Type 0
NotBefore column other = is_lt (column_cmp other column) ≡ false

abbrev Ascend : List ColumnValue → Type 0
Ascend [] = Unit {0}
Ascend (column ∷ columns) = AllByRecursion (NotBefore column) columns × Ascend columns

-- what isn't before a column isn't before one that is before it
not_before : (column first other : ColumnValue) → column_cmp column first ≡ Less → NotBefore first other → NotBefore column other
not_before column first other less beyond = by (column_cmp other column) refl
  where
    by : (o : Ordering) → column_cmp other column ≡ o → is_lt o ≡ false
    by Less is = absurd (true≢false (sym (ap is_lt (column_total.trans other column first is less)) ∙ beyond))
    by Equal is = refl
    by Greater is = refl

all_not_before : (column first : ColumnValue) (columns : List ColumnValue) → column_cmp column first ≡ Less → AllByRecursion (NotBefore first) columns → AllByRecursion (NotBefore column) columns
all_not_before column first [] less all = tt
all_not_before column first (other ∷ columns) less all = (not_before column first other less all.0, all_not_before column first columns less all.1)

behind_it : (column first : ColumnValue) (o : Ordering) → column_cmp column first ≡ o → is_lt (ordering_reverse o) ≡ false → NotBefore column first
behind_it column first o is h = ap is_lt (column_total.antisymm first column ∙ ap ordering_reverse is) ∙ h

inserted_ascend : (column : ColumnValue) (columns : List ColumnValue) → Ascend columns → Ascend (insert_column column columns)
inserted_ascend column [] ascend = (tt, tt)
inserted_ascend column (first ∷ rest) ascend = by (column_cmp column first) refl (inserted_ascend column rest ascend.1)
  where
    by : (o : Ordering) → column_cmp column first ≡ o → Ascend (insert_column column rest) → Ascend (put_column o column first rest (insert_column column rest))
    by Less is more = ((behind_it column first Less is refl, all_not_before column first rest is ascend.0), ascend)
    by Equal is more =
        let one = column_exact column first is in
        let all : AllByRecursion (NotBefore column) rest = subst (λ (c : ColumnValue). AllByRecursion (NotBefore c) rest) (sym one) ascend.0 in
        ((behind_it column first Equal is refl, all), ascend)
    by Greater is more = (all_inserted (NotBefore first) column rest (ap is_lt is) ascend.0, more)

sorted_ascend : (columns : List ColumnValue) → Ascend (sort_columns columns)
sorted_ascend [] = tt
sorted_ascend (column ∷ columns) = inserted_ascend column (sort_columns columns) (sorted_ascend columns)

first_of : (column other : ColumnValue) (columns : List ColumnValue) → 0 < length columns → AllByRecursion (NotBefore column) columns → NotBefore column (get_or columns 0 other)
first_of column other [] some all = absurd (omega (arith, some))
first_of column other (first ∷ rest) some all = all.0

by_places : (columns : List ColumnValue) → Ascend columns → IsSorted column_cmp columns
by_places [] ascend k other low high = absurd (omega (arith, high))
by_places (column ∷ columns) ascend zero other low high = first_of column other columns (omega (arith, high)) ascend.0
by_places (column ∷ columns) ascend (suc k) other low high =
    let next : suc k + 1 ≡ suc (k + 1) = omega arith in
    subst (λ (n : ℕ). is_lt (column_cmp (get_or (column ∷ columns) n other) (get_or columns k other)) ≡ false) (sym next) (by_places columns ascend.1 k other (omega arith) (omega (arith, high)))

sorting : (columns : List ColumnValue) → IsSortingOf column_cmp columns (sort_columns columns)
sorting columns = record { same = sorted_same columns; ascending = by_places (sort_columns columns) (sorted_ascend columns) }

-- ---- names and places

name_not_before : (column other : ColumnValue) → NotBefore column other → is_lt (slice_cmp nat_cmp other.name column.name) ≡ false
name_not_before column other h = by (slice_cmp nat_cmp other.name column.name) h
  where
    by : (o : Ordering) → is_lt (ordering_then o (nat_cmp other.place column.place)) ≡ false → is_lt o ≡ false
    by Less h = h
    by Equal h = refl
    by Greater h = refl

names_not_before : (column : ColumnValue) (columns : List ColumnValue) → AllByRecursion (NotBefore column) columns
    → AllByRecursion (λ other. is_lt (slice_cmp nat_cmp other.name column.name) ≡ false) columns
names_not_before column [] all = tt
names_not_before column (other ∷ columns) all = (name_not_before column other all.0, names_not_before column columns all.1)

names_ascend : (context : ContextValue) (row : List (Option Term)) (columns : List ColumnValue) → Ascend columns → NamesAscend context row columns
names_ascend context row [] ascend = tt
names_ascend context row (column ∷ columns) ascend = (names_not_before column columns ascend.0, names_ascend context row columns ascend.1)

places_from : (names : List (List ℕ)) (place from : ℕ) (variables : List ℕ) → place < from → AllByRecursion (λ other. nat_cmp place other.place ≡ Less) (columns_from names from variables)
places_from names place from [] before = tt
places_from names place from (variable ∷ variables) before =
    (sym (nat_cmp_is place from Less before), places_from names place (from + 1) variables (omega (arith, before)))

ascend_from : (names : List (List ℕ)) (place : ℕ) (variables : List ℕ) → AscendByPlace (columns_from names place variables)
ascend_from names place [] = tt
ascend_from names place (variable ∷ variables) = (places_from names place (place + 1) variables (omega arith), ascend_from names (place + 1) variables)

-- ---- rows

-- what is written of a row by columns that are sorted are its members
pub row_by_columns : (context : ContextValue) (names : List (List ℕ)) (variables : List ℕ) (columns : List ColumnValue) (row : List (Option Term))
    → IsPermutation (columns_from names 0 variables) columns → IsSorted column_cmp columns
    → members_by context row None columns ≡ row_members context names variables row
row_by_columns context names variables columns row permuted sorted =
    let given = columns_from names 0 variables in
    let one : columns ≡ sort_columns given =
    one_sorting column_cmp column_total (λ _. Unit {0}) (λ x y _ _ equal. column_exact x y equal) given columns (sort_columns given) (λ _ _ _. tt)
    (record { same = permuted; ascending = sorted }) (sorting given) in
    ap (members_by context row None) one
    ∙ (all_by context row (sort_columns given) (names_ascend context row (sort_columns given) (sorted_ascend given))
    ∙ (members_sorted context row given (ascend_from names 0 variables)
    ∙ sym (members_from context names row 0 variables)))

-- one more column
pub columns_more : (names : List (List ℕ)) (place : ℕ) (variables : List ℕ) (variable : ℕ)
    → columns_from names place (variables ++ variable ∷ []) ≡ columns_from names place variables ++ record { name = name_of names variable; place = place + length variables } ∷ []
columns_more names place [] variable = λ i. record { name = name_of names variable; place = sym (plus_none place) i } ∷ []
  where
    plus_none : (n : ℕ) → n + 0 ≡ n
    plus_none n = omega arith
columns_more names place (first ∷ variables) variable =
    let next : (place + 1) + length variables ≡ place + suc (length variables) = omega arith in
    ap (λ (l : List ColumnValue). record { name = name_of names first; place = place } ∷ l)
    (columns_more names (place + 1) variables variable ∙ ap (λ (n : ℕ). columns_from names (place + 1) variables ++ record { name = name_of names variable; place = n } ∷ []) next)

pub columns_next : (names : List (List ℕ)) (variables : List ℕ) (place : ℕ) (column : ColumnValue) (old now : List ColumnValue) → place < length variables
    → column.name ≡ name_of names (get_or variables place 0) → column.place ≡ place → old ≡ columns_from names 0 (take place variables) → now ≡ old ++ column ∷ []
    → now ≡ columns_from names 0 (take (place + 1) variables)
columns_next names variables place column old now within named placed was is =
    let variable = get_or variables place 0 in
    let next_place : place + 1 ≡ suc place = omega arith in
    let next : take (place + 1) variables ≡ take place variables ++ variable ∷ [] = ap (λ (n : ℕ). take n variables) next_place ∙ take-suc variables place 0 within in
    let long : place ≡ 0 + length (take place variables) = omega (arith, length-take-le place variables (omega arith)) in
    is
    ∙ (λ i. was i ++ record { name = named i; place = (placed ∙ long) i } ∷ [])
    ∙ sym (columns_more names 0 (take place variables) variable)
    ∙ ap (columns_from names 0) (sym next)
