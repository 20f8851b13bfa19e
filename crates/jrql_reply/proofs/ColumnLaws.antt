-- Columns in the order of their names write the members of a row.
use Rattle.std.proofs.Common.{◌≡◌, ◌∙◌, ℕ, suc, ◌+◌, ◌<◌, ◌≤◌, List, [], ◌∷◌, Bool, true, false, Option, Some, None, length, drop, get_or, unwrap_or, refl, sym, ap, subst, inl, inr, ◌⊎◌, arith}
use Rattle.std.specs.Cmp.Lexicographic.{slice_cmp}
use Rattle.std.specs.List.{AllByRecursion}
use Rattle.std.specs.Ordering.{nat_cmp, is_lt, ordering_reverse, ordering_then, match_ordering}
use Rattle.std.specs.declared.cmp.Ordering.{Ordering}
use Rattle.std.specs.declared.cmp.Ordering.TheVariants.{Less, Equal, Greater}
use Rattle.std.proofs.lemmas.Bool.{cases_lt, true≢false}
use Rattle.std.proofs.lemmas.Cmp.{nat_list_cmp_total}
use Rattle.std.proofs.lemmas.Map.Lookups.{exact_bytes}
use Rattle.std.proofs.lemmas.Option.{slice_get-get_or, slice_get_past}
use Rattle.std.proofs.Math.ListN.{drop_of_length-le}
use Rattle.std.proofs.Math.Seq.{drop-cons}
use Rattle.serde_json.specs.Data.{Data, Members, no_members, member, put}
use Rattle.rdf_terms.specs.Literal.{is_same}
use Rattle.rdf_terms.specs.declared.terms.Term.{Term}
use Rattle.jsonld_context.specs.Context.{ContextValue}
use Rattle.jsonld_context.proofs.TextLaws.{same, itself}
use Rattle.jrql_patterns.specs.jsonld_values.TermWriting.{term_data}
use Rattle.jrql_reply.specs.AnswerText.{name_of, with_variable, row_members}
use Rattle.jrql_reply.specs.Columns.{ColumnValue, columns_from, column_cmp, value_at, is_last, member_or, members_by}

-- ---- members that are put

-- the order of names
abbrev name_cmp : List ℕ → List ℕ → Ordering
name_cmp = slice_cmp nat_cmp

name_itself : (name : List ℕ) → name_cmp name name ≡ Equal
name_itself name = by (name_cmp name name) refl
  where
    by : (o : Ordering) → name_cmp name name ≡ o → o ≡ Equal
    by Less is = let turned : Less ≡ Greater = sym is ∙ (nat_list_cmp_total.antisymm name name ∙ ap ordering_reverse is) in cc turned
    by Equal is = refl
    by Greater is = let turned : Greater ≡ Less = sym is ∙ (nat_list_cmp_total.antisymm name name ∙ ap ordering_reverse is) in cc turned

name_above : (low high : List ℕ) → name_cmp low high ≡ Less → name_cmp high low ≡ Greater
name_above low high less = nat_list_cmp_total.antisymm high low ∙ ap ordering_reverse less

-- where a value is put, by how its key stands to the first one
module _ (key : List ℕ) (value : Data) (first : List ℕ) (beside : Data) (rest : Members) where
  put_by : (order : Ordering) → name_cmp key first ≡ order
      → put key value (member first beside rest) ≡ match_ordering order (member key value (member first beside rest)) (member first value rest) (member first beside (put key value rest))
  put_by order is =
      ap (λ (o : Ordering). match_ordering o (member key value (member first beside rest)) (member first value rest) (member first beside (put key value rest))) is

  put_less : name_cmp key first ≡ Less → put key value (member first beside rest) ≡ member key value (member first beside rest)
  put_less = put_by Less

  put_equal : name_cmp key first ≡ Equal → put key value (member first beside rest) ≡ member first value rest
  put_equal = put_by Equal

  put_greater : name_cmp key first ≡ Greater → put key value (member first beside rest) ≡ member first beside (put key value rest)
  put_greater = put_by Greater

-- the later of two values under one key stands
put_again : (key : List ℕ) (value other : Data) (members : Members) → put key value (put key other members) ≡ put key value members
put_again key value other no_members = put_equal key value key other no_members (name_itself key)
put_again key value other (member first beside rest) = by (name_cmp key first) refl (put_again key value other rest)
  where
    by : (o : Ordering) → name_cmp key first ≡ o → put key value (put key other rest) ≡ put key value rest
        → put key value (put key other (member first beside rest)) ≡ put key value (member first beside rest)
    by Less is more =
        ap (put key value) (put_less key other first beside rest is)
        ∙ (put_equal key value key other (member first beside rest) (name_itself key) ∙ sym (put_less key value first beside rest is))
    by Equal is more =
        ap (put key value) (put_equal key other first beside rest is) ∙ (put_equal key value first other rest is ∙ sym (put_equal key value first beside rest is))
    by Greater is more =
        ap (put key value) (put_greater key other first beside rest is)
        ∙ (put_greater key value first beside (put key other rest) is ∙ (ap (member first beside) more ∙ sym (put_greater key value first beside rest is)))

-- values under two keys may be put in either order
module _ (low high : List ℕ) (value other : Data) (less : name_cmp low high ≡ Less) where
  above : name_cmp high low ≡ Greater
  above = name_above low high less

  put_apart : (members : Members) → put low value (put high other members) ≡ put high other (put low value members)
  put_apart no_members = put_less low value high other no_members less ∙ sym (put_greater high other low value no_members above)
  put_apart (member first beside rest) = by (name_cmp high first) (name_cmp low first) refl refl (put_apart rest)
    where
      by : (o p : Ordering) → name_cmp high first ≡ o → name_cmp low first ≡ p → put low value (put high other rest) ≡ put high other (put low value rest)
          → put low value (put high other (member first beside rest)) ≡ put high other (put low value (member first beside rest))
      by Less p is at more =
          let under : name_cmp low first ≡ Less = nat_list_cmp_total.trans low high first less is in
          ap (put low value) (put_less high other first beside rest is)
          ∙ (put_less low value high other (member first beside rest) less
          ∙ sym (ap (put high other) (put_less low value first beside rest under)
          ∙ (put_greater high other low value (member first beside rest) above ∙ ap (member low value) (put_less high other first beside rest is))))
      by Equal p is at more =
          let under : name_cmp low first ≡ Less = subst (λ (name : List ℕ). name_cmp low name ≡ Less) (exact_bytes high first is) less in
          ap (put low value) (put_equal high other first beside rest is)
          ∙ (put_less low value first other rest under
          ∙ sym (ap (put high other) (put_less low value first beside rest under)
          ∙ (put_greater high other low value (member first beside rest) above ∙ ap (member low value) (put_equal high other first beside rest is))))
      by Greater Less is at more =
          ap (put low value) (put_greater high other first beside rest is)
          ∙ (put_less low value first beside (put high other rest) at
          ∙ sym (ap (put high other) (put_less low value first beside rest at)
          ∙ (put_greater high other low value (member first beside rest) above ∙ ap (member low value) (put_greater high other first beside rest is))))
      by Greater Equal is at more =
          ap (put low value) (put_greater high other first beside rest is)
          ∙ (put_equal low value first beside (put high other rest) at
          ∙ sym (ap (put high other) (put_equal low value first beside rest at) ∙ put_greater high other first value rest is))
      by Greater Greater is at more =
          ap (put low value) (put_greater high other first beside rest is)
          ∙ (put_greater low value first beside (put high other rest) at
          ∙ (ap (member first beside) more
          ∙ sym (ap (put high other) (put_greater low value first beside rest at) ∙ put_greater high other first beside (put low value rest) is)))

-- ---- rows

-- the members of a row by columns in any order: each that is bound is put, from the last to the first
abbrev pub members_in : ContextValue → List (Option Term) → List ColumnValue → Members
members_in context row [] = no_members
members_in context row (column ∷ columns) = with_variable context column.name (value_at row column.place) (members_in context row columns)

none_left : (context : ContextValue) (names : List (List ℕ)) (variables : List ℕ) (row : List (Option Term)) → row ≡ [] → row_members context names variables row ≡ no_members
none_left context names [] row is = refl
none_left context names (variable ∷ variables) row is = ap (λ (r : List (Option Term)). row_members context names (variable ∷ variables) r) is

-- those of the columns from a place on are those of the row behind it
pub members_from : (context : ContextValue) (names : List (List ℕ)) (row : List (Option Term)) (place : ℕ) (variables : List ℕ)
    → row_members context names variables (drop place row) ≡ members_in context row (columns_from names place variables)
members_from context names row place [] = refl
members_from context names row place (variable ∷ variables) = by (cases_lt place (length row)) (members_from context names row (place + 1) variables)
  where
    by : (place < length row) ⊎ (length row ≤ place)
        → row_members context names variables (drop (place + 1) row) ≡ members_in context row (columns_from names (place + 1) variables)
        → row_members context names (variable ∷ variables) (drop place row)
        ≡ with_variable context (name_of names variable) (value_at row place) (members_in context row (columns_from names (place + 1) variables))
    by (inl within) rest =
        let value = get_or row place None in
        let next : suc place ≡ place + 1 = omega arith in
        let begins : drop place row ≡ value ∷ drop (place + 1) row = drop-cons row place None within ∙ ap (λ (n : ℕ). value ∷ drop n row) next in
        let found : value_at row place ≡ value = ap (λ (v : Option (Option Term)). unwrap_or v None) (slice_get-get_or row place None within) in
        ap (row_members context names (variable ∷ variables)) begins ∙ (λ i. with_variable context (name_of names variable) (sym found i) (rest i))
    by (inr past) rest =
        let none : drop place row ≡ [] = drop_of_length-le row past in
        let further : length row ≤ place + 1 = omega (arith, past) in
        let also : drop (place + 1) row ≡ [] = drop_of_length-le row further in
        let found : value_at row place ≡ None = ap (λ (v : Option (Option Term)). unwrap_or v None) (slice_get_past row place past) in
        none_left context names (variable ∷ variables) (drop place row) none
        ∙ (sym (none_left context names variables (drop (place + 1) row) also) ∙ (rest
        ∙ ap (λ (v : Option Term). with_variable context (name_of names variable) v (members_in context row (columns_from names (place + 1) variables))) (sym found)))

-- ---- columns in order

-- the order of columns, where it is a definite one
abbrev pub put_column : Ordering → ColumnValue → ColumnValue → List ColumnValue → List ColumnValue → List ColumnValue
put_column Less column first rest behind = column ∷ first ∷ rest
put_column Equal column first rest behind = column ∷ first ∷ rest
put_column Greater column first rest behind = first ∷ behind

-- a column among others in order
abbrev pub insert_column : ColumnValue → List ColumnValue → List ColumnValue
insert_column column [] = column ∷ []
insert_column column (first ∷ rest) = put_column (column_cmp column first) column first rest (insert_column column rest)

abbrev pub sort_columns : List ColumnValue → List ColumnValue
sort_columns [] = []
sort_columns (column ∷ columns) = insert_column column (sort_columns columns)

-- what all columns have, all have with one more
pub all_inserted : (P : ColumnValue → Type 0) (column : ColumnValue) (columns : List ColumnValue) → P column → AllByRecursion P columns → AllByRecursion P (insert_column column columns)
all_inserted P column [] one all = (one, tt)
all_inserted P column (first ∷ rest) one all = by (column_cmp column first) (all_inserted P column rest one all.1)
  where
    by : (o : Ordering) → AllByRecursion P (insert_column column rest) → AllByRecursion P (put_column o column first rest (insert_column column rest))
    by Less more = (one, all)
    by Equal more = (one, all)
    by Greater more = (all.0, more)

all_sorted : (P : ColumnValue → Type 0) (columns : List ColumnValue) → AllByRecursion P columns → AllByRecursion P (sort_columns columns)
all_sorted P [] all = tt
all_sorted P (column ∷ columns) all = all_inserted P column (sort_columns columns) all.0 (all_sorted P columns all.1)

-- columns that ascend by their places
abbrev pub AscendByPlace : List ColumnValue → Type 0
AscendByPlace [] = Unit {0}
AscendByPlace (column ∷ columns) = AllByRecursion (λ other. nat_cmp column.place other.place ≡ Less) columns × AscendByPlace columns

-- a column that stands behind another which has a later place has a greater name
name_behind : (column first : ColumnValue) → nat_cmp column.place first.place ≡ Less → column_cmp column first ≡ Greater → name_cmp first.name column.name ≡ Less
name_behind column first before order = nat_list_cmp_total.antisymm first.name column.name ∙ by (name_cmp column.name first.name) order
  where
    by : (o : Ordering) → ordering_then o (nat_cmp column.place first.place) ≡ Greater → ordering_reverse o ≡ Less
    by Less h = let e : Less ≡ Greater = h in cc e
    by Equal h = let e : Less ≡ Greater = sym before ∙ h in cc e
    by Greater h = refl

module _ (context : ContextValue) (row : List (Option Term)) where
  -- two columns of which the first has the lesser name may change places
  variables_apart : (low high : List ℕ) (value other : Option Term) (others : Members) → name_cmp low high ≡ Less
      → with_variable context low value (with_variable context high other others) ≡ with_variable context high other (with_variable context low value others)
  variables_apart low high None other others less = refl
  variables_apart low high (Some term) None others less = refl
  variables_apart low high (Some term) (Some another) others less = put_apart low high (term_data context term) (term_data context another) less others

  members_inserted : (column : ColumnValue) (columns : List ColumnValue) → AllByRecursion (λ other. nat_cmp column.place other.place ≡ Less) columns
      → members_in context row (insert_column column columns) ≡ with_variable context column.name (value_at row column.place) (members_in context row columns)
  members_inserted column [] before = refl
  members_inserted column (first ∷ rest) before = by (column_cmp column first) refl (members_inserted column rest before.1)
    where
      by : (o : Ordering) → column_cmp column first ≡ o
          → members_in context row (insert_column column rest) ≡ with_variable context column.name (value_at row column.place) (members_in context row rest)
          → members_in context row (put_column o column first rest (insert_column column rest))
          ≡ with_variable context column.name (value_at row column.place) (members_in context row (first ∷ rest))
      by Less is more = refl
      by Equal is more = refl
      by Greater is more =
          ap (with_variable context first.name (value_at row first.place)) more
          ∙ variables_apart first.name column.name (value_at row first.place) (value_at row column.place) (members_in context row rest) (name_behind column first before.0 is)

  pub members_sorted : (columns : List ColumnValue) → AscendByPlace columns → members_in context row (sort_columns columns) ≡ members_in context row columns
  members_sorted [] ascend = refl
  members_sorted (column ∷ columns) ascend =
      members_inserted column (sort_columns columns) (all_sorted (λ other. nat_cmp column.place other.place ≡ Less) columns ascend.0)
      ∙ ap (with_variable context column.name (value_at row column.place)) (members_sorted columns ascend.1)

  -- ---- what is written by columns in order

  -- no column's name is below this one
  abbrev pub NamesFrom : List ℕ → List ColumnValue → Type 0
  NamesFrom name columns = AllByRecursion (λ column. is_lt (name_cmp column.name name) ≡ false) columns

  -- nor below those of columns before it
  abbrev pub NamesAscend : List ColumnValue → Type 0
  NamesAscend [] = Unit {0}
  NamesAscend (column ∷ columns) = NamesFrom column.name columns × NamesAscend columns

  name_next : (name other : List ℕ) → is_lt (name_cmp other name) ≡ false → is_same other name ≡ false → name_cmp name other ≡ Less
  name_next name other order apart = nat_list_cmp_total.antisymm name other ∙ by (name_cmp other name) refl order
    where
      by : (o : Ordering) → name_cmp other name ≡ o → is_lt o ≡ false → ordering_reverse o ≡ Less
      by Less is h = absurd (true≢false h)
      by Equal is h = absurd (true≢false (sym (subst (λ (text : List ℕ). is_same other text ≡ true) (exact_bytes other name is) (itself other)) ∙ apart))
      by Greater is h = refl

  -- behind a member of a name the columns write what putting that member gives
  behind_name : (name : List ℕ) (value : Data) (columns : List ColumnValue) → NamesFrom name columns → NamesAscend columns
      → member name value (members_by context row (Some name) columns) ≡ put name value (members_in context row columns)
  behind_name name value [] from ascend = refl
  behind_name name value (column ∷ columns) from ascend =
      by (value_at row column.place) (is_same column.name name) refl (behind_name name value columns from.1 ascend.1) (λ own. behind_name column.name own columns ascend.0 ascend.1)
    where
      by : (found : Option Term) (again : Bool) → is_same column.name name ≡ again
          → member name value (members_by context row (Some name) columns) ≡ put name value (members_in context row columns)
          → ((own : Data) → member column.name own (members_by context row (Some column.name) columns) ≡ put column.name own (members_in context row columns))
          → member name value (member_or context column.name found again (members_by context row (Some column.name) columns) (members_by context row (Some name) columns))
          ≡ put name value (with_variable context column.name found (members_in context row columns))
      by None again is more written = more
      by (Some term) true is more written =
          more
          ∙ (sym (put_again name value (term_data context term) (members_in context row columns))
          ∙ ap (λ (key : List ℕ). put name value (put key (term_data context term) (members_in context row columns))) (sym (same column.name name is)))
      by (Some term) false is more written =
          let less : name_cmp name column.name ≡ Less = name_next name column.name from.0 is in
          sym (put_less name value column.name (term_data context term) (members_by context row (Some column.name) columns) less)
          ∙ ap (put name value) (written (term_data context term))

  pub all_by : (columns : List ColumnValue) → NamesAscend columns → members_by context row None columns ≡ members_in context row columns
  all_by [] ascend = refl
  all_by (column ∷ columns) ascend = by (value_at row column.place) (all_by columns ascend.1)
    where
      by : (found : Option Term) → members_by context row None columns ≡ members_in context row columns
          → member_or context column.name found false (members_by context row (Some column.name) columns) (members_by context row None columns)
          ≡ with_variable context column.name found (members_in context row columns)
      by None more = more
      by (Some term) more = behind_name column.name (term_data context term) columns ascend.0 ascend.1

-- ---- one column

module _ (context : ContextValue) (row : List (Option Term)) (column : ColumnValue) (last : Option (List ℕ)) (behind : List ColumnValue) where
  -- one that is unbound, or whose name was the last one, isn't written
  pub unbound : value_at row column.place ≡ None → members_by context row last (column ∷ behind) ≡ members_by context row last behind
  unbound is =
      ap (λ (found : Option Term). member_or context column.name found (is_last last column.name) (members_by context row (Some column.name) behind) (members_by context row last behind)) is

  pub again : is_last last column.name ≡ true → members_by context row last (column ∷ behind) ≡ members_by context row last behind
  again is =
      ap (λ (b : Bool). member_or context column.name (value_at row column.place) b (members_by context row (Some column.name) behind) (members_by context row last behind)) is
      ∙ by (value_at row column.place)
    where
      by : (found : Option Term) → member_or context column.name found true (members_by context row (Some column.name) behind) (members_by context row last behind) ≡ members_by context row last behind
      by None = refl
      by (Some term) = refl

  -- any other is
  pub bound : (term : Term) → value_at row column.place ≡ Some term → is_last last column.name ≡ false
      → members_by context row last (column ∷ behind) ≡ member column.name (term_data context term) (members_by context row (Some column.name) behind)
  bound term is new =
      λ i. member_or context column.name (is i) (new i) (members_by context row (Some column.name) behind) (members_by context row last behind)
