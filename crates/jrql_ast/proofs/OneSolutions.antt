-- A graph and a group have one list of solutions.
use Rattle.std.proofs.Common.{◌≡◌, ◌∙◌, ℕ, zero, suc, ◌+◌, ◌<◌, ◌≤◌, ◌≢◌, List, [], ◌∷◌, ◌++◌, Bool, true, false, cond, All, AllPairs, Contains, Option, None, Some, length, get_or, drop, filter, flat_map, replicate, refl, sym, ap, subst, inl, inr, length-append, arith}
use Rattle.std.specs.Cmp.Lexicographic.{slice_cmp, nat_list_cmp_total}
use Rattle.std.specs.List.{AllByRecursion, range_with_len}
use Rattle.std.specs.Ordering.{nat_cmp}
use Rattle.std.specs.declared.cmp.Ordering.{Ordering}
use Rattle.std.specs.declared.cmp.Ordering.TheVariants.{Equal}
use Rattle.std.proofs.lemmas.Bool.{cases_order, cases_lt}
use Rattle.std.proofs.lemmas.Cmp.{on_total}
use Rattle.std.proofs.lemmas.List.Sorted.{Contains-permutation}
use Rattle.std.proofs.lemmas.Map.Lookups.{exact_bytes}
use Rattle.rdf_terms.specs.declared.terms.Term.{Term}
use Rattle.rdf_terms.specs.declared.terms.Triple.{Triple}
use Rattle.jrql_ast.specs.declared.patterns.Group.{Group}
use Rattle.jrql_ast.specs.declared.patterns.PatternTriple.{PatternTriple}
use Rattle.jrql_ast.specs.InForm.{IsGroupInForm, variables_of}
use Rattle.jrql_ast.specs.QueryAnswers.{AreColumns, IsSolutions, IsSortingOf, found, place_cmp, project, row_cmp}
use Rattle.jrql_ast.specs.Solutions.{agree, branches_of, joined_rows, matches_from, unbound, value_of}
use Rattle.jrql_ast.proofs.BoundSlots.{agree_length}
use Rattle.jrql_ast.proofs.OneAnswer.{exact_list, exact_place, values_total}
use Rattle.jrql_ast.proofs.Rearranging.{each_of, flat_map_filter_map}
use Rattle.jrql_ast.proofs.Sortings.{one_sorting}

-- from elements to places
to_places : {X : Type 0} (P : X → Type 0) (xs : List X) → AllByRecursion P xs → All P xs
to_places P [] all k d l = absurd (omega (arith, l))
to_places P (x ∷ xs) all zero d l = all.0
to_places P (x ∷ xs) all (suc k) d l = to_places P xs all.1 k d (omega (arith, l))

all_append : {X : Type 0} (P : X → Type 0) (xs ys : List X) → AllByRecursion P xs → AllByRecursion P ys → AllByRecursion P (xs ++ ys)
all_append P [] ys a b = b
all_append P (x ∷ xs) ys a b = (a.0, all_append P xs ys a.1 b)

all_flat_map : {X Y : Type 0} (P : Y → Type 0) (f : X → List Y) (xs : List X) → ((x : X) → AllByRecursion P (f x)) → AllByRecursion P (flat_map f xs)
all_flat_map P f [] each = tt
all_flat_map P f (x ∷ xs) each = all_append P (f x) (flat_map f xs) (each x) (all_flat_map P f xs each)

all_filter : {X : Type 0} (P : X → Type 0) (p : X → Bool) (xs : List X) → AllByRecursion P xs → AllByRecursion P (filter p xs)
all_filter P p [] all = tt
all_filter P p (x ∷ xs) all = by (p x) (all_filter P p xs all.1)
  where
    by : (b : Bool) → AllByRecursion P (filter p xs) → AllByRecursion P (cond b (x ∷ filter p xs) (filter p xs))
    by true r = (all.0, r)
    by false r = r

-- each row has a place for each variable
abbrev IsOfLength : ℕ → List (Option Term) → Type 0
IsOfLength n row = length row ≡ n

matches_long : (graph : List Triple) (n : ℕ) (patterns : List PatternTriple) (row : List (Option Term)) → length row ≡ n → AllByRecursion (IsOfLength n) (matches_from graph patterns row)
matches_long graph n [] row e = (e, tt)
matches_long graph n (pattern ∷ patterns) row e =
    subst (AllByRecursion (IsOfLength n)) (sym (flat_map_filter_map (matches_from graph patterns) (λ triple. agree pattern triple row) graph))
    (all_flat_map (IsOfLength n) (λ triple. each_of (matches_from graph patterns) (agree pattern triple row)) graph
    (λ triple. one_long graph n patterns (agree pattern triple row) (λ next h. matches_long graph n patterns next (agree_length pattern triple row next h ∙ e))))
  where
    one_long : (graph : List Triple) (n : ℕ) (patterns : List PatternTriple) (o : Option (List (Option Term)))
        → ((next : List (Option Term)) → o ≡ Some next → AllByRecursion (IsOfLength n) (matches_from graph patterns next)) → AllByRecursion (IsOfLength n) (each_of (matches_from graph patterns) o)
    one_long graph n patterns None h = tt
    one_long graph n patterns (Some next) h = h next refl

length_of_nones : (n : ℕ) → length (replicate {A = Option Term} n None) ≡ n
length_of_nones zero = refl
length_of_nones (suc n) = ap suc (length_of_nones n)

pub found_long : (graph : List Triple) (group : Group) → All (λ row. length row ≡ variables_of group) (found graph group)
found_long graph group =
    to_places (IsOfLength (variables_of group)) (found graph group)
    (all_filter (IsOfLength (variables_of group)) _ (joined_rows graph group)
    (all_flat_map (IsOfLength (variables_of group)) (λ branch. matches_from graph (group.patterns ++ branch) (unbound group)) (branches_of group.branches)
    (λ branch. matches_long graph (variables_of group) (group.patterns ++ branch) (unbound group) (length_of_nones (variables_of group)))))

-- the numbers of a range
range_contains : (first n v : ℕ) → first ≤ v → v < first + n → Contains (range_with_len first n) v
range_contains first zero v l h = absurd (omega (arith, l, h))
range_contains first (suc n) v l h = elim (cases_lt first v) [
  | inl less ↦ (let c = range_contains (first + 1) n v (omega (arith, less)) (omega (arith, h)) in (suc c.0, omega (arith, c.1), c.2))
  | inr same ↦ (0, omega arith, let e : first ≡ v = omega (arith, l, same) in e)
]

range_below : (first n most : ℕ) → first + n ≤ most → AllByRecursion (λ v. v < most) (range_with_len first n)
range_below first zero most h = tt
range_below first (suc n) most h = (omega (arith, h), range_below (first + 1) n most (omega (arith, h)))

contains_left : (xs ys : List ℕ) (v : ℕ) → Contains xs v → Contains (xs ++ ys) v
contains_left xs ys v c = (c.0, (let h = c.1 in let e = length-append xs ys in omega (arith, h, e)), left xs ys v c.0 c.1 ∙ c.2)
  where
    left : (xs ys : List ℕ) (d k : ℕ) → k < length xs → get_or (xs ++ ys) k d ≡ get_or xs k d
    left [] ys d k h = absurd (omega (arith, h))
    left (x ∷ xs) ys d zero h = refl
    left (x ∷ xs) ys d (suc k) h = left xs ys d k (omega (arith, h))

contains_right : (xs ys : List ℕ) (v : ℕ) → Contains ys v → Contains (xs ++ ys) v
contains_right [] ys v c = c
contains_right (x ∷ xs) ys v c = let r = contains_right xs ys v c in (suc r.0, (let h = r.1 in omega (arith, h)), r.2)

-- the columns have each variable
columns_have : (group : Group) (columns : List ℕ) → AreColumns group columns → (v : ℕ) → v < variables_of group → Contains columns v
columns_have group columns are v h =
    subst (λ l. Contains l v) (sym are.whole) (elim (cases_lt v (length group.names)) [
      | inl named ↦ contains_left are.named _ v (Contains-permutation (range_with_len 0 (length group.names)) are.named v are.by_name.same (range_contains 0 (length group.names) v (omega arith) (omega (arith, named))))
      | inr hidden ↦ contains_right are.named _ v (range_contains (length group.names) group.hidden v hidden h)
    ])

-- rows that have the same for them are one
projected : (variables : List ℕ) (k v : ℕ) (x y : List (Option Term)) → k < length variables → get_or variables k v ≡ v → project variables x ≡ project variables y → value_of v x ≡ value_of v y
projected [] k v x y l is e = absurd (omega (arith, l))
projected (w ∷ variables) zero v x y l is e = subst (λ z. value_of z x ≡ value_of z y) is (ap (λ l. get_or l 0 None) e)
projected (w ∷ variables) (suc k) v x y l is e = projected variables k v x y (omega (arith, l)) is (ap (λ l. drop 1 l) e)

same_rows : (x y : List (Option Term)) → length x ≡ length y → ((v : ℕ) → v < length x → value_of v x ≡ value_of v y) → x ≡ y
same_rows [] [] e h = refl
same_rows [] (b ∷ y) e h = absurd (omega (arith, e))
same_rows (a ∷ x) [] e h = absurd (omega (arith, e))
same_rows (a ∷ x) (b ∷ y) e h = let first = h 0 (omega arith) in let others = same_rows x y (omega (arith, e)) (λ v l. h (suc v) (omega (arith, l))) in λ i. first i ∷ others i

rows_apart : (group : Group) (columns : List ℕ) → AreColumns group columns → (x y : List (Option Term)) → length x ≡ variables_of group → length y ≡ variables_of group
    → row_cmp columns x y ≡ Equal → x ≡ y
rows_apart group columns are x y ex ey h =
    let same = exact_list place_cmp exact_place (project columns x) (project columns y) h in
    same_rows x y (ex ∙ sym ey) (λ v l. let c = columns_have group columns are v (let e = ex in omega (arith, l, e)) in projected columns c.0 v x y c.1 c.2 same)

-- names that differ tell their numbers apart
abbrev by_name_cmp : List (List ℕ) → ℕ → ℕ → Ordering
by_name_cmp names left right = slice_cmp nat_cmp (get_or names left []) (get_or names right [])

names_apart : (names : List (List ℕ)) → AllPairs (λ name other. name ≢ other) names → (v w : ℕ) → v < length names → w < length names → by_name_cmp names v w ≡ Equal → v ≡ w
names_apart names differ v w l m h =
    let e = exact_bytes (get_or names v []) (get_or names w []) h in
    elim (cases_order v w) [
      | inl same ↦ same
      | inr other ↦ elim other [
        | inl below ↦ absurd (differ v w [] below m e)
        | inr above ↦ absurd (differ w v [] above l (sym e))
      ]
    ]

one_columns : (group : Group) (columns others : List ℕ) → IsGroupInForm group → AreColumns group columns → AreColumns group others → columns ≡ others
one_columns group columns others form are also =
    are.whole ∙ ap (λ l. l ++ range_with_len (length group.names) group.hidden) (one_sorting (by_name_cmp group.names) (on_total (λ v. get_or group.names v []) nat_list_cmp_total)
    (λ v. v < length group.names) (λ v w. names_apart group.names form.differ v w) (range_with_len 0 (length group.names)) are.named also.named
    (to_places (λ v. v < length group.names) (range_with_len 0 (length group.names)) (range_below 0 (length group.names) (length group.names) (omega arith))) are.by_name also.by_name) ∙ sym also.whole

pub one_solutions : (graph : List Triple) (group : Group) (rows others : List (List (Option Term))) → IsGroupInForm group → IsSolutions graph group rows → IsSolutions graph group others → rows ≡ others
one_solutions graph group rows others form s t =
    let e = one_columns group t.columns s.columns form t.by_columns s.by_columns in
    one_sorting (row_cmp s.columns) (on_total (project s.columns) values_total) (λ row. length row ≡ variables_of group) (rows_apart group s.columns s.by_columns)
    (found graph group) rows others (found_long graph group) s.sorted (subst (λ columns. IsSortingOf (row_cmp columns) (found graph group) others) e t.sorted)
