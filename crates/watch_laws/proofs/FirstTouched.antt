-- The rows that are sought are found by putting one changed triple for one pattern: each row once, at the first pattern that is changed.
use Rattle.std.proofs.Common.{◌≡◌, ◌∙◌, ℕ, ◌+◌, ◌≤◌, List, [], ◌∷◌, ◌++◌, length, map, replicate, Bool, true, false, not, ◌&&◌, ◌||◌, Option, None, Some, filter, flat_map, refl, sym, ap, subst, inl, inr, length-append, arith}
use Rattle.std.specs.List.{AllByRecursion, list_any}
use Rattle.std.specs.List.Sorted.{IsPermutation}
use Rattle.std.specs.Option.{option_map_or}
use Rattle.std.proofs.lemmas.List.{length-replicate}
use Rattle.std.proofs.lemmas.List.Sorted.{IsPermutation-refl, IsPermutation-trans, IsPermutation-middle, IsPermutation-append, IsPermutation-filter_both, length_permutation}
use Rattle.rdf_terms.specs.declared.terms.Term.{Term}
use Rattle.rdf_terms.specs.declared.terms.Triple.{Triple}
use Rattle.tree_clock.specs.Lists.{Has}
use Rattle.jrql_ast.specs.declared.patterns.Filter.{Filter}
use Rattle.jrql_ast.specs.declared.patterns.Group.{Group}
use Rattle.jrql_ast.specs.declared.patterns.PatternTriple.{PatternTriple}
use Rattle.jrql_ast.specs.InForm.{IsPatternWithin, variables_of}
use Rattle.jrql_ast.specs.QueryAnswers.{found}
use Rattle.jrql_ast.specs.Solutions.{agree, branches_of, matches_from}
use Rattle.jrql_ast.proofs.Permuted.{matches_permuted}
use Rattle.jrql_ast.proofs.Rearranging.{each_of, filter_permutes, flat_map_filter_map, flat_map_none, flat_map_permutes, flat_map_same, flat_map_split, same_list}
use Rattle.watch_laws.specs.Touched.{instance_in, is_one_of, is_touched, are_touched, is_sought, passes, sought_in, sought, found_behind}
use Rattle.reply_rows.proofs.Filtered.{filter_alike, filter_append, filter_flat_map, filter_none, filter_parted, filter_twice, filters_turned, all_front, all_back}
use Rattle.watch_laws.proofs.Untouched.{AreWithin, are_untouched, by_first, is_none_of, untouched_match}

-- ---- one pattern after another

-- none of the patterns before is changed, and this one is, or one of the rest
abbrev pub is_first_touched : List Triple → List PatternTriple → PatternTriple → List (Option Term) → Bool
is_first_touched triples before pattern row = not (are_touched triples before row) && is_touched triples row pattern

abbrev pub touched_from : List Triple → List PatternTriple → List PatternTriple → List (Option Term) → Bool
touched_from triples before rest row = not (are_touched triples before row) && are_touched triples rest row

any_behind : {X : Type 0} (p : X → Bool) (xs : List X) (x : X) → list_any p (xs ++ x ∷ []) ≡ (list_any p xs || p x)
any_behind p [] x = by (p x)
  where
    by : (b : Bool) → (b || false) ≡ b
    by true = refl
    by false = refl
any_behind {X} p (y ∷ xs) x = ap (λ b. p y || b) (any_behind p xs x) ∙ by (p y) (list_any p xs) (p x)
  where
    by : (b c d : Bool) → (b || (c || d)) ≡ ((b || c) || d)
    by true c d = refl
    by false c d = refl

either_first : (b c d e : Bool) → e ≡ (b || c) → ((not b && (c || d)) ≡ ((not b && c) || (not e && d))) × (((not b && c) && (not e && d)) ≡ false)
either_first true c d e h = (sym (ap (λ z. not z && d) h), refl)
either_first false true d e h = (refl, ap (λ z. not z && d) h)
either_first false false d e h = (sym (ap (λ z. not z && d) h), refl)

pub one_more : (triples : List Triple) (before rest : List PatternTriple) (pattern : PatternTriple) (rows : List (List (Option Term)))
    → IsPermutation (filter (touched_from triples before (pattern ∷ rest)) rows)
    (filter (is_first_touched triples before pattern) rows ++ filter (touched_from triples (before ++ pattern ∷ []) rest) rows)
one_more triples before rest pattern rows =
    filter_parted (touched_from triples before (pattern ∷ rest)) (is_first_touched triples before pattern) (touched_from triples (before ++ pattern ∷ []) rest)
    (λ row. either_first (are_touched triples before row) (is_touched triples row pattern) (are_touched triples rest row) (are_touched triples (before ++ pattern ∷ []) row)
    (any_behind (is_touched triples row) before pattern)) rows

-- ---- the rows for one pattern that is a changed triple

turned : (b c : Bool) → (b && c) ≡ (c && b)
turned true true = refl
turned true false = refl
turned false true = refl
turned false false = refl

first_divides : (triples : List Triple) (before : List PatternTriple) (pattern : PatternTriple) (triple : Triple) (row : List (Option Term)) → instance_in pattern row ≡ Some triple
    → is_first_touched triples before pattern row ≡ (is_one_of triples triple && are_untouched triples before row)
first_divides triples before pattern triple row e =
    ap (λ o. not (are_touched triples before row) && option_map_or (is_one_of triples) o false) e
    ∙ turned (not (are_touched triples before row)) (is_one_of triples triple)

module _ (graph triples spared : List Triple) (filters : List Filter) where
  -- what is kept of rows
  abbrev pub kept_of : List PatternTriple → List (List (Option Term)) → List (List (Option Term))
  kept_of patterns rows = filter (passes filters) (filter (are_untouched spared patterns) rows)

  kept_each : (patterns before others : List PatternTriple) (o : Option (List (Option Term)))
      → kept_of patterns (each_of (λ next. filter (are_untouched triples before) (matches_from graph others next)) o) ≡ found_behind graph filters triples spared before patterns others o
  kept_each patterns before others None = refl
  kept_each patterns before others (Some next) =
      let rows = matches_from graph others next in
      ap (filter (passes filters)) (filter_twice (are_untouched spared patterns) (are_untouched triples before) rows)
      ∙ filters_turned (passes filters) (λ row. are_untouched triples before row && are_untouched spared patterns row) rows

  pub part_is : (before rest : List PatternTriple) (pattern : PatternTriple) (row : List (Option Term)) → IsPatternWithin (length row) 0 pattern → filter (is_one_of triples) graph ≡ triples
      → IsPermutation (kept_of (before ++ pattern ∷ rest) (filter (is_first_touched triples before pattern) (matches_from graph (before ++ pattern ∷ rest) row)))
      (flat_map (λ triple. found_behind graph filters triples spared before (before ++ pattern ∷ rest) (before ++ rest) (agree pattern triple row)) triples)
  part_is before rest pattern row within are =
      let patterns = before ++ pattern ∷ rest in
      let behind = λ (triple : Triple). each_of (λ next. filter (are_untouched triples before) (matches_from graph (before ++ rest) next)) (agree pattern triple row) in
      let moved = filter_permutes (is_first_touched triples before pattern) _ _
      (matches_permuted graph patterns (pattern ∷ (before ++ rest)) (IsPermutation-middle before pattern rest) row) in
      let first = by_first graph pattern (before ++ rest) (is_first_touched triples before pattern) (is_one_of triples) (are_untouched triples before)
      (first_divides triples before pattern) row within ∙ ap (flat_map behind) are in
      let kept = ap (filter (passes filters)) (filter_flat_map (are_untouched spared patterns) behind triples)
      ∙ filter_flat_map (passes filters) (λ triple. filter (are_untouched spared patterns) (behind triple)) triples
      ∙ flat_map_same _ _ (λ triple. kept_each patterns before (before ++ rest) (agree pattern triple row)) triples in
      subst (IsPermutation _) (ap (kept_of patterns) first ∙ kept) (filter_permutes (passes filters) _ _ (filter_permutes (are_untouched spared patterns) _ _ moved))

  -- what is left, at the start and at the end
  pub sought_from_start : (n : ℕ) (patterns : List PatternTriple)
      → kept_of patterns (filter (touched_from triples [] patterns) (matches_from graph patterns (replicate n None))) ≡ sought_in graph n filters triples spared patterns
  sought_from_start n patterns =
      ap (filter (passes filters)) (filter_twice (are_untouched spared patterns) (are_touched triples patterns) (matches_from graph patterns (replicate n None)))

  pub none_left : (patterns before : List PatternTriple) (rows : List (List (Option Term))) → kept_of patterns (filter (touched_from triples before []) rows) ≡ []
  none_left patterns before rows =
      ap (kept_of patterns) (filter_none (touched_from triples before []) (λ row. by (not (are_touched triples before row))) rows)
    where
      by : (b : Bool) → (b && false) ≡ false
      by true = refl
      by false = refl

  pub one_more_kept : (patterns before rest : List PatternTriple) (pattern : PatternTriple) (rows : List (List (Option Term)))
      → IsPermutation (kept_of patterns (filter (touched_from triples before (pattern ∷ rest)) rows))
      (kept_of patterns (filter (is_first_touched triples before pattern) rows) ++ kept_of patterns (filter (touched_from triples (before ++ pattern ∷ []) rest) rows))
  one_more_kept patterns before rest pattern rows =
      subst (IsPermutation (kept_of patterns (filter (touched_from triples before (pattern ∷ rest)) rows)))
      (ap (filter (passes filters)) (filter_append (are_untouched spared patterns) _ _) ∙ filter_append (passes filters) _ _)
      (filter_permutes (passes filters) _ _ (filter_permutes (are_untouched spared patterns) _ _ (one_more triples before rest pattern rows)))

-- ---- none of the rows for one triple are too many, where the whole aren't

-- the list for a member is no longer than those for all
pub member_shorter : {X A : Type 0} (f : X → List A) (xs : List X) (x : X) → Has xs x → length (f x) ≤ length (flat_map f xs)
member_shorter f [] x h = absurd h
member_shorter f (y ∷ xs) x (inl e) =
    subst (λ z. length (f z) ≤ length (f y ++ flat_map f xs)) e (let l = length-append (f y) (flat_map f xs) in omega (arith, l))
member_shorter f (y ∷ xs) x (inr h) =
    let l = length-append (f y) (flat_map f xs) in
    let m = member_shorter f xs x h in
    omega (arith, l, m)

pub part_shorter : (graph : List Triple) (filters : List Filter) (before rest : List PatternTriple) (pattern : PatternTriple) (triple : Triple) (row next : List (Option Term))
    → Has graph triple → agree pattern triple row ≡ Some next
    → length (filter (passes filters) (matches_from graph (before ++ rest) next)) ≤ length (filter (passes filters) (matches_from graph (before ++ pattern ∷ rest) row))
part_shorter graph filters before rest pattern triple row next there e =
    let f = λ (t : Triple). filter (passes filters) (each_of (matches_from graph (before ++ rest)) (agree pattern t row)) in
    let moved = filter_permutes (passes filters) _ _ (matches_permuted graph (before ++ pattern ∷ rest) (pattern ∷ (before ++ rest)) (IsPermutation-middle before pattern rest) row) in
    let l = length_permutation _ _ moved in
    let w = ap (filter (passes filters)) (flat_map_filter_map (matches_from graph (before ++ rest)) (λ t. agree pattern t row) graph)
    ∙ filter_flat_map (passes filters) (λ t. each_of (matches_from graph (before ++ rest)) (agree pattern t row)) graph in
    subst (λ k. length (filter (passes filters) (matches_from graph (before ++ rest) next)) ≤ k) (sym (ap length w) ∙ l)
    (subst (λ o. length (filter (passes filters) (each_of (matches_from graph (before ++ rest)) o)) ≤ length (flat_map f graph)) e (member_shorter f graph triple there))

-- ---- whole groups

pub found_each : (graph : List Triple) (group : Group)
    → found graph group ≡ flat_map (λ branch. filter (passes group.filters) (matches_from graph (group.patterns ++ branch) (replicate (variables_of group) None))) (branches_of group.branches)
found_each graph group =
    filter_flat_map (passes group.filters) (λ branch. matches_from graph (group.patterns ++ branch) (replicate (variables_of group) None)) (branches_of group.branches)

-- none of no triples
pub spares_all : (patterns : List PatternTriple) (row : List (Option Term)) → are_touched [] patterns row ≡ false
spares_all [] row = refl
spares_all (pattern ∷ patterns) row = ap (λ b. b || are_touched [] patterns row) (by (instance_in pattern row)) ∙ spares_all patterns row
  where
    by : (o : Option Triple) → option_map_or (is_one_of []) o false ≡ false
    by None = refl
    by (Some triple) = refl

sought_all : (triples : List Triple) (patterns : List PatternTriple) (row : List (Option Term)) → is_sought triples [] patterns row ≡ are_touched triples patterns row
sought_all triples patterns row = ap (λ b. are_touched triples patterns row && not b) (spares_all patterns row) ∙ by (are_touched triples patterns row)
  where
    by : (b : Bool) → (b && true) ≡ b
    by true = refl
    by false = refl

-- each branch of a group is within its variables
abbrev pub AreAllWithin : Group → Type 0
AreAllWithin group = (branch : List PatternTriple) → Has (branches_of group.branches) branch → AreWithin (variables_of group) (group.patterns ++ branch)

not_not : (b : Bool) → b ≡ not (not b)
not_not true = refl
not_not false = refl

branch_parted : (graph triples : List Triple) (n : ℕ) (filters : List Filter) (patterns : List PatternTriple) → AreWithin n patterns
    → IsPermutation (filter (passes filters) (matches_from graph patterns (replicate n None)))
    (filter (passes filters) (matches_from (filter (is_none_of triples) graph) patterns (replicate n None)) ++ sought_in graph n filters triples [] patterns)
branch_parted graph triples n filters patterns within =
    let rows = matches_from graph patterns (replicate n None) in
    let stay = untouched_match graph triples n patterns (replicate n None) (length-replicate n None) within in
    let go = filter_alike (is_sought triples [] patterns) (are_touched triples patterns) (sought_all triples patterns) rows in
    subst (IsPermutation (filter (passes filters) rows))
    (filter_append (passes filters) _ _ ∙ (λ i. filter (passes filters) (stay i) ++ filter (passes filters) (sym go i)))
    (filter_permutes (passes filters) _ _ (IsPermutation-filter_both (are_untouched triples patterns) (are_touched triples patterns) (λ row. not_not (are_touched triples patterns row)) rows))

-- lists for the elements of a list that are permutations
module _ {X A : Type 0} (f g : X → List A) where
  pub flat_map_permutes_there : (xs : List X) → ((x : X) → Has xs x → IsPermutation (f x) (g x)) → IsPermutation (flat_map f xs) (flat_map g xs)
  flat_map_permutes_there [] each = IsPermutation-refl []
  flat_map_permutes_there (x ∷ xs) each = IsPermutation-append (f x) (g x) (flat_map f xs) (flat_map g xs) (each x (inl refl)) (flat_map_permutes_there xs (λ y h. each y (inr h)))

  pub flat_map_same_there : (xs : List X) → ((x : X) → Has xs x → f x ≡ g x) → flat_map f xs ≡ flat_map g xs
  flat_map_same_there [] each = refl
  flat_map_same_there (x ∷ xs) each = λ i. each x (inl refl) i ++ flat_map_same_there xs (λ y h. each y (inr h)) i

-- the solutions over a list of triples are those over the triples that stay, and those that are sought for the ones that go
pub found_parted : (graph triples : List Triple) (group : Group) → AreAllWithin group
    → IsPermutation (found graph group) (found (filter (is_none_of triples) graph) group ++ sought graph group triples [])
found_parted graph triples group within =
    let n = variables_of group in
    let whole = λ (branch : List PatternTriple). filter (passes group.filters) (matches_from graph (group.patterns ++ branch) (replicate n None)) in
    let stays = λ (branch : List PatternTriple). filter (passes group.filters) (matches_from (filter (is_none_of triples) graph) (group.patterns ++ branch) (replicate n None)) in
    let goes = λ (branch : List PatternTriple). sought_in graph n group.filters triples [] (group.patterns ++ branch) in
    let parts = IsPermutation-trans _ _ _
    (flat_map_permutes_there whole (λ branch. stays branch ++ goes branch) (branches_of group.branches)
    (λ branch h. branch_parted graph triples n group.filters (group.patterns ++ branch) (within branch h)))
    (flat_map_split stays goes (branches_of group.branches)) in
    subst (λ l. IsPermutation l (found (filter (is_none_of triples) graph) group ++ sought graph group triples [])) (sym (found_each graph group))
    (subst (λ l. IsPermutation (flat_map whole (branches_of group.branches)) (l ++ sought graph group triples [])) (sym (found_each (filter (is_none_of triples) graph) group)) parts)

-- to spare triples is to look without them
sought_in_without : (graph triples spared : List Triple) (n : ℕ) (filters : List Filter) (patterns : List PatternTriple) → AreWithin n patterns
    → sought_in graph n filters triples spared patterns ≡ sought_in (filter (is_none_of spared) graph) n filters triples [] patterns
sought_in_without graph triples spared n filters patterns within =
    let rows = matches_from graph patterns (replicate n None) in
    let stay = untouched_match graph spared n patterns (replicate n None) (length-replicate n None) within in
    ap (filter (passes filters))
    (sym (filter_twice (are_untouched spared patterns) (are_touched triples patterns) rows)
    ∙ filters_turned (are_untouched spared patterns) (are_touched triples patterns) rows
    ∙ ap (filter (are_touched triples patterns)) stay
    ∙ sym (filter_alike (is_sought triples [] patterns) (are_touched triples patterns) (sought_all triples patterns) (matches_from (filter (is_none_of spared) graph) patterns (replicate n None))))

pub sought_without : (graph triples spared : List Triple) (group : Group) → AreAllWithin group
    → sought graph group triples spared ≡ sought (filter (is_none_of spared) graph) group triples []
sought_without graph triples spared group within =
    flat_map_same_there (λ branch. sought_in graph (variables_of group) group.filters triples spared (group.patterns ++ branch))
    (λ branch. sought_in (filter (is_none_of spared) graph) (variables_of group) group.filters triples [] (group.patterns ++ branch)) (branches_of group.branches)
    (λ branch h. sought_in_without graph triples spared (variables_of group) group.filters (group.patterns ++ branch) (within branch h))

-- what is sought in a branch is no more than what is found in the group
pub branch_shorter : (graph : List Triple) (group : Group) (branch : List PatternTriple) → Has (branches_of group.branches) branch
    → length (filter (passes group.filters) (matches_from graph (group.patterns ++ branch) (replicate (variables_of group) None))) ≤ length (found graph group)
branch_shorter graph group branch h =
    let f = λ (b : List PatternTriple). filter (passes group.filters) (matches_from graph (group.patterns ++ b) (replicate (variables_of group) None)) in
    subst (λ l. length (f branch) ≤ length l) (sym (found_each graph group)) (member_shorter f (branches_of group.branches) branch h)

-- nothing is sought for no triples
pub nothing_sought : (graph spared : List Triple) (group : Group) → sought graph group [] spared ≡ []
nothing_sought graph spared group =
    flat_map_same _ (λ branch. []) (λ branch. none (group.patterns ++ branch)) (branches_of group.branches) ∙ flat_map_none (branches_of group.branches)
  where
    none : (patterns : List PatternTriple) → sought_in graph (variables_of group) group.filters [] spared patterns ≡ []
    none patterns =
        ap (filter (passes group.filters))
        (filter_none (is_sought [] spared patterns) (λ row. ap (λ b. b && not (are_touched spared patterns row)) (spares_all patterns row)) (matches_from graph patterns (replicate (variables_of group) None)))
