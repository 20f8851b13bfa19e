-- What is asked of rows is so of a group's solutions, whatever the order of the rows is, and where each is to stand once, however often it does.
use Rattle.std.proofs.Common.{◌≡◌, ◌∙◌, ℕ, zero, suc, ◌⊎◌, ◌↔◌, List, [], ◌∷◌, Bool, true, false, ◌||◌, Option, None, Some, map, take, drop, refl, sym, ap, subst, inl, inr, true≢false}
use Rattle.std.specs.List.{list_any}
use Rattle.std.specs.Cmp.Lexicographic.{slice_cmp}
use Rattle.std.proofs.lemmas.Bool.{or_cases}
use Rattle.jrql_rows.specs.rdf_terms.declared.terms.Term.{Term}
use Rattle.jrql_rows.specs.rdf_terms.declared.terms.Triple.{Triple}
use Rattle.jrql_rows.specs.tree_clock.Lists.{Has}
use Rattle.jrql_rows.proofs.of_graph_index.Sorting.{same_members}
use Rattle.jrql_rows.specs.jrql_ast.declared.answers.Answer.TheVariants as answers
use Rattle.jrql_rows.specs.jrql_ast.declared.answers.Described.{Described}
use Rattle.jrql_rows.specs.jrql_ast.declared.patterns.Group.{Group}
use Rattle.jrql_rows.specs.jrql_ast.declared.queries.Query.{Query}
use Rattle.jrql_rows.specs.jrql_ast.declared.queries.Select.{Select}
use Rattle.jrql_rows.specs.jrql_ast.declared.queries.Target.{Target}
use Rattle.jrql_rows.specs.jrql_ast.declared.queries.Target.TheVariants as targets
use Rattle.jrql_rows.specs.jrql_ast.declared.queries.What.{What}
use Rattle.jrql_rows.specs.jrql_ast.declared.queries.What.TheVariants as kinds
use Rattle.jrql_rows.specs.jrql_ast.QueryAnswers.{IsAnswer, IsAnswerBy, IsSelected, described, distinct_rows, found, is_iri_value, limited, project, reply_place_cmp, subjects_of, targets_iri}
use Rattle.jrql_rows.specs.jrql_ast.Solutions.{value_of}
use Rattle.jrql_rows.proofs.of_jrql_ast.OneAnswer.{replies_total}
use Rattle.jrql_eval.specs.Asked.{IsDescribedBy, IsSelectedOf}
use Rattle.jrql_rows.specs.KeptValues.{KeepsRows}
use Rattle.jrql_eval.proofs.BranchLaws.{sorting_of}
use Rattle.jrql_eval.proofs.DescribeLaws.{agree_tests, filter_alike, or_left, or_right}
use Rattle.jrql_eval.proofs.SortedRows.{one_distinct, sorting_there}

none_or : {A : Type 0} → ⊥ ⊎ A → A
none_or (inl n) = absurd n
none_or (inr a) = a

-- a select: rows that may stand less often, where each is to stand once
selected_by : (b : Bool) (graph : List Triple) (group : Group) (select : Select) (given kept : List (List (Option Term))) → select.distinct ≡ b
    → KeepsRows b [] (map (project select.vars) (found graph group)) given → IsSelectedOf select given kept → IsSelected graph group select kept
selected_by false graph group select given kept e p s = record {
  values = s.values;
  sorted = sorting_of (slice_cmp reply_place_cmp) (map (project select.vars) (found graph group)) given s.values p s.sorted;
  whole = s.whole;
}
selected_by true graph group select given kept e m s =
    let rows = map (project select.vars) (found graph group) in
    let sorting = sorting_there (slice_cmp reply_place_cmp) replies_total rows in
    let of = sorting.1 in
    let same : (row : List (Option Term)) → Has s.values row ↔ Has sorting.0 row =
    λ row. (
      λ h. (same_members rows sorting.0 of.same row).1 (none_or ((m row).0 ((same_members given s.values s.sorted.same row).0 h))),
      λ h. (same_members given s.values s.sorted.same row).1 ((m row).1 (inr ((same_members rows sorting.0 of.same row).0 h))),
    )
    in record {
      values = sorting.0;
      sorted = of;
      whole =
          s.whole
          ∙ ap (λ values. limited select.limit (drop select.offset values))
          (ap (λ d. distinct_rows d s.values) e ∙ one_distinct s.values sorting.0 s.sorted.ascending of.ascending same ∙ sym (ap (λ d. distinct_rows d sorting.0) e));
    }

pub rows_answer : (graph : List Triple) (query : Query) (select : Select) (given kept : List (List (Option Term))) → query.what ≡ kinds.Select select
    → KeepsRows select.distinct [] (map (project select.vars) (found graph query.group)) given → IsSelectedOf select given kept → IsAnswer graph query (answers.Rows kept)
rows_answer graph query select given kept e p s =
    subst (λ (what : What). IsAnswerBy graph query.group what (answers.Rows kept)) (sym e) (selected_by select.distinct graph query.group select given kept refl p s)

-- some member passes a test
any_has : {X : Type 0} (p : X → Bool) (xs : List X) → list_any p xs ≡ true → (x : X) × Has xs x × (p x ≡ true)
any_has p [] h = absurd (true≢false (sym h))
any_has p (x ∷ xs) h = elim (or_cases (p x) (list_any p xs) h) [
  | inl t ↦ (x, inl refl, t)
  | inr t ↦ let i = any_has p xs t in (i.0, inr i.1, i.2)
]

has_any : {X : Type 0} (p : X → Bool) (xs : List X) (x : X) → Has xs x → p x ≡ true → list_any p xs ≡ true
has_any p [] x h t = absurd h
has_any p (y ∷ xs) x (inl e) t = or_left (p y) (list_any p xs) (ap p e ∙ t)
has_any p (y ∷ xs) x (inr h) t = or_right (p y) (list_any p xs) (has_any p xs x h t)

any_alike : {X : Type 0} (p : X → Bool) (xs ys : List X) → ((x : X) → Has xs x ↔ Has ys x) → list_any p xs ≡ list_any p ys
any_alike p xs ys same =
    agree_tests (list_any p xs) (list_any p ys) (λ h. let i = any_has p xs h in has_any p ys i.0 ((same i.0).0 i.1) i.2)
    (λ h. let i = any_has p ys h in has_any p xs i.0 ((same i.0).1 i.1) i.2)

-- a describe
module _ (rows others : List (List (Option Term))) (same : (row : List (Option Term)) → Has rows row ↔ Has others row) where
  targets_same : (iri : List ℕ) (target : Target) → targets_iri rows iri target ≡ targets_iri others iri target
  targets_same iri (targets.Iri named) = refl
  targets_same iri (targets.Var variable) = any_alike (λ row. is_iri_value iri (value_of variable row)) rows others same

  any_same : (iri : List ℕ) (given : List Target) → list_any (targets_iri rows iri) given ≡ list_any (targets_iri others iri) given
  any_same iri [] = refl
  any_same iri (target ∷ given) = let e = targets_same iri target in let r = any_same iri given in λ i. e i || r i

  pub described_alike : (graph : List Triple) (given : List Target) (subjects : List Described) → IsDescribedBy graph others given subjects → IsDescribedBy graph rows given subjects
  described_alike graph given subjects d =
      d ∙ ap (map (described graph)) (sym (filter_alike (λ iri. list_any (targets_iri rows iri) given) (λ iri. list_any (targets_iri others iri) given)
      (λ iri. any_same iri given) (subjects_of graph)))

pub subjects_answer : (graph : List Triple) (query : Query) (given : List Target) (rows : List (List (Option Term))) (subjects : List Described) → query.what ≡ kinds.Describe given
    → KeepsRows true [] (found graph query.group) rows → IsDescribedBy graph rows given subjects → IsAnswer graph query (answers.Subjects subjects)
subjects_answer graph query given rows subjects e m d =
    subst (λ (what : What). IsAnswerBy graph query.group what (answers.Subjects subjects)) (sym e)
    (described_alike (found graph query.group) rows (λ row. (λ h. (m row).1 (inr h), λ h. none_or ((m row).0 h))) graph given subjects d)

-- some of the rows
module _ {X Y : Type 0} (f : X → Y) where
  map_taken : (n : ℕ) (xs : List X) → map f (take n xs) ≡ take n (map f xs)
  map_taken zero xs = refl
  map_taken (suc n) [] = refl
  map_taken (suc n) (x ∷ xs) = ap (λ l. f x ∷ l) (map_taken n xs)

  map_dropped : (n : ℕ) (xs : List X) → map f (drop n xs) ≡ drop n (map f xs)
  map_dropped zero xs = refl
  map_dropped (suc n) [] = refl
  map_dropped (suc n) (x ∷ xs) = map_dropped n xs

  map_limited : (limit : Option ℕ) (xs : List X) → map f (limited limit xs) ≡ limited limit (map f xs)
  map_limited None xs = refl
  map_limited (Some n) xs = map_taken n xs

  pub map_cut : (limit : Option ℕ) (offset : ℕ) (xs : List X) → map f (limited limit (drop offset xs)) ≡ limited limit (drop offset (map f xs))
  map_cut limit offset xs = map_limited limit (drop offset xs) ∙ ap (limited limit) (map_dropped offset xs)
