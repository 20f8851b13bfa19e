-- A solution has a place for each variable of its group, so its values for all of them are all of it.
use Rattle.std.proofs.Common.{◌≡◌, ◌∙◌, ℕ, List, [], ◌∷◌, ◌++◌, Bool, true, false, cond, Option, None, Some, length, get_or, map, filter, filter_map, flat_map, replicate, refl, sym, ap, subst}
use Rattle.std.specs.List.{cons_option, range_with_len}
use Rattle.std.proofs.lemmas.Bool.{cases_Bool}
use Rattle.std.proofs.lemmas.List.{length-replicate}
use Rattle.jrql_rows.specs.rdf_terms.declared.terms.Term.{Term}
use Rattle.jrql_rows.specs.rdf_terms.declared.terms.Triple.{Triple}
use Rattle.jrql_rows.specs.jrql_ast.declared.patterns.Group.{Group}
use Rattle.jrql_rows.specs.jrql_ast.declared.patterns.PatternTriple.{PatternTriple}
use Rattle.jrql_rows.specs.jrql_ast.InForm.{variables_of}
use Rattle.jrql_rows.specs.jrql_ast.QueryAnswers.{found, project}
use Rattle.jrql_rows.specs.jrql_ast.Solutions.{agree, branches_of, joined_rows, matches_from, unbound}
use Rattle.jrql_rows.proofs.of_jrql_ast.BoundSlots.{agree_length}
use Rattle.jrql_rows.proofs.RowNumbers.{each_place}

-- each row has so many places
abbrev HavePlaces : ℕ → List (List (Option Term)) → Type 0
HavePlaces n [] = Unit {0}
HavePlaces n (row ∷ rows) = (length row ≡ n) × HavePlaces n rows

both_have : (n : ℕ) (rows others : List (List (Option Term))) → HavePlaces n rows → HavePlaces n others → HavePlaces n (rows ++ others)
both_have n [] others h k = k
both_have n (row ∷ rows) others h k = (h.0, both_have n rows others h.1 k)

each_has : {X : Type 0} (n : ℕ) (f : X → List (List (Option Term))) → ((x : X) → HavePlaces n (f x)) → (xs : List X) → HavePlaces n (flat_map f xs)
each_has n f h [] = tt
each_has n f h (x ∷ xs) = both_have n (f x) (flat_map f xs) (h x) (each_has n f h xs)

left_have : (n : ℕ) (p : List (Option Term) → Bool) (rows : List (List (Option Term))) → HavePlaces n rows → HavePlaces n (filter p rows)
left_have n p [] h = tt
left_have n p (row ∷ rows) h = by (p row) (left_have n p rows h.1)
  where
    by : (b : Bool) → HavePlaces n (filter p rows) → HavePlaces n (cond b (row ∷ filter p rows) (filter p rows))
    by true rest = (h.0, rest)
    by false rest = rest

-- the rows that some triples lead to
module _ (graph : List Triple) (pattern : PatternTriple) (patterns : List PatternTriple) (row : List (Option Term))
    (behind : (next : List (Option Term)) → HavePlaces (length next) (matches_from graph patterns next)) where
  led_have : (triples : List Triple) → HavePlaces (length row) (flat_map (matches_from graph patterns) (filter_map (λ triple. agree pattern triple row) triples))
  led_have [] = tt
  led_have (triple ∷ triples) = by (agree pattern triple row) refl (led_have triples)
    where
      by : (o : Option (List (Option Term))) → agree pattern triple row ≡ o
          → HavePlaces (length row) (flat_map (matches_from graph patterns) (filter_map (λ triple. agree pattern triple row) triples))
          → HavePlaces (length row) (flat_map (matches_from graph patterns) (cons_option o (filter_map (λ triple. agree pattern triple row) triples)))
      by None e rest = rest
      by (Some next) e rest =
          both_have (length row) (matches_from graph patterns next) (flat_map (matches_from graph patterns) (filter_map (λ triple. agree pattern triple row) triples))
          (subst (λ n. HavePlaces n (matches_from graph patterns next)) (agree_length pattern triple row next e) (behind next)) rest

matched_have : (graph : List Triple) (patterns : List PatternTriple) (row : List (Option Term)) → HavePlaces (length row) (matches_from graph patterns row)
matched_have graph [] row = (refl, tt)
matched_have graph (pattern ∷ patterns) row = led_have graph pattern patterns row (matched_have graph patterns) graph

-- their values for all variables
all_projected : (n : ℕ) (rows : List (List (Option Term))) → HavePlaces n rows → map (project (range_with_len 0 n)) rows ≡ rows
all_projected n [] h = refl
all_projected n (row ∷ rows) h =
    let one : project (range_with_len 0 n) row ≡ row = ap (λ k. project (range_with_len 0 k) row) (sym h.0) ∙ sym (each_place row None) in
    let rest = all_projected n rows h.1 in
    λ i. one i ∷ rest i

pub found_whole : (graph : List Triple) (group : Group) → map (project (range_with_len 0 (variables_of group))) (found graph group) ≡ found graph group
found_whole graph group =
    let n = variables_of group in
    all_projected n (found graph group)
    (left_have n _ (joined_rows graph group)
    (each_has n (λ branch. matches_from graph (group.patterns ++ branch) (unbound group))
    (λ branch. subst (λ k. HavePlaces k (matches_from graph (group.patterns ++ branch) (unbound group))) (length-replicate n None) (matched_have graph (group.patterns ++ branch) (unbound group)))
    (branches_of group.branches)))
