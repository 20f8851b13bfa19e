-- What is kept of rows that are found, one list of them after another.
use Rattle.std.proofs.Common.{◌≡◌, ◌∙◌, ℕ, zero, suc, ◌+◌, ◌<◌, ◌≤◌, ◌⊎◌, List, [], ◌∷◌, ◌++◌, Bool, true, false, Option, None, Some, Result, Ok, Err, Bor, length, get_or, map, take, flat_map, refl, sym, ap, subst, inl, inr, append_assoc, append-nil, length-append, map-id, take_all, arith}
use Rattle.std.specs.List.Sorted.{IsPermutation}
use Rattle.std.specs.Option.{option_and_then}
use Rattle.std.proofs.lemmas.Bool.{true≢false}
use Rattle.std.proofs.lemmas.List.{map-append, take_more}
use Rattle.std.specs.Prelude.{IsSome, is_some}
use Rattle.std.proofs.lemmas.List.Concat.{flat_map-append}
use Rattle.std.proofs.lemmas.List.Folds.{flat_map-map, length-flat_map-take}
use Rattle.std.proofs.lemmas.List.Sorted.{IsPermutation-map, IsPermutation-trans, IsPermutation-append_left, IsPermutation-append_right, length_permutation}
use Rattle.jrql_rows.specs.rdf_terms.declared.terms.Term.{Term}
use Rattle.jrql_rows.specs.rdf_terms.declared.terms.Triple.{Triple}
use Rattle.jrql_rows.specs.tree_clock.Lists.{Has}
use Rattle.jrql_rows.specs.mld_ops.Present.{present}
use Rattle.jrql_rows.proofs.of_mld_ops.AscendingLaws.{has_append, has_left, has_right}
use Rattle.jrql_rows.specs.graph_index.Graphs.{GraphValue}
use Rattle.jrql_rows.specs.graph_index.Numbered.{triple_numbered, TermNumbers}
use Rattle.jrql_rows.proofs.of_graph_index.Sorting.{same_members}
use Rattle.jrql_rows.specs.jrql_ast.declared.patterns.PatternTriple.{PatternTriple}
use Rattle.jrql_rows.specs.jrql_ast.QueryAnswers.{project, solution_limit}
use Rattle.jrql_rows.specs.jrql_ast.Solutions.{agree}
use Rattle.jrql_rows.proofs.of_jrql_ast.Rearranging.{same_list}
use Rattle.jrql_eval.specs.declared.faults.EvalFault.{EvalFault}
use Rattle.jrql_eval.specs.declared.faults.EvalFault.TheVariants.{TooMany, NoMemory}
use Rattle.jrql_eval.specs.FoundTriples.{FindsFor}
use Rattle.jrql_eval.specs.KeptFound.{KeepsEachFound, KeepsFound, agree_numbered}
use Rattle.jrql_rows.specs.Bindings.{BindingsValue, IsBinding}
use Rattle.jrql_rows.specs.KeptValues.{KeepsEach, KeepsRows, KeptValue, nothing_kept}
use Rattle.jrql_plans.specs.declared.plans.PatternStage.{PatternStage}
use Rattle.jrql_eval.specs.declared.searching.Ending.{Ending}
use Rattle.jrql_eval.specs.Evaluating.{led_from, led_to}
use Rattle.jrql_rows.proofs.NumberedRows.{some_there}
use Rattle.jrql_eval.proofs.SearchSteps.{led_by}

-- ---- rows with others added
or_none : {A : Type 0} → A ⊎ ⊥ → A
or_none (inl a) = a
or_none (inr n) = absurd n

rows_none : (b : Bool) (old : List (List (Option Term))) → KeepsRows b old [] old
rows_none false old = same_list (old ++ []) old (append-nil old)
rows_none true old = λ row. (λ h. inl h, λ h. or_none h)

rows_moved : (b : Bool) (old added others new : List (List (Option Term))) → IsPermutation added others → KeepsRows b old others new → KeepsRows b old added new
rows_moved false old added others new p k = IsPermutation-trans _ _ _ (IsPermutation-append_right old added others p) k
rows_moved true old added others new p k = λ row. (λ h. there row ((k row).0 h), λ h. (k row).1 (back row h))
  where
    there : (row : List (Option Term)) → Has old row ⊎ Has others row → Has old row ⊎ Has added row
    there row (inl h) = inl h
    there row (inr h) = inr ((same_members added others p row).0 h)

    back : (row : List (Option Term)) → Has old row ⊎ Has added row → Has old row ⊎ Has others row
    back row (inl h) = inl h
    back row (inr h) = inr ((same_members added others p row).1 h)

rows_more : (b : Bool) (old added mid more new : List (List (Option Term))) → KeepsRows b old added mid → KeepsRows b mid more new → KeepsRows b old (added ++ more) new
rows_more false old added mid more new p q =
    subst (λ z. IsPermutation z new) (append_assoc old added more) (IsPermutation-trans _ _ _ (IsPermutation-append_left more (old ++ added) mid p) q)
rows_more true old added mid more new p q = λ row. (λ h. there row ((q row).0 h), λ h. (q row).1 (back row h))
  where
    first : (row : List (Option Term)) → Has old row ⊎ Has added row → Has old row ⊎ Has (added ++ more) row
    first row (inl h) = inl h
    first row (inr h) = inr (has_left added more row h)

    there : (row : List (Option Term)) → Has mid row ⊎ Has more row → Has old row ⊎ Has (added ++ more) row
    there row (inl h) = first row ((p row).0 h)
    there row (inr h) = inr (has_right added more row h)

    later : (row : List (Option Term)) → Has added row ⊎ Has more row → Has mid row ⊎ Has more row
    later row (inl h) = inl ((p row).1 (inr h))
    later row (inr h) = inr h

    back : (row : List (Option Term)) → Has old row ⊎ Has (added ++ more) row → Has mid row ⊎ Has more row
    back row (inl h) = inl ((p row).1 (inl h))
    back row (inr h) = later row (has_append added more row h)

-- ---- what is kept
pub keeps_nothing : (old : KeptValue) (added : List (List (Option Term))) → old.count ≤ solution_limit → added ≡ [] → KeepsEachFound old added old
keeps_nothing old added few e = subst (λ (l : List (List (Option Term))). KeepsEachFound old l old) (sym e) (record {
  keeps = record { graph = refl; columns = refl; distinct = refl; count = omega arith; rows = rows_none old.distinct old.rows };
  few = few;
})

pub keeps_same : {X : Type 0} (old : KeptValue) (added others : List (List (Option Term))) (result : Result X EvalFault) (new : KeptValue) → added ≡ others → KeepsFound old added result new → KeepsFound old others result new
keeps_same old added others result new e k = subst (λ (l : List (List (Option Term))). KeepsFound old l result new) e k

pub keeps_moved : {X : Type 0} (old : KeptValue) (added others : List (List (Option Term))) (result : Result X EvalFault) (new : KeptValue) → IsPermutation added others
    → KeepsFound old others result new → KeepsFound old added result new
keeps_moved old added others (Ok done) new p k =
    let e = length_permutation added others p in
    let c = k.keeps.count in record {
      keeps = record {
        graph = k.keeps.graph;
        columns = k.keeps.columns;
        distinct = k.keeps.distinct;
        count = omega (arith, e, c);
        rows = rows_moved old.distinct old.rows (map (project old.columns) added) (map (project old.columns) others) new.rows (IsPermutation-map (project old.columns) added others p) k.keeps.rows;
      };
      few = k.few;
    }
keeps_moved old added others (Err TooMany) new p k = let e = length_permutation added others p in omega (arith, k, e)
keeps_moved old added others (Err NoMemory) new p k = tt

pub keeps_more : (old : KeptValue) (added : List (List (Option Term))) (mid : KeptValue) (more : List (List (Option Term))) (new : KeptValue) → KeepsEachFound old added mid → KeepsEachFound mid more new
    → KeepsEachFound old (added ++ more) new
keeps_more old added mid more new j k =
    let taking = project old.columns in
    let a = j.keeps.count in
    let b = k.keeps.count in
    let both = length-append added more in
    let behind : KeepsRows old.distinct mid.rows (map taking more) new.rows =
    subst (λ (c : List ℕ). KeepsRows old.distinct mid.rows (map (project c) more) new.rows) j.keeps.columns
    (subst (λ (d : Bool). KeepsRows d mid.rows (map (project mid.columns) more) new.rows) j.keeps.distinct k.keeps.rows)
    in record {
      keeps = record {
        graph = k.keeps.graph ∙ j.keeps.graph;
        columns = k.keeps.columns ∙ j.keeps.columns;
        distinct = k.keeps.distinct ∙ j.keeps.distinct;
        count = omega (arith, a, b, both);
        rows = subst (λ (l : List (List (Option Term))). KeepsRows old.distinct old.rows l new.rows) (sym (map-append taking added more))
            (rows_more old.distinct old.rows (map taking added) mid.rows (map taking more) new.rows j.keeps.rows behind);
      };
      few = k.few;
    }

keeps_fault : (old : KeptValue) (added : List (List (Option Term))) (mid : KeptValue) (more all : List (List (Option Term))) (new : KeptValue) (fault : EvalFault) → KeepsEachFound old added mid
    → length added + length more ≤ length all → KeepsFound {X = Unit {0}} mid more (Err fault) new → KeepsFound {X = Unit {0}} old all (Err fault) new
keeps_fault old added mid more all new TooMany j l k = let a = j.keeps.count in omega (arith, a, l, k)
keeps_fault old added mid more all new NoMemory j l k = tt

-- ---- in a loop: the lists of one element after another
module _ {E : Type 0} (f : E → List (List (Option Term))) (xs : List E) (i : ℕ) (d x : E) (old mid new : KeptValue) (l : i < length xs) (is : x ≡ get_or xs i d) (j : KeepsEachFound old (flat_map f (take i xs)) mid) where
  one_more : flat_map f (take (i + 1) xs) ≡ flat_map f (take i xs) ++ f x
  one_more =
      ap (flat_map f) (take_more xs i d l ∙ ap (λ z. take i xs ++ z ∷ []) (sym is))
      ∙ flat_map-append f (take i xs) (x ∷ [])
      ∙ ap (λ z. flat_map f (take i xs) ++ z) (append-nil (f x))

  pub keeps_one_more : KeepsEachFound mid (f x) new → KeepsEachFound old (flat_map f (take (i + 1) xs)) new
  keeps_one_more k = subst (λ (z : List (List (Option Term))). KeepsEachFound old z new) (sym one_more) (keeps_more old (flat_map f (take i xs)) mid (f x) new j k)

  pub keeps_err : (fault : EvalFault) → KeepsFound {X = Unit {0}} mid (f x) (Err fault) new → KeepsFound {X = Unit {0}} old (flat_map f xs) (Err fault) new
  keeps_err fault k =
      let all = length-flat_map-take f xs i d l in
      let here = ap (λ z. length (f z)) is in
      keeps_fault old (flat_map f (take i xs)) mid (f x) (flat_map f xs) new fault j (omega (arith, all, here)) k

-- the first of them, and all
pub keeps_start : {E : Type 0} (f : E → List (List (Option Term))) (xs : List E) (old : KeptValue) → old.count ≤ solution_limit → KeepsEachFound old (flat_map f (take 0 xs)) old
keeps_start f xs old few = keeps_nothing old (flat_map f (take 0 xs)) few refl

pub keeps_each : {E : Type 0} (f : E → List (List (Option Term))) (xs : List E) (i : ℕ) (old new : KeptValue) → length xs ≤ i → KeepsEachFound old (flat_map f (take i xs)) new → KeepsEachFound old (flat_map f xs) new
keeps_each {E} f xs i old new l k = subst (λ (z : List E). KeepsEachFound old (flat_map f z) new) (take_all i xs l) k

-- ---- triples by numbers
abbrev some_head : {X : Type 0} → List (Option X) → Option X
some_head [] = None
some_head (x ∷ xs) = x

abbrev some_tail : {X : Type 0} → List X → List X
some_tail [] = []
some_tail (x ∷ xs) = xs

abbrev some_one : {X : Type 0} → List X → Bool
some_one [] = false
some_one (x ∷ xs) = true

pub there_from : {N : Type 0} (f : N → Option Triple) (found : List N) (triples : List Triple) → map f found ≡ map (λ (triple : Triple). Some triple) triples
    → (k : ℕ) (d : N) → k < length found → IsSome (f (get_or found k d))
there_from f [] triples e k d l = absurd (omega (arith, l))
there_from f (n ∷ found) [] e k d l = absurd (true≢false (ap some_one e))
there_from f (n ∷ found) (triple ∷ triples) e zero d l = ap is_some (ap some_head e)
there_from f (n ∷ found) (triple ∷ triples) e (suc k) d l = there_from f found triples (ap some_tail e) k d (omega (arith, l))

-- what is found of a pattern leads to what the graph does
pub keeps_led : {X : Type 0} (ending : Ending) (stage : PatternStage) (rest : List PatternStage) (row : BindingsValue) (found : List TermNumbers) (old new : KeptValue) (result : Result X EvalFault)
    → FindsFor stage.pattern.now row found
    → KeepsFound old (flat_map (λ numbers. led_from (present row.graph.pairs) ending stage rest (agree_numbered row.graph stage.pattern.now row.row numbers)) found) result new
    → KeepsFound old (led_to (present row.graph.pairs) ending (stage ∷ rest) row.row) result new
keeps_led ending stage rest row found old new result finds k =
    let graph = present row.graph.pairs in
    let pattern = stage.pattern.now in
    let behind = λ (o : Option Triple). led_from graph ending stage rest (option_and_then (λ triple. agree pattern triple row.row) o) in
    let same : flat_map (λ numbers. behind (triple_numbered row.graph numbers)) found ≡ flat_map (λ (triple : Triple). behind (Some triple)) finds.triples =
    sym (flat_map-map behind (triple_numbered row.graph) found) ∙ ap (flat_map behind) finds.are ∙ flat_map-map behind (λ (triple : Triple). Some triple) finds.triples
    in
    keeps_moved old (led_to graph ending (stage ∷ rest) row.row) (flat_map (λ (triple : Triple). behind (Some triple)) finds.triples) result new
    (led_by graph ending stage rest row.row finds.triples finds.whole)
    (keeps_same old (flat_map (λ numbers. behind (triple_numbered row.graph numbers)) found) (flat_map (λ (triple : Triple). behind (Some triple)) finds.triples) result new same k)

pub record AgreesSo (pattern : PatternTriple) (numbers : TermNumbers) (row : BindingsValue) (next : List (Option Term)) : Type 0 where
  pub triple : Triple
  pub agrees : agree pattern triple row.row ≡ Some next
  pub so : agree_numbered row.graph pattern row.row numbers ≡ Some next

binding_kept : (o : Option (List (Option Term))) (row : List (Option Term)) → IsBinding o true row → o ≡ Some row
binding_kept None row b = absurd (true≢false b)
binding_kept (Some bound) row b = ap Some (sym b.1)

binding_lost : (o : Option (List (Option Term))) (row : List (Option Term)) → IsBinding o false row → o ≡ None
binding_lost None row b = refl
binding_lost (Some bound) row b = absurd (true≢false (sym b.0))

module _ (pattern : PatternTriple) (numbers : TermNumbers) (row : BindingsValue) (next : List (Option Term)) (b : Bool) (some : IsSome (triple_numbered row.graph numbers))
    (bound : (triple : Triple) → triple_numbered row.graph numbers ≡ Some triple → IsBinding (agree pattern triple row.row) b next) where
  pub numbers_agree : b ≡ true → AgreesSo pattern numbers row next
  numbers_agree t =
      let there = some_there (triple_numbered row.graph numbers) some in
      let e = binding_kept (agree pattern there.0 row.row) next (subst (λ (z : Bool). IsBinding (agree pattern there.0 row.row) z next) t (bound there.0 there.1)) in record {
        triple = there.0;
        agrees = e;
        so = ap (option_and_then (λ triple. agree pattern triple row.row)) there.1 ∙ e;
      }

  pub numbers_differ : b ≡ false → agree_numbered row.graph pattern row.row numbers ≡ None
  numbers_differ f =
      let there = some_there (triple_numbered row.graph numbers) some in
      ap (option_and_then (λ triple. agree pattern triple row.row)) there.1
      ∙ binding_lost (agree pattern there.0 row.row) next (subst (λ (z : Bool). IsBinding (agree pattern there.0 row.row) z next) f (bound there.0 there.1))

-- ---- from nothing on
module _ (graph : GraphValue) (columns : List ℕ) (distinct : Bool) (start : KeptValue) (found : List (List (Option Term))) (e : start ≡ nothing_kept graph columns distinct) where
  keeps_all : (kept : KeptValue) → KeepsEachFound start found kept → KeepsEach (nothing_kept graph columns distinct) found kept
  keeps_all kept k = subst (λ (s : KeptValue). KeepsEach s found kept) e k.keeps

  pub found_rows : (kept : KeptValue) → KeepsEachFound start found kept → KeepsRows distinct [] (map (project columns) found) kept.rows
  found_rows kept k = let all = keeps_all kept k in all.rows

  pub found_few : (kept : KeptValue) → KeepsEachFound start found kept → length found ≤ solution_limit
  found_few kept k =
      let all = keeps_all kept k in
      let n = all.count in
      let f = k.few in
      omega (arith, n, f)

  pub found_many : solution_limit < start.count + length found → solution_limit < length found
  found_many h = let n = ap (λ (s : KeptValue). s.count) e in omega (arith, n, h)
