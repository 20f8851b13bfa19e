-- The solutions of a group in which variables are bound, with their values laid over them, are those that follow from the row that binds them.
use Rattle.std.proofs.Common.{◌≡◌, ◌∙◌, ℕ, zero, suc, ◌+◌, ◌<◌, ◌≤◌, List, [], ◌∷◌, ◌++◌, length, map, replicate, get_or, set, Bool, true, false, ◌&&◌, All, Option, None, Some, if◌then◌else◌, option_and_then, option_map, filter, flat_map, refl, sym, ap, subst, append-nil, length-set, zero-add, arith}
use Rattle.std.proofs.lemmas.List.{length-map}
use Rattle.std.specs.Option.{option_or, option_map_or, option_zip}
use Rattle.rdf_terms.specs.declared.terms.Term.{Term}
use Rattle.rdf_terms.specs.declared.terms.Term.TheVariants as terms
use Rattle.rdf_terms.specs.declared.terms.Triple.{Triple}
use Rattle.jrql_ast.specs.declared.patterns.Filter.{Filter}
use Rattle.jrql_ast.specs.declared.patterns.Group.{Group}
use Rattle.jrql_ast.specs.declared.patterns.PatternTriple.{PatternTriple}
use Rattle.jrql_ast.specs.declared.patterns.Slot.{Slot}
use Rattle.jrql_ast.specs.declared.patterns.Slot.TheVariants as slots
use Rattle.jrql_ast.specs.FilterMeaning.{compares_so, holds, side_value}
use Rattle.jrql_ast.specs.InForm.{IsFilterWithin, IsGroupInForm, IsPatternWithin, IsSlotWithin, variable_limit}
use Rattle.jrql_ast.specs.QueryAnswers.{found}
use Rattle.jrql_ast.specs.Solutions.{agree, bind, bind_from, is_same_term, matches_from, value_of}
use Rattle.jrql_ast.proofs.Bindings.{bind_at}
use Rattle.jrql_ast.proofs.BoundSlots.{none_some, some_is}
use Rattle.jrql_ast.proofs.Rearranging.{each_of, flat_map_filter_map, flat_map_same}
use Rattle.watch_laws.specs.Bound.{bound_filter, bound_group, bound_in, bound_pattern, laid_over, value_or}
use Rattle.watch_laws.specs.Touched.{passes}
use Rattle.reply_rows.proofs.Filtered.{filter_alike, filter_map_images, map_flat_map}

-- ---- rows

or_none : (o : Option Term) → option_or o None ≡ o
or_none None = refl
or_none (Some x) = refl

-- a variable's value
pub laid_value : (start row : List (Option Term)) (variable : ℕ) → value_of variable (laid_over start row) ≡ option_or (value_of variable start) (value_of variable row)
laid_value [] row variable = refl
laid_value (place ∷ places) [] variable = sym (or_none (get_or (place ∷ places) variable None))
laid_value (place ∷ places) (other ∷ row) zero = refl
laid_value (place ∷ places) (other ∷ row) (suc variable) = laid_value places row variable

-- over a row without values
pub laid_alone : (start : List (Option Term)) (n : ℕ) → length start ≡ n → laid_over start (replicate n None) ≡ start
laid_alone [] zero e = refl
laid_alone [] (suc n) e = absurd (omega (arith, e))
laid_alone (place ∷ places) zero e = absurd (omega (arith, e))
laid_alone (place ∷ places) (suc n) e = λ i. or_none place i ∷ laid_alone places n (omega (arith, e)) i

-- a variable that gets a value behind
pub laid_set : (start row : List (Option Term)) (variable : ℕ) (o : Option Term) → length start ≡ length row → value_of variable start ≡ None
    → laid_over start (set row variable o) ≡ set (laid_over start row) variable o
laid_set [] [] variable o e h = refl
laid_set [] (other ∷ row) variable o e h = refl
laid_set (place ∷ places) [] variable o e h = absurd (omega (arith, e))
laid_set (place ∷ places) (other ∷ row) zero o e h = ap (λ p. option_or p o ∷ laid_over places row) h
laid_set (place ∷ places) (other ∷ row) (suc variable) o e h = ap (λ l. option_or place other ∷ l) (laid_set places row variable o (omega (arith, e)) h)

-- ---- binding behind is binding from the row that is laid over

module _ (start : List (Option Term)) where
  abbrev over : Option (List (Option Term)) → Option (List (Option Term))
  over o = option_map (laid_over start) o

  kept_over : (b : Bool) (row : List (Option Term)) → over (if b then Some row else None) ≡ (if b then Some (laid_over start row) else None)
  kept_over true row = refl
  kept_over false row = refl

  bind_free : (variable : ℕ) (term : Term) (row : List (Option Term)) (o : Option Term) → length start ≡ length row → value_of variable start ≡ None → value_of variable row ≡ o
      → over (bind_from o variable term row) ≡ bind_from o variable term (laid_over start row)
  bind_free variable term row None e h k = ap Some (laid_set start row variable (Some term) e h)
  bind_free variable term row (Some x) e h k = kept_over (is_same_term x term) row

  bind_variable : (variable : ℕ) (term : Term) (row : List (Option Term)) (o : Option Term) → length start ≡ length row → value_of variable start ≡ o
      → over (bind (value_or o variable) term row) ≡ bind (slots.Var variable) term (laid_over start row)
  bind_variable variable term row None e h =
      bind_free variable term row (value_of variable row) e h refl
      ∙ sym (bind_at variable term (laid_over start row) (value_of variable row) (laid_value start row variable ∙ ap (λ o. option_or o (value_of variable row)) h))
  bind_variable variable term row (Some x) e h =
      kept_over (is_same_term x term) row
      ∙ sym (bind_at variable term (laid_over start row) (Some x) (laid_value start row variable ∙ ap (λ o. option_or o (value_of variable row)) h))

  bind_over : (slot : Slot) (term : Term) (row : List (Option Term)) → length start ≡ length row → over (bind (bound_in start slot) term row) ≡ bind slot term (laid_over start row)
  bind_over (slots.Term given) term row e = kept_over (is_same_term given term) row
  bind_over (slots.Var variable) term row e = bind_variable variable term row (value_of variable start) e refl
  bind_over (slots.Fresh subject) term row e = refl

-- what is bound keeps the number of places
bind_from_long : (o : Option Term) (variable : ℕ) (term : Term) (row next : List (Option Term)) → bind_from o variable term row ≡ Some next → length next ≡ length row
bind_from_long None variable term row next h = ap length (sym (some_is (set row variable (Some term)) next h)) ∙ length-set row variable (Some term)
bind_from_long (Some x) variable term row next h = kept_long (is_same_term x term) h
  where
    kept_long : (b : Bool) → (if b then Some row else None) ≡ Some next → length next ≡ length row
    kept_long true e = ap length (sym (some_is row next e))
    kept_long false e = none_some e

bind_long : (slot : Slot) (term : Term) (row next : List (Option Term)) → bind slot term row ≡ Some next → length next ≡ length row
bind_long (slots.Term given) term row next h = kept_long (is_same_term given term) h
  where
    kept_long : (b : Bool) → (if b then Some row else None) ≡ Some next → length next ≡ length row
    kept_long true e = ap length (sym (some_is row next e))
    kept_long false e = none_some e
bind_long (slots.Var variable) term row next h = bind_from_long (value_of variable row) variable term row next h
bind_long (slots.Fresh subject) term row next h = none_some h

module _ (start : List (Option Term)) where
  -- one slot behind another
  then_over : (slot : Slot) (term : Term) (o : Option (List (Option Term))) → ((next : List (Option Term)) → o ≡ Some next → length start ≡ length next)
      → option_map (laid_over start) (option_and_then (bind (bound_in start slot) term) o) ≡ option_and_then (bind slot term) (option_map (laid_over start) o)
  then_over slot term None long = refl
  then_over slot term (Some next) long = bind_over start slot term next (long next refl)

  then_long : (slot : Slot) (term : Term) (o : Option (List (Option Term))) → ((next : List (Option Term)) → o ≡ Some next → length start ≡ length next)
      → (last : List (Option Term)) → option_and_then (bind (bound_in start slot) term) o ≡ Some last → length start ≡ length last
  then_long slot term None long last h = none_some h
  then_long slot term (Some next) long last h = long next refl ∙ sym (bind_long (bound_in start slot) term next last h)

  agree_both : (pattern : PatternTriple) (triple : Triple) (row : List (Option Term)) → length start ≡ length row
      → (option_map (laid_over start) (agree (bound_pattern start pattern) triple row) ≡ agree pattern triple (laid_over start row))
      × ((next : List (Option Term)) → agree (bound_pattern start pattern) triple row ≡ Some next → length start ≡ length next)
  agree_both pattern triple row e =
      let first = bind (bound_in start pattern.s) (terms.Iri triple.s) row in
      let second = option_and_then (bind (bound_in start pattern.p) (terms.Iri triple.p)) first in
      let first_long = λ (next : List (Option Term)) (h : first ≡ Some next). e ∙ sym (bind_long (bound_in start pattern.s) (terms.Iri triple.s) row next h) in
      let second_long = then_long pattern.p (terms.Iri triple.p) first first_long in (
        then_over pattern.o triple.o second second_long
            ∙ ap (option_and_then (bind pattern.o triple.o)) (then_over pattern.p (terms.Iri triple.p) first first_long
            ∙ ap (option_and_then (bind pattern.p (terms.Iri triple.p))) (bind_over start pattern.s (terms.Iri triple.s) row e)),
        then_long pattern.o triple.o second second_long,
      )

  -- rows that match
  pub matches_over : (graph : List Triple) (patterns : List PatternTriple) (row : List (Option Term)) → length start ≡ length row
      → map (laid_over start) (matches_from graph (map (bound_pattern start) patterns) row) ≡ matches_from graph patterns (laid_over start row)
  matches_over graph [] row e = refl
  matches_over graph (pattern ∷ patterns) row e =
      let rest = matches_from graph (map (bound_pattern start) patterns) in
      ap (map (laid_over start)) (flat_map_filter_map rest (λ triple. agree (bound_pattern start pattern) triple row) graph)
      ∙ map_flat_map (laid_over start) (λ triple. each_of rest (agree (bound_pattern start pattern) triple row)) graph
      ∙ flat_map_same _ _ (λ triple. let both = agree_both pattern triple row e in
      each triple (agree (bound_pattern start pattern) triple row) both.0 (λ next h. matches_over graph patterns next (both.1 next h))) graph
      ∙ sym (flat_map_filter_map (matches_from graph patterns) (λ triple. agree pattern triple (laid_over start row)) graph)
    where
      each : (triple : Triple) (o : Option (List (Option Term))) → option_map (laid_over start) o ≡ agree pattern triple (laid_over start row)
          → ((next : List (Option Term)) → o ≡ Some next
          → map (laid_over start) (matches_from graph (map (bound_pattern start) patterns) next) ≡ matches_from graph patterns (laid_over start next))
          → map (laid_over start) (each_of (matches_from graph (map (bound_pattern start) patterns)) o) ≡ each_of (matches_from graph patterns) (agree pattern triple (laid_over start row))
      each triple None h same = ap (each_of (matches_from graph patterns)) h
      each triple (Some next) h same = same next refl ∙ ap (each_of (matches_from graph patterns)) h

  -- filters
  side_over : (slot : Slot) (row : List (Option Term)) → side_value (bound_in start slot) row ≡ side_value slot (laid_over start row)
  side_over (slots.Term given) row = refl
  side_over (slots.Fresh subject) row = refl
  side_over (slots.Var variable) row = by (value_of variable start) refl ∙ sym (laid_value start row variable)
    where
      by : (o : Option Term) → value_of variable start ≡ o → side_value (value_or o variable) row ≡ option_or o (value_of variable row)
      by None e = refl
      by (Some x) e = refl

  holds_over : (filter : Filter) (row : List (Option Term)) → holds (bound_filter start filter) row ≡ holds filter (laid_over start row)
  holds_over filter row =
      λ i. option_map_or (λ both. compares_so filter.op both.0 both.1) (option_zip (side_over filter.left row i) (side_over filter.right row i)) false

  passes_over : (filters : List Filter) (row : List (Option Term)) → passes (map (bound_filter start) filters) row ≡ passes filters (laid_over start row)
  passes_over [] row = refl
  passes_over (filter ∷ filters) row = λ i. holds_over filter row i && passes_over filters row i

  -- the solutions of the bound group
  pub found_over : (graph : List Triple) (n : ℕ) (patterns : List PatternTriple) (filters : List Filter) → length start ≡ n
      → map (laid_over start) (found graph (bound_group start n patterns filters)) ≡ filter (passes filters) (matches_from graph patterns start)
  found_over graph n patterns filters e =
      let rows = matches_from graph (map (bound_pattern start) patterns) (replicate n None) in
      ap (λ l. map (laid_over start) (filter (passes (map (bound_filter start) filters)) l)) (alone ∙ append-nil rows)
      ∙ ap (map (laid_over start)) (filter_alike (passes (map (bound_filter start) filters)) (λ row. passes filters (laid_over start row)) (passes_over filters) rows)
      ∙ sym (filter_map_images (passes filters) (laid_over start) rows)
      ∙ ap (filter (passes filters)) (matches_over graph patterns (replicate n None) (e ∙ sym (length_of_nones n)) ∙ ap (matches_from graph patterns) (laid_alone start n e))
    where
      length_of_nones : (m : ℕ) → length (replicate {A = Option Term} m None) ≡ m
      length_of_nones zero = refl
      length_of_nones (suc m) = ap suc (length_of_nones m)

      alone : matches_from graph (map (bound_pattern start) patterns ++ []) (replicate (0 + n) None) ++ [] ≡ matches_from graph (map (bound_pattern start) patterns) (replicate n None) ++ []
      alone = λ i. matches_from graph (append-nil (map (bound_pattern start) patterns) i) (replicate (zero-add n i) None) ++ []

  -- as many
  pub found_over_length : (graph : List Triple) (n : ℕ) (patterns : List PatternTriple) (filters : List Filter) → length start ≡ n
      → length (found graph (bound_group start n patterns filters)) ≡ length (filter (passes filters) (matches_from graph patterns start))
  found_over_length graph n patterns filters e =
      sym (length-map (found graph (bound_group start n patterns filters)) (laid_over start)) ∙ ap length (found_over graph n patterns filters e)

  -- the bound group is in form
  slot_bound : (n : ℕ) (slot : Slot) → IsSlotWithin n 0 slot → IsSlotWithin n 0 (bound_in start slot)
  slot_bound n (slots.Term given) within = tt
  slot_bound n (slots.Fresh subject) within = within
  slot_bound n (slots.Var variable) within = by (value_of variable start)
    where
      by : (o : Option Term) → IsSlotWithin n 0 (value_or o variable)
      by None = within
      by (Some x) = tt

  images_all : {X Y : Type 0} (P : X → Type 0) (Q : Y → Type 0) (f : X → Y) → ((x : X) → P x → Q (f x)) → (xs : List X) → All P xs → All Q (map f xs)
  images_all P Q f each [] all k d l = absurd (omega (arith, l))
  images_all P Q f each (x ∷ xs) all zero d l = each x (all zero x (omega arith))
  images_all P Q f each (x ∷ xs) all (suc k) d l = images_all P Q f each xs (λ j e m. all (suc j) e (omega (arith, m))) k d (omega (arith, l))

  pub bound_in_form : (n : ℕ) (patterns : List PatternTriple) (filters : List Filter) → n ≤ variable_limit → All (IsPatternWithin n 0) patterns → All (IsFilterWithin n) filters
      → IsGroupInForm (bound_group start n patterns filters)
  bound_in_form n patterns filters few within filtered = record {
    differ = λ j k d l m. absurd (omega (arith, m));
    limit = omega (arith, few);
    patterns = subst (λ m. All (IsPatternWithin m 0) (map (bound_pattern start) patterns)) (sym (zero-add n)) (images_all (IsPatternWithin n 0) (IsPatternWithin n 0) (bound_pattern start)
        (λ pattern w. record { subject = slot_bound n pattern.s w.subject; predicate = slot_bound n pattern.p w.predicate; object = slot_bound n pattern.o w.object }) patterns within);
    branches = λ k d l. absurd (omega (arith, l));
    filters = subst (λ m. All (IsFilterWithin m) (map (bound_filter start) filters)) (sym (zero-add n)) (images_all (IsFilterWithin n) (IsFilterWithin n) (bound_filter start)
        (λ filter w. record { left = slot_bound n filter.left w.left; right = slot_bound n filter.right w.right }) filters filtered);
  }
