-- What is found by going over the triples that a pattern may be.
use Rattle.std.proofs.Common.{◌≡◌, ◌∙◌, ℕ, zero, suc, ◌+◌, ◌<◌, length, get_or, drop, Bor, arith, List, [], ◌∷◌, ◌++◌, Bool, true, cond, Option, None, Some, map, filter, filter_map, flat_map, refl, sym, ap, subst, inl, inr, true≢false, append-nil}
use Rattle.std.specs.List.{cons_option}
use Rattle.std.specs.List.Sorted.{IsPermutation}
use Rattle.std.specs.Cmp.{IsTotalOrder}
use Rattle.std.specs.declared.cmp.Ordering.{Ordering}
use Rattle.std.specs.declared.cmp.Ordering.TheVariants.{Less}
use Rattle.std.proofs.lemmas.Bool.{cases_Bool}
use Rattle.std.proofs.lemmas.List.Sorted.{IsPermutation-refl, IsPermutation-trans, IsPermutation-cons, IsPermutation-append_left, IsPermutation-append_comm}
use Rattle.jrql_rows.specs.rdf_terms.declared.terms.Term.{Term}
use Rattle.jrql_rows.specs.rdf_terms.declared.terms.Term.TheVariants as terms
use Rattle.jrql_rows.specs.rdf_terms.declared.terms.Triple.{Triple}
use Rattle.jrql_rows.specs.rdf_terms.Order.{triple_cmp}
use Rattle.jrql_rows.specs.rdf_terms.OrderLaws.{triple_total}
use Rattle.jrql_rows.specs.tree_clock.Lists.{Has, IsAscending}
use Rattle.jrql_rows.proofs.of_mld_ops.AscendingLaws.{below_member, not_below_itself}
use Rattle.jrql_rows.specs.jrql_ast.declared.patterns.PatternTriple.{PatternTriple}
use Rattle.jrql_rows.specs.jrql_ast.FilterMeaning.{side_value}
use Rattle.jrql_rows.specs.jrql_ast.Solutions.{agree, matches_from}
use Rattle.jrql_eval.specs.Evaluating.{instance_of, triple_at, iri_of_term}
use Rattle.jrql_rows.proofs.of_jrql_ast.Rearranging.{by_neighbours}
use Rattle.jrql_rows.proofs.of_jrql_ast.BoundSlots.{same_refl, none_some, some_is, agree_if_bound, agree_before_s, agree_before_p, agree_before_o}

-- an option of which no value comes
pub none_unless : {X : Type 0} (o : Option X) → ((x : X) → o ≡ Some x → ⊥) → o ≡ None
none_unless None h = refl
none_unless (Some x) h = absurd (h x refl)

module _ {X Y : Type 0} (h : X → Option Y) where
  pub nothing_found : (xs : List X) → ((x : X) → Has xs x → h x ≡ None) → filter_map h xs ≡ []
  nothing_found [] none = refl
  nothing_found (x ∷ xs) none = ap (λ o. cons_option o (filter_map h xs)) (none x (inl refl)) ∙ nothing_found xs (λ y g. none y (inr g))

  -- those that fail a test that all pass of which something comes may be left out
  pub found_filtered : (test : X → Bool) → ((x : X) (y : Y) → h x ≡ Some y → test x ≡ true) → (xs : List X) → filter_map h (filter test xs) ≡ filter_map h xs
  found_filtered test passes [] = refl
  found_filtered test passes (x ∷ xs) = elim (cases_Bool (test x)) [
    | inl passed ↦ ap (λ b. filter_map h (cond b (x ∷ filter test xs) (filter test xs))) passed ∙ ap (cons_option (h x)) (found_filtered test passes xs)
    | inr failed ↦ ap (λ b. filter_map h (cond b (x ∷ filter test xs) (filter test xs))) failed ∙ found_filtered test passes xs
        ∙ sym (ap (λ o. cons_option o (filter_map h xs)) (none_unless (h x) (λ y e. true≢false (sym (passes x y e) ∙ failed))))
  ]

  -- and in another order the same comes, in another order
  pub found_permuted : (xs ys : List X) → IsPermutation xs ys → IsPermutation (filter_map h xs) (filter_map h ys)
  found_permuted xs ys moved =
      by_neighbours (λ l m. IsPermutation (filter_map h l) (filter_map h m)) (λ l. IsPermutation-refl (filter_map h l)) (λ l m n. IsPermutation-trans _ _ _)
      (λ x l m e. more (h x) (filter_map h l) (filter_map h m) e) (λ x y l. two (h x) (h y) (filter_map h l)) xs ys moved
    where
      more : (o : Option Y) (l m : List Y) → IsPermutation l m → IsPermutation (cons_option o l) (cons_option o m)
      more None l m e = e
      more (Some y) l m e = IsPermutation-cons y l m e

      two : (o p : Option Y) (l : List Y) → IsPermutation (cons_option o (cons_option p l)) (cons_option p (cons_option o l))
      two None p l = IsPermutation-refl _
      two (Some y) None l = IsPermutation-refl _
      two (Some y) (Some z) l = IsPermutation-append_left l (y ∷ z ∷ []) (z ∷ y ∷ []) (IsPermutation-append_comm (y ∷ []) (z ∷ []))

  -- one alone of which something comes
  pub one_found : (R : X → X → Ordering) → IsTotalOrder R → (t : X) (y : Y) → h t ≡ Some y → ((x : X) → ((x ≡ t) → ⊥) → h x ≡ None)
      → (xs : List X) → IsAscending R xs → Has xs t → filter_map h xs ≡ y ∷ []
  one_found R total t y here others [] a g = absurd g
  one_found R total t y here others (x ∷ xs) a (inl e) =
      ap (λ o. cons_option o (filter_map h xs)) (ap h e ∙ here)
      ∙ ap (λ l. y ∷ l) (nothing_found xs (λ z g. others z (λ same. not_below_itself R total z (subst (λ w. R w z ≡ Less) (e ∙ sym same) (below_member R x xs z a.0 g)))))
  one_found R total t y here others (x ∷ xs) a (inr g) =
      ap (λ o. cons_option o (filter_map h xs)) (others x (λ same. not_below_itself R total t (subst (λ w. R w t ≡ Less) same (below_member R x xs t a.0 g))))
      ∙ one_found R total t y here others xs a.1 g

-- what is known of a pattern's places
module _ (pattern : PatternTriple) (row : List (Option Term)) where
  found_at : (s p o : Term) → side_value pattern.s row ≡ Some s → side_value pattern.p row ≡ Some p → side_value pattern.o row ≡ Some o
      → (triple : Triple) → triple_at (iri_of_term (Some s)) (iri_of_term (Some p)) (Some o) ≡ Some triple → agree pattern triple row ≡ Some row
  found_at (terms.Iri s) (terms.Iri p) o es ep eo triple e =
      let t = some_is (record { s = s; p = p; o = o }) triple e in
      subst (λ (u : Triple). agree pattern u row ≡ Some row) t
      (agree_if_bound pattern (terms.Iri s) (terms.Iri p) o (record { s = s; p = p; o = o }) row es ep eo
      ∙ rw (same_refl (terms.Iri s), same_refl (terms.Iri p), same_refl o) refl)
  found_at (terms.Iri s) (terms.Literal l) o es ep eo triple e = none_some e
  found_at (terms.Literal l) p o es ep eo triple e = none_some e

  -- no other triple agrees
  no_other : (s p o : Term) → side_value pattern.s row ≡ Some s → side_value pattern.p row ≡ Some p → side_value pattern.o row ≡ Some o
      → (triple : Triple) (next : List (Option Term)) → agree pattern triple row ≡ Some next → triple_at (iri_of_term (Some s)) (iri_of_term (Some p)) (Some o) ≡ Some triple
  no_other s p o es ep eo triple next h =
      let a = agree_before_s pattern triple row next h s es in
      let b = agree_before_p pattern triple row next h p ep in
      let c = agree_before_o pattern triple row next h o eo in
      λ i. triple_at (iri_of_term (Some (a i))) (iri_of_term (Some (b i))) (Some (c i))

-- a pattern whose places are terms, in a graph
module _ (graph : List Triple) (pattern : PatternTriple) (row : List (Option Term))
    (s p o : Term) (es : side_value pattern.s row ≡ Some s) (ep : side_value pattern.p row ≡ Some p) (eo : side_value pattern.o row ≡ Some o) where
  instance_at : instance_of pattern row ≡ triple_at (iri_of_term (Some s)) (iri_of_term (Some p)) (Some o)
  instance_at = λ i. triple_at (iri_of_term (es i)) (iri_of_term (ep i)) (eo i)

  pub there : (triple : Triple) → IsAscending triple_cmp graph → instance_of pattern row ≡ Some triple → Has graph triple → filter_map (λ t. agree pattern t row) graph ≡ row ∷ []
  there triple ascending e h =
      let e' = sym instance_at ∙ e in
      one_found (λ t. agree pattern t row) triple_cmp triple_total triple row (found_at pattern row s p o es ep eo triple e')
      (λ other apart. none_unless _ (λ next g. apart (some_is other triple (sym (no_other pattern row s p o es ep eo other next g) ∙ e'))))
      graph ascending h

  pub absent : (triple : Triple) → instance_of pattern row ≡ Some triple → (Has graph triple → ⊥) → filter_map (λ t. agree pattern t row) graph ≡ []
  absent triple e h =
      let e' = sym instance_at ∙ e in
      nothing_found (λ t. agree pattern t row) graph
      (λ other g. none_unless _ (λ next k. h (subst (Has graph) (some_is other triple (sym (no_other pattern row s p o es ep eo other next k) ∙ e')) g)))

  pub no_triple : instance_of pattern row ≡ None → filter_map (λ t. agree pattern t row) graph ≡ []
  no_triple e =
      nothing_found (λ t. agree pattern t row) graph
      (λ other g. none_unless _ (λ next k. none_some (sym e ∙ instance_at ∙ no_other pattern row s p o es ep eo other next k)))

-- what matches a pattern that is a triple of the graph without changing the row, and others
pub matches_kept : (graph : List Triple) (pattern : PatternTriple) (patterns : List PatternTriple) (row : List (Option Term))
    → filter_map (λ t. agree pattern t row) graph ≡ row ∷ [] → matches_from graph (pattern ∷ patterns) row ≡ matches_from graph patterns row
matches_kept graph pattern patterns row e = ap (flat_map (matches_from graph patterns)) e ∙ append-nil (matches_from graph patterns row)

pub matches_lost : (graph : List Triple) (pattern : PatternTriple) (patterns : List PatternTriple) (row : List (Option Term))
    → filter_map (λ t. agree pattern t row) graph ≡ [] → matches_from graph (pattern ∷ patterns) row ≡ []
matches_lost graph pattern patterns row e = ap (flat_map (matches_from graph patterns)) e

-- patterns one after another
pub one_checked : (graph : List Triple) (patterns : List (Bor PatternTriple)) (i : ℕ) (pattern : Bor PatternTriple) (rest : List PatternTriple) (row : List (Option Term))
    → i < length patterns → pattern ≡ get_or patterns i pattern → filter_map (λ t. agree pattern.now t row) graph ≡ row ∷ []
    → matches_from graph (map (λ x. x.now) (drop i patterns) ++ rest) row ≡ matches_from graph (map (λ x. x.now) (drop (i + 1) patterns) ++ rest) row
one_checked graph [] i pattern rest row l is e = absurd (omega (arith, l))
one_checked graph (first ∷ patterns) zero pattern rest row l is e =
    matches_kept graph first.now (map (λ x. x.now) patterns ++ rest) row (subst (λ (p : Bor PatternTriple). filter_map (λ t. agree p.now t row) graph ≡ row ∷ []) is e)
one_checked graph (first ∷ patterns) (suc i) pattern rest row l is e =
    let n : suc i + 1 ≡ suc (i + 1) = omega arith in rw n (one_checked graph patterns i pattern rest row (omega (arith, l)) is e)

pub one_lost : (graph : List Triple) (patterns : List (Bor PatternTriple)) (i : ℕ) (pattern : Bor PatternTriple) (rest : List PatternTriple) (row : List (Option Term))
    → i < length patterns → pattern ≡ get_or patterns i pattern → filter_map (λ t. agree pattern.now t row) graph ≡ []
    → matches_from graph (map (λ x. x.now) (drop i patterns) ++ rest) row ≡ []
one_lost graph [] i pattern rest row l is e = absurd (omega (arith, l))
one_lost graph (first ∷ patterns) zero pattern rest row l is e =
    matches_lost graph first.now (map (λ x. x.now) patterns ++ rest) row (subst (λ (p : Bor PatternTriple). filter_map (λ t. agree p.now t row) graph ≡ []) is e)
one_lost graph (first ∷ patterns) (suc i) pattern rest row l is e = one_lost graph patterns i pattern rest row (omega (arith, l)) is e
