-- Rows of terms that stand as numbers of a graph: what they have, and what becomes of them where a number is bound.
use Rattle.std.proofs.Common.{◌≡◌, ◌∙◌, ℕ, zero, suc, List, [], ◌∷◌, ◌⊎◌, Bool, true, false, nat_eq, Option, None, Some, IsSome, IfSome, if◌then◌else◌, length, get_or, set, replicate, option_and_then, refl, sym, ap, subst, inl, inr, true≢false, eqb-true, eq-eqb, length-set}
use Rattle.std.proofs.lemmas.Bool.{cases_Bool}
use Rattle.std.proofs.lemmas.List.{length-map, map-set}
use Rattle.std.proofs.lemmas.Map.Views.{tells_apart}
use Rattle.rdf_terms.specs.declared.terms.Term.{Term}
use Rattle.rdf_terms.specs.OrderLaws.{term_exact}
use Rattle.graph_index.specs.hinted_chunks.tree_clock.Lists.{Has}
use Rattle.graph_index.specs.Graphs.{GraphValue}
use Rattle.graph_index.specs.Numbered.{term_numbered, StandForOwn}
use Rattle.jrql_ast.specs.Solutions.{is_same_term, value_of, bind_from}
use Rattle.jrql_ast.proofs.BoundSlots.{same_refl, none_some}
use Rattle.jrql_rows.specs.Bindings.{AreOwnNumbers, BindsNumber, IsBinding, row_numbered}
use Rattle.jrql_rows.specs.Unbinding.{BindsFree, cleared, if_free}

pub some_there : {X : Type 0} (o : Option X) → IsSome o → (x : X) × (o ≡ Some x)
some_there None h = absurd (true≢false (sym h))
some_there (Some x) h = (x, refl)

has_at : (numbers : List (Option ℕ)) (v n : ℕ) → get_or numbers v None ≡ Some n → Has numbers (Some n)
has_at [] v n e = none_some e
has_at (x ∷ numbers) zero n e = inl e
has_at (x ∷ numbers) (suc v) n e = inr (has_at numbers v n e)

has_set : {X : Type 0} (xs : List X) (i : ℕ) (a z : X) → Has (set xs i a) z → (a ≡ z) ⊎ Has xs z
has_set [] i a z h = absurd h
has_set (x ∷ xs) zero a z (inl e) = inl e
has_set (x ∷ xs) zero a z (inr h) = inr (inr h)
has_set (x ∷ xs) (suc i) a z (inl e) = inr (inl e)
has_set (x ∷ xs) (suc i) a z (inr h) = elim (has_set xs i a z h) [ inl e ↦ inl e | inr k ↦ inr (inr k) ]

number_is : (n m : ℕ) → Some n ≡ Some m → n ≡ m
number_is n m e = ap (number_or n) e
  where
    number_or : ℕ → Option ℕ → ℕ
    number_or d None = d
    number_or d (Some k) = k

none_has : (places n : ℕ) → Has (replicate places None) (Some n) → ⊥
none_has zero n h = h
none_has (suc places) n (inl e) = none_some e
none_has (suc places) n (inr h) = none_has places n h

module _ (graph : GraphValue) where
  -- what a row has for a variable
  pub row_at : (numbers : List (Option ℕ)) (v : ℕ) → option_and_then (term_numbered graph) (get_or numbers v None) ≡ value_of v (row_numbered graph numbers)
  row_at [] v = refl
  row_at (n ∷ numbers) zero = refl
  row_at (n ∷ numbers) (suc v) = row_at numbers v

  pub some_at : (numbers : List (Option ℕ)) (v n : ℕ) → AreOwnNumbers graph numbers → get_or numbers v None ≡ Some n → IsSome (value_of v (row_numbered graph numbers))
  some_at numbers v n own e =
      subst (λ (o : Option Term). IsSome o) (sym (ap (option_and_then (term_numbered graph)) e) ∙ row_at numbers v) (own.named n (has_at numbers v n e))

  -- where nothing is bound
  pub none_numbered : (places : ℕ) → row_numbered graph (replicate places None) ≡ replicate places None
  none_numbered zero = refl
  none_numbered (suc places) = ap (λ l. None ∷ l) (none_numbered places)

  pub none_own : (places : ℕ) → StandForOwn graph → AreOwnNumbers graph (replicate places None)
  none_own places own = record { named = λ n h. absurd (none_has places n h); own = own }

  -- where a place is made empty
  pub cleared_numbered : (old new : List (Option ℕ)) (v : Option ℕ) → new ≡ cleared v old → row_numbered graph new ≡ cleared v (row_numbered graph old)
  cleared_numbered old new None e = ap (row_numbered graph) e
  cleared_numbered old new (Some i) e = ap (row_numbered graph) e ∙ map-set (option_and_then (term_numbered graph)) old i None

  pub cleared_own : (old new : List (Option ℕ)) (v : Option ℕ) → AreOwnNumbers graph old → new ≡ cleared v old → AreOwnNumbers graph new
  cleared_own old new None own e = subst (AreOwnNumbers graph) (sym e) own
  cleared_own old new (Some i) own e =
      subst (AreOwnNumbers graph) (sym e) (record {
        named = λ n h. elim (has_set old i None (Some n) h) [
          | inl none ↦ none_some none
          | inr there ↦ own.named n there
        ];
        own = own.own;
      })

  -- once a number is bound, or isn't
  module _ (old new : List (Option ℕ)) (v number : ℕ) (agreed : Bool) (own : AreOwnNumbers graph old) where
    pub bound_own : (o : Option ℕ) → IsSome (term_numbered graph number) → BindsNumber o v number old agreed new → AreOwnNumbers graph new
    bound_own None some b =
        subst (AreOwnNumbers graph) (sym b.1) (record {
          named = λ n h. elim (has_set old v (Some number) (Some n) h) [
            | inl e ↦ subst (λ k. IsSome (term_numbered graph k)) (number_is number n e) some
            | inr k ↦ own.named n k
          ];
          own = own.own;
        })
    bound_own (Some bound) some b = subst (AreOwnNumbers graph) (sym b.1) own

    pub bound_places : (o : Option ℕ) → BindsNumber o v number old agreed new → length (row_numbered graph new) ≡ length (row_numbered graph old)
    bound_places None b =
        length-map new (option_and_then (term_numbered graph)) ∙ ap length b.1 ∙ length-set old v (Some number) ∙ sym (length-map old (option_and_then (term_numbered graph)))
    bound_places (Some bound) b = ap (λ l. length (row_numbered graph l)) b.1

    pub bound_free : (o : Option ℕ) → get_or old v None ≡ o → IsSome (term_numbered graph number) → BindsNumber o v number old agreed new
        → BindsFree (if_free v (value_of v (row_numbered graph old))) (row_numbered graph old) (row_numbered graph new)
    bound_free None e some b =
        let term = some_there (term_numbered graph number) some in
        subst (λ (o : Option Term). BindsFree (if_free v o) (row_numbered graph old) (row_numbered graph new))
        (sym (ap (option_and_then (term_numbered graph)) e) ∙ row_at old v)
        (term.0, ap (row_numbered graph) b.1 ∙ map-set (option_and_then (term_numbered graph)) old v (Some number) ∙ ap (set (row_numbered graph old) v) term.1)
    bound_free (Some bound) e some b =
        subst (λ (o : Option Term). BindsFree (if_free v o) (row_numbered graph old) (row_numbered graph new))
        (sym (ap (option_and_then (term_numbered graph)) e) ∙ row_at old v)
        (kept (term_numbered graph bound) (own.named bound (has_at old v bound e)) (ap (row_numbered graph) b.1))
      where
        kept : (o : Option Term) → IsSome o → row_numbered graph new ≡ row_numbered graph old → BindsFree (if_free v o) (row_numbered graph old) (row_numbered graph new)
        kept None there same = absurd (true≢false (sym there))
        kept (Some x) there same = same

    module _ (term : Term) (named : term_numbered graph number ≡ Some term) where
      row_bound : IsBinding (Some (row_numbered graph old)) true (row_numbered graph old)
      row_bound = (refl, refl)

      -- a variable that is bound
      by_same : (x : Term) (bound : ℕ) → term_numbered graph bound ≡ Some x → (same : Bool) → same ≡ nat_eq bound number
          → IsBinding (if is_same_term x term then Some (row_numbered graph old) else None) same (row_numbered graph old)
      by_same x bound e true h =
          let n : bound ≡ number = eqb-true bound number (sym h) in
          let t : Some x ≡ Some term = sym e ∙ ap (term_numbered graph) n ∙ named in
          subst (λ b. IsBinding (if b then Some (row_numbered graph old) else None) true (row_numbered graph old)) (sym (subst (λ y. is_same_term x y ≡ true) (term_is x term t) (same_refl x))) row_bound
        where
          term_is : (a b : Term) → Some a ≡ Some b → a ≡ b
          term_is a b e = ap (term_or a) e
            where
              term_or : Term → Option Term → Term
              term_or d None = d
              term_or d (Some k) = k
      by_same x bound e false h = elim (cases_Bool (is_same_term x term)) [
        | inl same ↦ absurd (true≢false (sym (eq_true bound number (own.own bound number term (e ∙ ap Some (tells_apart term_exact x term same)) named)) ∙ sym h))
        | inr other ↦ subst (λ b. IsBinding (if b then Some (row_numbered graph old) else None) false (row_numbered graph old)) (sym other) refl
      ]
        where
          eq_true : (a b : ℕ) → a ≡ b → nat_eq a b ≡ true
          eq_true a b e = eq-eqb a b e

      pub bound_number : (o : Option ℕ) → get_or old v None ≡ o → BindsNumber o v number old agreed new
          → IsBinding (bind_from (value_of v (row_numbered graph old)) v term (row_numbered graph old)) agreed (row_numbered graph new)
      bound_number None e b =
          subst (λ (o : Option Term). IsBinding (bind_from o v term (row_numbered graph old)) agreed (row_numbered graph new))
          (sym (ap (option_and_then (term_numbered graph)) e) ∙ row_at old v)
          (b.0, ap (row_numbered graph) b.1 ∙ map-set (option_and_then (term_numbered graph)) old v (Some number) ∙ ap (set (row_numbered graph old) v) named)
      bound_number (Some bound) e b =
          subst (λ (o : Option Term). IsBinding (bind_from o v term (row_numbered graph old)) agreed (row_numbered graph new))
          (sym (ap (option_and_then (term_numbered graph)) e) ∙ row_at old v)
          (subst (λ l. IsBinding (bind_from (term_numbered graph bound) v term (row_numbered graph old)) agreed (row_numbered graph l)) (sym b.1)
          (by (term_numbered graph bound) refl (own.named bound (has_at old v bound e))))
        where
          by : (o : Option Term) → term_numbered graph bound ≡ o → IsSome o → IsBinding (bind_from o v term (row_numbered graph old)) agreed (row_numbered graph old)
          by None t some = absurd (true≢false (sym some))
          by (Some x) t some = by_same x bound t agreed b.0

-- what a row has for a variable that has a number
pub some_if : (graph : GraphValue) (numbers : List (Option ℕ)) (v : ℕ) (row : List (Option Term)) → AreOwnNumbers graph numbers → row_numbered graph numbers ≡ row
    → (r : Option ℕ) → r ≡ get_or numbers v None → IfSome r (λ n. IsSome (value_of v row))
some_if graph numbers v row own e None h = tt
some_if graph numbers v row own e (Some n) h = subst (λ l. IsSome (value_of v l)) e (some_at graph numbers v n own (sym h))
