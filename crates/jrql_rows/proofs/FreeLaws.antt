-- A row in which the free variables of a pattern were bound is the one before once they are unbound.
use Rattle.std.proofs.Common.{◌≡◌, ◌∙◌, ℕ, zero, suc, List, [], ◌∷◌, Option, None, Some, get_or, set, refl, sym, ap, subst, set-set}
use Rattle.std.proofs.lemmas.List.{set-get_or}
use Rattle.rdf_terms.specs.declared.terms.Term.{Term}
use Rattle.jrql_ast.specs.declared.patterns.PatternTriple.{PatternTriple}
use Rattle.jrql_ast.specs.declared.patterns.Slot.{Slot}
use Rattle.jrql_ast.specs.declared.patterns.Slot.TheVariants as slots
use Rattle.jrql_ast.specs.Solutions.{value_of}
use Rattle.jrql_ast.proofs.BoundSlots.{none_some, some_is}
use Rattle.jrql_rows.specs.declared.binding.FreeVariables.{FreeVariables}
use Rattle.jrql_rows.specs.Bindings.{BindingsValue}
use Rattle.jrql_rows.specs.Unbinding.{BindsFree, all_cleared, cleared, free_variable, free_variables, if_free}

-- ---- places that are made empty
module _ {X : Type 0} where
  clears_turned : (xs : List (Option X)) (i j : ℕ) → set (set xs i None) j None ≡ set (set xs j None) i None
  clears_turned [] i j = refl
  clears_turned (x ∷ xs) zero zero = refl
  clears_turned (x ∷ xs) zero (suc j) = refl
  clears_turned (x ∷ xs) (suc i) zero = refl
  clears_turned (x ∷ xs) (suc i) (suc j) = ap (λ l. x ∷ l) (clears_turned xs i j)

  cleared_turned : (a b : Option ℕ) (xs : List (Option X)) → cleared a (cleared b xs) ≡ cleared b (cleared a xs)
  cleared_turned None b xs = refl
  cleared_turned (Some i) None xs = refl
  cleared_turned (Some i) (Some j) xs = clears_turned xs j i

  -- what stood there doesn't matter
  cleared_set : (a : Option ℕ) (v : ℕ) (x : Option X) (xs : List (Option X)) → a ≡ Some v → cleared a (set xs v x) ≡ cleared a xs
  cleared_set None v x xs e = none_some e
  cleared_set (Some i) v x xs e = subst (λ (k : ℕ). set (set xs v x) k None ≡ set xs k None) (sym (some_is i v e)) (set-set xs v x None)

  -- a place that is empty once another was filled was so before
  empty_before : (xs : List (Option X)) (v k : ℕ) (x : X) → get_or (set xs v (Some x)) k None ≡ None → get_or xs k None ≡ None
  empty_before [] v k x e = refl
  empty_before (y ∷ xs) zero zero x e = none_some (sym e)
  empty_before (y ∷ xs) zero (suc k) x e = e
  empty_before (y ∷ xs) (suc v) zero x e = e
  empty_before (y ∷ xs) (suc v) (suc k) x e = empty_before xs v k x e

-- three places, of which one is set first
module _ {X : Type 0} (a b c : Option ℕ) (v : ℕ) (x : Option X) (xs : List (Option X)) where
  first_set : a ≡ Some v → cleared a (cleared b (cleared c (set xs v x))) ≡ cleared a (cleared b (cleared c xs))
  first_set e = turned (set xs v x) ∙ ap (λ (l : List (Option X)). cleared b (cleared c l)) (cleared_set a v x xs e) ∙ sym (turned xs)
    where
      turned : (l : List (Option X)) → cleared a (cleared b (cleared c l)) ≡ cleared b (cleared c (cleared a l))
      turned l = cleared_turned a b (cleared c l) ∙ ap (λ (k : List (Option X)). cleared b k) (cleared_turned a c l)

  second_set : b ≡ Some v → cleared a (cleared b (cleared c (set xs v x))) ≡ cleared a (cleared b (cleared c xs))
  second_set e = turned (set xs v x) ∙ ap (λ (l : List (Option X)). cleared a (cleared c l)) (cleared_set b v x xs e) ∙ sym (turned xs)
    where
      turned : (l : List (Option X)) → cleared a (cleared b (cleared c l)) ≡ cleared a (cleared c (cleared b l))
      turned l = ap (λ (k : List (Option X)). cleared a k) (cleared_turned b c l)

  third_set : c ≡ Some v → cleared a (cleared b (cleared c (set xs v x))) ≡ cleared a (cleared b (cleared c xs))
  third_set e = ap (λ (l : List (Option X)). cleared a (cleared b l)) (cleared_set c v x xs e)

-- ---- the variables of a pattern
free_cleared : (row : List (Option Term)) (slot : Slot) → cleared (free_variable row slot) row ≡ row
free_cleared row (slots.Term term) = refl
free_cleared row (slots.Var v) = by (value_of v row) refl
  where
    by : (o : Option Term) → value_of v row ≡ o → cleared (if_free v o) row ≡ row
    by None e = ap (set row v) (sym e) ∙ set-get_or row v None
    by (Some x) e = refl
free_cleared row (slots.Fresh subject) = refl

-- the row once the pattern's variables that were free in one before are unbound is that one, and what was bound is
pub record LeadsBack (pattern : PatternTriple) (old new : List (Option Term)) : Type 0 where
  pub back : all_cleared (free_variables pattern old) new ≡ old
  pub empty : (k : ℕ) → value_of k new ≡ None → value_of k old ≡ None

module _ (pattern : PatternTriple) (old : List (Option Term)) where
  leads_first : LeadsBack pattern old old
  leads_first = record {
    back =
        ap (λ (l : List (Option Term)). cleared (free_variable old pattern.s) (cleared (free_variable old pattern.p) l)) (free_cleared old pattern.o)
        ∙ ap (λ (l : List (Option Term)). cleared (free_variable old pattern.s) l) (free_cleared old pattern.p)
        ∙ free_cleared old pattern.s;
    empty = λ k e. e;
  }

  -- once a slot more is bound
  leads_on : (slot : Slot) (row new : List (Option Term))
      → ((v : ℕ) (x : Option Term) (l : List (Option Term)) → free_variable old slot ≡ Some v
      → all_cleared (free_variables pattern old) (set l v x) ≡ all_cleared (free_variables pattern old) l)
      → LeadsBack pattern old row → BindsFree (free_variable row slot) row new → LeadsBack pattern old new
  leads_on (slots.Term term) row new clears leads b = subst (LeadsBack pattern old) (sym b) leads
  leads_on (slots.Var v) row new clears leads b = by (value_of v row) refl b
    where
      by : (o : Option Term) → value_of v row ≡ o → BindsFree (if_free v o) row new → LeadsBack pattern old new
      by None e binds = record {
        back = ap (all_cleared (free_variables pattern old)) binds.1 ∙ clears v (Some binds.0) row (ap (if_free v) (leads.empty v e)) ∙ leads.back;
        empty = λ k g. leads.empty k (empty_before row v k binds.0 (sym (ap (value_of k) binds.1) ∙ g));
      }
      by (Some x) e binds = subst (LeadsBack pattern old) (sym binds) leads
  leads_on (slots.Fresh subject) row new clears leads b = subst (LeadsBack pattern old) (sym b) leads

  pub subject_back : (new : List (Option Term)) → BindsFree (free_variable old pattern.s) old new → LeadsBack pattern old new
  subject_back new b =
      leads_on pattern.s old new (λ v x l e. first_set (free_variable old pattern.s) (free_variable old pattern.p) (free_variable old pattern.o) v x l e) leads_first b

  pub predicate_back : (row new : List (Option Term)) → LeadsBack pattern old row → BindsFree (free_variable row pattern.p) row new → LeadsBack pattern old new
  predicate_back row new leads b =
      leads_on pattern.p row new (λ v x l e. second_set (free_variable old pattern.s) (free_variable old pattern.p) (free_variable old pattern.o) v x l e) leads b

  pub object_back : (row new : List (Option Term)) → LeadsBack pattern old row → BindsFree (free_variable row pattern.o) row new → LeadsBack pattern old new
  object_back row new leads b =
      leads_on pattern.o row new (λ v x l e. third_set (free_variable old pattern.s) (free_variable old pattern.p) (free_variable old pattern.o) v x l e) leads b

-- so the row is the one before
pub unbound_again : (pattern : PatternTriple) (row bound new : BindingsValue) (free : FreeVariables) → free ≡ free_variables pattern row.row → bound.graph ≡ row.graph
    → all_cleared (free_variables pattern row.row) bound.row ≡ row.row → new.graph ≡ bound.graph → new.row ≡ all_cleared free bound.row → new ≡ row
unbound_again pattern row bound new free is same back graph unbound =
    λ i. record { graph = (graph ∙ same) i; row = (unbound ∙ ap (λ (v : FreeVariables). all_cleared v bound.row) is ∙ back) i }
