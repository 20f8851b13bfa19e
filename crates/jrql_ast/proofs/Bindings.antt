-- Binding: it doesn't matter in which order slots are bound.
use Rattle.std.proofs.Common.{◌≡◌, ◌∙◌, ℕ, zero, suc, ◌⊎◌, List, [], ◌∷◌, Bool, true, false, Option, None, Some, if◌then◌else◌, get_or, set, option_and_then, refl, sym, ap, subst, inl, inr, true≢false}
use Rattle.std.proofs.lemmas.Bool.{cases_Bool, cases_eq}
use Rattle.std.proofs.lemmas.Map.Views.{tells_apart}
use Rattle.rdf_terms.specs.declared.terms.Term.{Term}
use Rattle.rdf_terms.specs.declared.terms.Term.TheVariants as terms
use Rattle.rdf_terms.specs.declared.terms.Triple.{Triple}
use Rattle.rdf_terms.specs.OrderLaws.{term_exact}
use Rattle.jrql_ast.specs.declared.patterns.PatternTriple.{PatternTriple}
use Rattle.jrql_ast.specs.declared.patterns.Slot.{Slot}
use Rattle.jrql_ast.specs.declared.patterns.Slot.TheVariants as slots
use Rattle.jrql_ast.specs.Solutions.{is_same_term, value_of, bind_from, bind, agree}

-- a place that is set, and the others
pub get_set_other : {X : Type 0} (xs : List X) (i j : ℕ) (x d : X) → (i ≡ j → ⊥) → get_or (set xs i x) j d ≡ get_or xs j d
get_set_other [] i j x d apart = refl
get_set_other (y ∷ ys) zero zero x d apart = absurd (apart refl)
get_set_other (y ∷ ys) zero (suc j) x d apart = refl
get_set_other (y ∷ ys) (suc i) zero x d apart = refl
get_set_other (y ∷ ys) (suc i) (suc j) x d apart = get_set_other ys i j x d (λ e. apart (ap suc e))

-- a place that is there is what it was set to; nothing becomes of one that isn't
pub set_or_out : {X : Type 0} (xs : List X) (i : ℕ) → ((x d : X) → get_or (set xs i x) i d ≡ x) ⊎ ((x : X) → set xs i x ≡ xs)
set_or_out [] i = inr (λ x. refl)
set_or_out (y ∷ ys) zero = inl (λ x d. refl)
set_or_out {X} (y ∷ ys) (suc i) = elim (set_or_out ys i) as (λ _. ((x d : X) → get_or (set (y ∷ ys) (suc i) x) (suc i) d ≡ x) ⊎ ((x : X) → set (y ∷ ys) (suc i) x ≡ y ∷ ys)) [
  | inl there ↦ inl there
  | inr out ↦ inr (λ x. ap (λ zs. y ∷ zs) (out x))
]

set_commutes : {X : Type 0} (xs : List X) (i j : ℕ) (x y : X) → (i ≡ j → ⊥) → set (set xs i x) j y ≡ set (set xs j y) i x
set_commutes [] i j x y apart = refl
set_commutes (z ∷ zs) zero zero x y apart = absurd (apart refl)
set_commutes (z ∷ zs) zero (suc j) x y apart = refl
set_commutes (z ∷ zs) (suc i) zero x y apart = refl
set_commutes (z ∷ zs) (suc i) (suc j) x y apart = ap (λ l. z ∷ l) (set_commutes zs i j x y (λ e. apart (ap suc e)))

-- what comes after a value that may be there
pub then_none : {X Y : Type 0} (o : Option X) → option_and_then {T = X} {U = Y} (λ x. None) o ≡ None
then_none None = refl
then_none (Some x) = refl

pub then_some : {X : Type 0} (o : Option X) → option_and_then (λ x. Some x) o ≡ o
then_some None = refl
then_some (Some x) = refl

pub then_then : {X Y Z : Type 0} (f : X → Option Y) (g : Y → Option Z) (o : Option X) → option_and_then g (option_and_then f o) ≡ option_and_then (λ x. option_and_then g (f x)) o
then_then f g None = refl
then_then f g (Some x) = refl

-- a row that is kept or refused by a test of its own
kept_commutes : {X : Type 0} (b : Bool) (g : X → Option X) (row : X)
    → option_and_then g (if b then Some row else None) ≡ option_and_then (λ r. if b then Some r else None) (g row)
kept_commutes true g row = sym (then_some (g row))
kept_commutes false g row = sym (then_none (g row))

both_kept : {X : Type 0} (f g : X → Option X) (b c : Bool) (row : X) → f row ≡ (if b then Some row else None) → g row ≡ (if c then Some row else None)
    → option_and_then g (if b then Some row else None) ≡ option_and_then f (if c then Some row else None)
both_kept f g true true row e h = h ∙ sym e
both_kept f g true false row e h = h
both_kept f g false true row e h = sym e
both_kept f g false false row e h = refl

-- the same term, whichever is asked first
not_same : (t u : Term) → is_same_term t u ≡ false → is_same_term u t ≡ false
not_same t u differ = elim (cases_Bool (is_same_term u t)) [
  | inl same ↦ absurd (true≢false (sym (subst (λ x. is_same_term x t ≡ true) (tells_apart term_exact u t same) same) ∙ subst (λ x. is_same_term t x ≡ false) (tells_apart term_exact u t same) differ))
  | inr other ↦ other
]

-- a variable whose value is known
pub bind_at : (variable : ℕ) (term : Term) (row : List (Option Term)) (o : Option Term) → value_of variable row ≡ o
    → bind (slots.Var variable) term row ≡ bind_from o variable term row
bind_at variable term row o e = ap (λ o. bind_from o variable term row) e

one_unbound : (v : ℕ) (t u : Term) (row : List (Option Term)) → value_of v row ≡ None
    → bind (slots.Var v) u (set row v (Some t)) ≡ bind (slots.Var v) t (set row v (Some u))
one_unbound v t u row e = elim (set_or_out row v) [
  | inl there ↦ elim (cases_Bool (is_same_term t u)) [
    | inl same ↦ subst (λ x. bind (slots.Var v) x (set row v (Some t)) ≡ bind (slots.Var v) t (set row v (Some x))) (tells_apart term_exact t u same) refl
    | inr differ ↦ bind_at v u (set row v (Some t)) (Some t) (there (Some t) None) ∙ refused _ _ differ
        ∙ sym (bind_at v t (set row v (Some u)) (Some u) (there (Some u) None) ∙ refused _ _ (not_same t u differ))
  ]
  | inr out ↦ ap (bind (slots.Var v) u) (out (Some t)) ∙ bind_at v u row None e ∙ ap Some (out (Some u))
      ∙ sym (ap (bind (slots.Var v) t) (out (Some u)) ∙ bind_at v t row None e ∙ ap Some (out (Some t)))
]
  where
    refused : (b : Bool) (r : List (Option Term)) → b ≡ false → (if b then Some r else None) ≡ None
    refused b r e = rw e

one_variable : (v : ℕ) (t u : Term) (row : List (Option Term)) (o : Option Term) → value_of v row ≡ o
    → option_and_then (bind (slots.Var v) u) (bind_from o v t row) ≡ option_and_then (bind (slots.Var v) t) (bind_from o v u row)
one_variable v t u row None e = one_unbound v t u row e
one_variable v t u row (Some x) e =
    both_kept (bind (slots.Var v) t) (bind (slots.Var v) u) (is_same_term x t) (is_same_term x u) row (bind_at v t row (Some x) e) (bind_at v u row (Some x) e)

one_free : (v w : ℕ) (t u y : Term) (row : List (Option Term)) → (v ≡ w → ⊥) → value_of v row ≡ None → value_of w row ≡ Some y
    → bind (slots.Var w) u (set row v (Some t)) ≡ option_and_then (bind (slots.Var v) t) (bind_from (Some y) w u row)
one_free v w t u y row apart e h =
    bind_at w u (set row v (Some t)) (Some y) (get_set_other row v w (Some t) None apart ∙ h)
    ∙ by (is_same_term y u)
  where
    by : (b : Bool) → (if b then Some (set row v (Some t)) else None) ≡ option_and_then (bind (slots.Var v) t) (if b then Some row else None)
    by true = sym (bind_at v t row None e)
    by false = refl

two_variables : (v w : ℕ) (t u : Term) (row : List (Option Term)) (o q : Option Term) → (v ≡ w → ⊥) → value_of v row ≡ o → value_of w row ≡ q
    → option_and_then (bind (slots.Var w) u) (bind_from o v t row) ≡ option_and_then (bind (slots.Var v) t) (bind_from q w u row)
two_variables v w t u row None None apart e h =
    bind_at w u (set row v (Some t)) None (get_set_other row v w (Some t) None apart ∙ h)
    ∙ ap Some (set_commutes row v w (Some t) (Some u) apart)
    ∙ sym (bind_at v t (set row w (Some u)) None (get_set_other row w v (Some u) None (λ e. apart (sym e)) ∙ e))
two_variables v w t u row None (Some y) apart e h = one_free v w t u y row apart e h
two_variables v w t u row (Some x) None apart e h = sym (one_free w v u t x row (λ e. apart (sym e)) h e)
two_variables v w t u row (Some x) (Some y) apart e h =
    both_kept (bind (slots.Var v) t) (bind (slots.Var w) u) (is_same_term x t) (is_same_term y u) row (bind_at v t row (Some x) e) (bind_at w u row (Some y) h)

variables_commute : (v w : ℕ) (t u : Term) (row : List (Option Term))
    → option_and_then (bind (slots.Var w) u) (bind (slots.Var v) t row) ≡ option_and_then (bind (slots.Var v) t) (bind (slots.Var w) u row)
variables_commute v w t u row = elim (cases_eq v w) [
  | inl e ↦ subst (λ x. option_and_then (bind (slots.Var x) u) (bind (slots.Var v) t row) ≡ option_and_then (bind (slots.Var v) t) (bind (slots.Var x) u row)) e
      (one_variable v t u row (value_of v row) refl)
  | inr apart ↦ two_variables v w t u row (value_of v row) (value_of w row) apart refl refl
]

-- two functions of rows that may come in either order
abbrev pub Commute : (List (Option Term) → Option (List (Option Term))) → (List (Option Term) → Option (List (Option Term))) → Type 0
Commute f g = (row : List (Option Term)) → option_and_then g (f row) ≡ option_and_then f (g row)

bind_commutes : (a b : Slot) (t u : Term) → Commute (bind a t) (bind b u)
bind_commutes (slots.Term x) b t u row = kept_commutes (is_same_term x t) (bind b u) row
bind_commutes (slots.Fresh n) b t u row = sym (then_none (bind b u row))
bind_commutes (slots.Var v) (slots.Term x) t u row = sym (kept_commutes (is_same_term x u) (bind (slots.Var v) t) row)
bind_commutes (slots.Var v) (slots.Fresh n) t u row = then_none (bind (slots.Var v) t row)
bind_commutes (slots.Var v) (slots.Var w) t u row = variables_commute v w t u row

commute_then : (f g h : List (Option Term) → Option (List (Option Term))) → Commute f g → Commute f h → Commute f (λ row. option_and_then h (g row))
commute_then f g h fg fh row =
    sym (then_then g h (f row)) ∙ ap (option_and_then h) (fg row) ∙ then_then f h (g row) ∙ by (g row) ∙ sym (then_then h f (g row))
  where
    by : (o : Option (List (Option Term))) → option_and_then (λ r. option_and_then h (f r)) o ≡ option_and_then (λ r. option_and_then f (h r)) o
    by None = refl
    by (Some r) = fh r

-- a slot and a pattern, and two patterns
slot_agree : (f : List (Option Term) → Option (List (Option Term))) (q : PatternTriple) (u : Triple)
    → Commute f (bind q.s (terms.Iri u.s)) → Commute f (bind q.p (terms.Iri u.p)) → Commute f (bind q.o u.o) → Commute f (agree q u)
slot_agree f q u s p o =
    commute_then f (λ row. option_and_then (bind q.p (terms.Iri u.p)) (bind q.s (terms.Iri u.s) row)) (bind q.o u.o)
    (commute_then f (bind q.s (terms.Iri u.s)) (bind q.p (terms.Iri u.p)) s p) o

turned : (f g : List (Option Term) → Option (List (Option Term))) → Commute f g → Commute g f
turned f g h row = sym (h row)

pub agree_commutes : (p q : PatternTriple) (t u : Triple) → Commute (agree p t) (agree q u)
agree_commutes p q t u =
    slot_agree (agree p t) q u (with q.s (terms.Iri u.s)) (with q.p (terms.Iri u.p)) (with q.o u.o)
  where
    with : (b : Slot) (x : Term) → Commute (agree p t) (bind b x)
    with b x = turned (bind b x) (agree p t) (slot_agree (bind b x) p t (bind_commutes b p.s x (terms.Iri t.s)) (bind_commutes b p.p x (terms.Iri t.p)) (bind_commutes b p.o x t.o))
