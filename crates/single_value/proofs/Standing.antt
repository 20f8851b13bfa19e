-- The pairs of a triple's subject and property, and the values that an effect spares.
use Rattle.std.proofs.Common.{◌≡◌, ◌∙◌, ℕ, zero, suc, ◌<◌, List, [], ◌∷◌, length, get_or, slice_get, Bool, true, false, not, ◌&&◌, nat_eq, None, Some, IsTrue, ◌↔◌, refl, sym, ap, subst, inl, inr, arith}
use Rattle.std.proofs.lemmas.Bool.{and_parts, and_from, false≢true}
use Rattle.std.proofs.lemmas.Cmp.{tied_itself}
use Rattle.std.specs.Bool.{Decides}
use Rattle.std.specs.Cmp.Lexicographic.{pointwise, bytes_decides}
use Rattle.std.specs.List.{AllByRecursion}
use Rattle.std.specs.Ordering.{eq_by_cmp, is_eq}
use Rattle.std.specs.declared.cmp.Ordering.{Ordering}
use Rattle.std.specs.declared.cmp.Ordering.TheVariants.{Less, Equal, Greater}
use Rattle.rdf_terms.specs.declared.terms.Term.{Term}
use Rattle.rdf_terms.specs.declared.terms.Triple.{Triple}
use Rattle.rdf_terms.specs.Order.{term_cmp}
use Rattle.rdf_terms.specs.OrderLaws.{term_total, term_exact}
use Rattle.tree_clock.specs.Lists.{Has}
use Rattle.mld_ops.specs.declared.tagged.Tagged.{Tagged}
use Rattle.mld_ops.specs.Breaches.{IsValueOf}
use Rattle.mld_ops.specs.Effects.{EffectValue}
use Rattle.mld_ops.proofs.AscendingLaws.{has_at}
use Rattle.graph_index.specs.Matching.{FindsEach, matches}
use Rattle.single_value.specs.OtherValues.{IsSparedOther, SparesOther}

-- the test of terms
tied : (o : Ordering) → is_eq o ≡ true → o ≡ Equal
tied Less h = absurd (false≢true h)
tied Equal h = refl
tied Greater h = absurd (false≢true h)

term_decides : (a b : Term) → Decides (eq_by_cmp term_cmp a b) (a ≡ b)
term_decides a b = (λ h. term_exact a b (tied (term_cmp a b) h), λ e. ap is_eq (ap (term_cmp a) (sym e) ∙ tied_itself term_total a))

-- what both tests of a pair tell
pub differs_and_stands : (effect : EffectValue) (triple : Triple) (pair : Tagged) (deletes : List Tagged) (ne has : Bool)
    → ne ≡ not (eq_by_cmp term_cmp pair.triple.o triple.o) → ne ≡ true → deletes ≡ effect.deletes → (IsTrue has ↔ Has deletes pair)
    → IsTrue (not has) ↔ IsSparedOther effect triple pair
differs_and_stands effect triple pair deletes ne has n t e tells = (
  λ h. record {
    differs = λ d. false≢true (sym (n ∙ ap not ((term_decides pair.triple.o triple.o).1 d)) ∙ t);
    stands = λ k. false≢true (sym (ap not (tells.1 (subst (λ l. Has l pair) (sym e) k))) ∙ h);
  },
  λ o. by has (λ t. o.stands (subst (λ l. Has l pair) e (tells.0 t))),
)
  where
    by : (b : Bool) → ¬ IsTrue b → IsTrue (not b)
    by true none = absurd (none refl)
    by false none = refl

pub alike : (effect : EffectValue) (triple : Triple) (pair : Tagged) (ne : Bool) → ne ≡ not (eq_by_cmp term_cmp pair.triple.o triple.o) → ne ≡ false
    → IsTrue ne ↔ IsSparedOther effect triple pair
alike effect triple pair ne n f = (
  λ t. absurd (false≢true (sym f ∙ t)),
  λ o. absurd (o.differs ((term_decides pair.triple.o triple.o).0 (by (eq_by_cmp term_cmp pair.triple.o triple.o) (sym n ∙ f)))),
)
  where
    by : (b : Bool) → not b ≡ false → b ≡ true
    by true e = refl
    by false e = absurd (false≢true (sym e))

-- a pair matches just where it has the subject and the property
value_of_match : (s p : List ℕ) (pair : Tagged) → IsTrue (matches (Some s) (Some p) None pair) → IsValueOf s p pair.triple
value_of_match s p pair m =
    let a = and_parts (pointwise nat_eq s pair.triple.s) (pointwise nat_eq p pair.triple.p && true) m in
    let b = and_parts (pointwise nat_eq p pair.triple.p) true a.1 in
    record { subject_is = sym ((bytes_decides s pair.triple.s).0 a.0); property_is = sym ((bytes_decides p pair.triple.p).0 b.0) }

match_of_value : (s p : List ℕ) (pair : Tagged) → IsValueOf s p pair.triple → IsTrue (matches (Some s) (Some p) None pair)
match_of_value s p pair v =
    and_from (pointwise nat_eq s pair.triple.s) (pointwise nat_eq p pair.triple.p && true) ((bytes_decides s pair.triple.s).1 (sym v.subject_is))
    (and_from (pointwise nat_eq p pair.triple.p) true ((bytes_decides p pair.triple.p).1 (sym v.property_is)) refl)

module _ (pairs found : List Tagged) (effect : EffectValue) (triple : Triple) (each : FindsEach (matches (Some triple.s) (Some triple.p) None) pairs found) where
  -- a pair that was found and is another value's
  pub spares_by : (pair : Tagged) → Has found pair → IsSparedOther effect triple pair → SparesOther pairs effect triple
  spares_by pair h o =
      let m = (each.members pair).0 h in
      record {
        other = pair.triple;
        spared = record { pair = pair; stands = m.0; spared = o.stands; is = refl };
        is = record { value = value_of_match triple.s triple.p pair m.1; differs = o.differs };
      }

  -- where none of those that were found is, none is
  pub spares_none : ((pair : Tagged) → Has found pair → ¬ IsSparedOther effect triple pair) → ¬ SparesOther pairs effect triple
  spares_none none h =
      let q = h.spared in
      none q.pair
      ((each.members q.pair).1 (
        q.stands,
        match_of_value triple.s triple.p q.pair (record {
          subject_is = ap (λ (t : Triple). t.s) q.is ∙ h.is.value.subject_is;
          property_is = ap (λ (t : Triple). t.p) q.is ∙ h.is.value.property_is;
        }),
      ))
      (record { differs = λ e. h.is.differs (sym (ap (λ (t : Triple). t.o) q.is) ∙ e); stands = q.spared })

-- ---- a list by its places

-- what stands at a place
pub at_place : {X : Type 0} (xs : List X) (i : ℕ) → i < length xs → (x : X) × (slice_get xs i ≡ Some x) × (x ≡ get_or xs i x)
at_place [] i l = absurd (omega (arith, l))
at_place (x ∷ xs) zero l = (x, refl, refl)
at_place (x ∷ xs) (suc i) l = let there = at_place xs i (omega (arith, l)) in (there.0, there.1, there.2)

pub has_there : {X : Type 0} (xs : List X) (i : ℕ) (x : X) → i < length xs → x ≡ get_or xs i x → Has xs x
has_there xs i x l e = subst (Has xs) (sym e) (has_at xs i x l)

-- what holds of no element
pub none_of : {X : Type 0} (P : X → Type 0) (xs : List X) → AllByRecursion (λ x. ¬ P x) xs → (y : X) → Has xs y → ¬ P y
none_of P [] none y h = absurd h
none_of P (x ∷ xs) none y (inl e) = λ p. none.0 (subst P (sym e) p)
none_of P (x ∷ xs) none y (inr h) = none_of P xs none.1 y h

pub some_there : {X : Type 0} (x y : X) → Some x ≡ Some y → x ≡ y
some_there x y e = cc

pub none_there : {X : Type 0} (x : X) → None ≡ Some x → ⊥
none_there x e = cc

-- what is not false is true
pub told : (is : Bool) → ¬ (¬ IsTrue is) → IsTrue is
told true n = refl
told false n = absurd (n (λ t. false≢true t))
