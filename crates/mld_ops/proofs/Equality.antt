-- The test `==` on pairs tells whether they are the same, so that `contains` tells whether a pair is a member.
use Rattle.std.proofs.Common.{◌≡◌, ◌∙◌, Bool, true, ◌&&◌, nat_eq, ◌==◌, IsTrue, ◌↔◌, List, [], ◌∷◌, refl, ap, sym, inl, inr}
use Rattle.std.proofs.lemmas.Bool.{and_parts, and_from, or_cases, or_left, or_right, false≢true}
use Rattle.std.proofs.lemmas.Bool.Decides.{Decides-eqb}
use Rattle.std.proofs.lemmas.Cmp.{tied_itself}
use Rattle.std.specs.Bool.{Decides}
use Rattle.std.specs.Cmp.Lexicographic.{pointwise, bytes_decides}
use Rattle.std.specs.List.{list_any}
use Rattle.std.specs.Ordering.{eq_by_cmp, is_eq}
use Rattle.std.specs.declared.cmp.Ordering.{Ordering}
use Rattle.std.specs.declared.cmp.Ordering.TheVariants.{Less, Equal, Greater}
use Rattle.rdf_terms.specs.declared.terms.Triple.{Triple}
use Rattle.rdf_terms.specs.Order.{triple_cmp}
use Rattle.rdf_terms.specs.OrderLaws.{triple_total, triple_exact}
use Rattle.tree_clock.specs.Lists.{Has}
use Rattle.mld_ops.specs.declared.tagged.Tagged.{Tagged}
use Rattle.mld_ops.specs.EffectEquality.{same_pair}
use Rattle.mld_ops.proofs.OperationLaws.{same_dot}

tied : (o : Ordering) → is_eq o ≡ true → o ≡ Equal
tied Less h = absurd (false≢true h)
tied Equal h = refl
tied Greater h = absurd (false≢true h)

-- the test of triples
pub triple_decides : (a b : Triple) → Decides (eq_by_cmp triple_cmp a b) (a ≡ b)
triple_decides a b = (λ h. triple_exact a b (tied (triple_cmp a b) h), λ e. ap is_eq (ap (triple_cmp a) (sym e) ∙ tied_itself triple_total a))

-- the test of pairs
pub pair_decides : (a b : Tagged) → Decides (same_pair a b) (a ≡ b)
pair_decides a b = (
  λ h. let p = and_parts (eq_by_cmp triple_cmp a.triple b.triple) (pointwise nat_eq a.dot.path b.dot.path && (a.dot.tick == b.dot.tick)) h in
      let q = and_parts (pointwise nat_eq a.dot.path b.dot.path) (a.dot.tick == b.dot.tick) p.1 in
      let t = (triple_decides a.triple b.triple).0 p.0 in
      let d = same_dot a.dot b.dot ((bytes_decides a.dot.path b.dot.path).0 q.0) ((Decides-eqb a.dot.tick b.dot.tick).0 q.1) in
      λ i. record { triple = t i; dot = d i },
  λ e. and_from (eq_by_cmp triple_cmp a.triple b.triple) (pointwise nat_eq a.dot.path b.dot.path && (a.dot.tick == b.dot.tick))
      ((triple_decides a.triple b.triple).1 (ap (λ (p : Tagged). p.triple) e))
      (and_from (pointwise nat_eq a.dot.path b.dot.path) (a.dot.tick == b.dot.tick)
      ((bytes_decides a.dot.path b.dot.path).1 (ap (λ (p : Tagged). p.dot.path) e))
      ((Decides-eqb a.dot.tick b.dot.tick).1 (ap (λ (p : Tagged). p.dot.tick) e))),
)

-- a list has a pair where one of its elements is the same
pub has_from_any : (xs : List Tagged) (x : Tagged) → IsTrue (list_any (λ y. same_pair y x) xs) ↔ Has xs x
has_from_any [] x = (λ h. absurd (false≢true h), λ h. absurd h)
has_from_any (y ∷ xs) x = (
  λ h. elim (or_cases (same_pair y x) (list_any (λ z. same_pair z x) xs) h) [
    | inl e ↦ inl ((pair_decides y x).0 e)
    | inr k ↦ inr ((has_from_any xs x).0 k)
  ],
  λ h. elim h [
    | inl e ↦ or_left (same_pair y x) (list_any (λ z. same_pair z x) xs) ((pair_decides y x).1 e)
    | inr k ↦ or_right (same_pair y x) (list_any (λ z. same_pair z x) xs) ((has_from_any xs x).1 k)
  ],
)

pub contains_tells : (xs : List Tagged) (x : Tagged) (r : Bool) → r ≡ list_any (λ y. same_pair y x) xs → IsTrue r ↔ Has xs x
contains_tells xs x r e = rw e (has_from_any xs x)
