-- Laws of effects, and of what is made by them.
use Rattle.std.proofs.Common.{◌≡◌, ℕ, ◌≤◌, List, [], ◌∷◌, map, ◌⊎◌, ◌↔◌, refl, sym, ap, subst, inl, inr, arith}
use Rattle.std.proofs.lemmas.Bool.{and_parts, and_from}
use Rattle.std.specs.Bool.{Decides}
use Rattle.std.specs.Cmp.Lexicographic.{pointwise, pointwise_decides}
use Rattle.std.specs.List.{AllByRecursion}
use Rattle.std.specs.Ordering.{eq_by_cmp, nat_cmp, ordering_then}
use Rattle.rdf_terms.specs.declared.terms.Triple.{Triple}
use Rattle.rdf_terms.specs.Order.{triple_cmp}
use Rattle.rdf_terms.specs.OrderLaws.{triple_total, triple_exact}
use Rattle.tree_clock.specs.declared.dots.Dot.{Dot}
use Rattle.tree_clock.specs.declared.dots.Range.{Range}
use Rattle.tree_clock.specs.Lists.{Has, IsBelowAll, IsAscending}
use Rattle.tree_clock.specs.Dot.{IsIn, Knows}
use Rattle.tree_clock.specs.Clock.{ticks_of, Covers, IsClock, RaisesTo}
use Rattle.tree_clock.proofs.ClockLaws.{Covers-raised}
use Rattle.mld_ops.specs.declared.tagged.Tagged.{Tagged}
use Rattle.mld_ops.specs.Tagged.{tagged_cmp, insert_cmp}
use Rattle.mld_ops.specs.Effect.{range_of, IsEffect}
use Rattle.mld_ops.specs.Effects.{EffectValue, IsEffectOf, IsInOrder, MayMake, inserting, deleting, effect_entry, operation_of}
use Rattle.mld_ops.specs.EffectEquality.{same_pair, same_effect}
use Rattle.mld_ops.specs.Entry.{IsEntry}
use Rattle.mld_ops.proofs.AscendingLaws.{same_ascending}
use Rattle.mld_ops.proofs.Equality.{pair_decides, triple_decides}
use Rattle.mld_ops.proofs.TaggedLaws.{tagged_total, tagged_exact}

-- two lists have one effect
pub one_effect : (deletes : List Tagged) (inserts : List Triple) (effect other : EffectValue) → IsEffectOf deletes inserts effect → IsEffectOf deletes inserts other
    → effect ≡ other
one_effect deletes inserts effect other is are =
    let gone : effect.deletes ≡ other.deletes =
    same_ascending tagged_cmp tagged_total tagged_exact effect.deletes other.deletes is.deletes_kept.ascending are.deletes_kept.ascending
    (λ pair h. (are.deletes_kept.members pair).1 ((is.deletes_kept.members pair).0 h))
    (λ pair h. (is.deletes_kept.members pair).1 ((are.deletes_kept.members pair).0 h)) in
    let come : effect.inserts ≡ other.inserts =
    same_ascending triple_cmp triple_total triple_exact effect.inserts other.inserts is.inserts_kept.ascending are.inserts_kept.ascending
    (λ triple h. (are.inserts_kept.members triple).1 ((is.inserts_kept.members triple).0 h))
    (λ triple h. (is.inserts_kept.members triple).1 ((are.inserts_kept.members triple).0 h)) in
    λ i. record { deletes = gone i; inserts = come i }

-- the test of effects tells whether they are the same
pub effects_decide : (effect other : EffectValue) → Decides (same_effect effect other) (effect ≡ other)
effects_decide effect other = (
  λ h. let both = and_parts (pointwise same_pair effect.deletes other.deletes) (pointwise (eq_by_cmp triple_cmp) effect.inserts other.inserts) h in
      let gone : effect.deletes ≡ other.deletes = (pointwise_decides {E = same_pair} pair_decides effect.deletes other.deletes).0 both.0 in
      let come : effect.inserts ≡ other.inserts = (pointwise_decides {E = eq_by_cmp triple_cmp} triple_decides effect.inserts other.inserts).0 both.1 in
      λ i. record { deletes = gone i; inserts = come i },
  λ e. and_from (pointwise same_pair effect.deletes other.deletes) (pointwise (eq_by_cmp triple_cmp) effect.inserts other.inserts)
      ((pointwise_decides {E = same_pair} pair_decides effect.deletes other.deletes).1 (ap (λ (f : EffectValue). f.deletes) e))
      ((pointwise_decides {E = eq_by_cmp triple_cmp} triple_decides effect.inserts other.inserts).1 (ap (λ (f : EffectValue). f.inserts) e)),
)

pub inserting_ordered : (triple : Triple) → IsInOrder (inserting triple)
inserting_ordered triple = record { deletes = tt; inserts = (tt, tt) }

pub deleting_ordered : (pairs : List Tagged) → IsAscending tagged_cmp pairs → IsInOrder (deleting pairs)
deleting_ordered pairs ascending = record { deletes = ascending; inserts = tt }

-- ---- triples with a tick

module _ (tick : ℕ) where
  abbrev pub with_tick : Triple → Triple × ℕ
  with_tick triple = (triple, tick)

  has_tick : (triples : List Triple) (triple : Triple) (other : ℕ) → Has (map with_tick triples) (triple, other) → (other ≡ tick) × Has triples triple
  has_tick [] triple other h = absurd h
  has_tick (first ∷ triples) triple other (inl e) = (sym (ap (λ (insert : Triple × ℕ). insert.1) e), inl (ap (λ (insert : Triple × ℕ). insert.0) e))
  has_tick (first ∷ triples) triple other (inr h) = let k = has_tick triples triple other h in (k.0, inr k.1)

  has_with : (triples : List Triple) (triple : Triple) → Has triples triple → Has (map with_tick triples) (triple, tick)
  has_with [] triple h = absurd h
  has_with (first ∷ triples) triple (inl e) = inl (ap with_tick e)
  has_with (first ∷ triples) triple (inr h) = inr (has_with triples triple h)

  -- which they are
  pub has_ticks : (triples : List Triple) (triple : Triple) (other : ℕ) → Has (map with_tick triples) (triple, other) ↔ ((other ≡ tick) × Has triples triple)
  has_ticks triples triple other = (
    has_tick triples triple other,
    λ h. subst (λ (n : ℕ). Has (map with_tick triples) (triple, n)) (sym h.0) (has_with triples triple h.1),
  )

  below_ticks : (triple : Triple) (triples : List Triple) → IsBelowAll triple_cmp triple triples → IsBelowAll insert_cmp (with_tick triple) (map with_tick triples)
  below_ticks triple [] b = tt
  below_ticks triple (first ∷ triples) b = (ap (λ o. ordering_then o (nat_cmp tick tick)) b.0, below_ticks triple triples b.1)

  -- they ascend as the triples do
  pub ticks_ascend : (triples : List Triple) → IsAscending triple_cmp triples → IsAscending insert_cmp (map with_tick triples)
  ticks_ascend [] a = tt
  ticks_ascend (triple ∷ triples) a = (below_ticks triple triples a.0, ticks_ascend triples a.1)

  ticks_inside : (triples : List Triple) → AllByRecursion (λ (insert : Triple × ℕ). (tick ≤ insert.1) × (insert.1 ≤ tick)) (map with_tick triples)
  ticks_inside [] = tt
  ticks_inside (triple ∷ triples) = ((omega arith, omega arith), ticks_inside triples)

-- ---- the entry of an effect

-- what holds of each member holds of all
all_from_members : (P : Tagged → Type 0) (pairs : List Tagged) → ((pair : Tagged) → Has pairs pair → P pair) → AllByRecursion P pairs
all_from_members P [] h = tt
all_from_members P (pair ∷ pairs) h = (h pair (inl refl), all_from_members P pairs (λ other k. h other (inr k)))

-- it is an entry
pub effect_is_entry : (ticks time : List (List ℕ × ℕ)) (dot : Dot) (effect : EffectValue) → MayMake ticks dot effect → RaisesTo ticks time dot → IsClock time
    → IsEntry (effect_entry dot time effect)
effect_is_entry ticks time dot effect may raised clock = record {
  first = omega (arith, may.next);
  last = omega arith;
  clock = clock;
  own = let e = raised.at in omega (arith, e, may.next);
  deletes_ascend = may.ordered.deletes;
  deletes_covered = all_from_members (λ (pair : Tagged). Covers time pair.dot) effect.deletes
      (λ pair h. (Covers-raised ticks time dot pair.dot raised).1 (inl (may.covered pair h)));
  deletes_outside = all_from_members (λ (pair : Tagged). ¬ IsIn (range_of dot) pair.dot) effect.deletes (λ pair h inside.
      let w = (may.covered pair h).within in
      let e = ap (λ p. ticks_of ticks p) inside.path in
      let a = inside.above in
      absurd (omega (arith, w, e, a, may.next)));
  inserts_ascend = ticks_ascend dot.tick effect.inserts may.ordered.inserts;
  inserts_inside = ticks_inside dot.tick effect.inserts;
}

-- it carries the operation made by the effect
pub effect_carried : (dot : Dot) (causes : List Range) (time : List (List ℕ × ℕ)) (effect : EffectValue)
    → ((other : Dot) → Covers time other ↔ (Knows causes other ⊎ (other ≡ dot))) → IsEffect (operation_of dot causes effect) (effect_entry dot time effect)
effect_carried dot causes time effect known = record {
  deletes = λ pair. (λ h. h, λ h. h);
  inserts = λ triple tick. has_ticks dot.tick effect.inserts triple tick;
  time = known;
}
