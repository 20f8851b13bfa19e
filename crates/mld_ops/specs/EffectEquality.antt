-- The test whether two effects are the same.
use Rattle.std.specs.Prelude.{Bool, ◌&&◌, nat_eq}
use Rattle.std.specs.Cmp.{IsEquivalence, and_equiv, eq_by_cmp_equiv, nat_eq_equiv, on_equiv}
use Rattle.std.specs.Cmp.Lexicographic.{pointwise, lists_equiv, nat_list_eq_equiv}
use Rattle.std.specs.Ordering.{eq_by_cmp}
use Rattle.rdf_terms.specs.Order.{triple_cmp}
use Rattle.rdf_terms.specs.OrderLaws.{triple_total}
use Rattle.tree_clock.specs.declared.dots.Dot.{Dot}
use Rattle.mld_ops.specs.declared.tagged.Tagged.{Tagged}
use Rattle.mld_ops.specs.Effects.{EffectValue}

-- two pairs have one triple and one dot
abbrev pub same_pair : Tagged → Tagged → Bool
same_pair a b = eq_by_cmp triple_cmp a.triple b.triple && (pointwise nat_eq a.dot.path b.dot.path && nat_eq a.dot.tick b.dot.tick)

-- two effects delete the same pairs, and insert the same triples
abbrev pub same_effect : EffectValue → EffectValue → Bool
same_effect a b = pointwise same_pair a.deletes b.deletes && pointwise (eq_by_cmp triple_cmp) a.inserts b.inserts

pub same_pair_equiv : IsEquivalence same_pair
same_pair_equiv =
    and_equiv (on_equiv (λ (pair : Tagged). pair.triple) (eq_by_cmp_equiv triple_total))
    (on_equiv (λ (pair : Tagged). pair.dot) (and_equiv (on_equiv (λ (dot : Dot). dot.path) nat_list_eq_equiv) (on_equiv (λ (dot : Dot). dot.tick) nat_eq_equiv)))

pub same_effect_equiv : IsEquivalence same_effect
same_effect_equiv =
    and_equiv (on_equiv (λ (effect : EffectValue). effect.deletes) (lists_equiv same_pair_equiv))
    (on_equiv (λ (effect : EffectValue). effect.inserts) (lists_equiv (eq_by_cmp_equiv triple_total)))
