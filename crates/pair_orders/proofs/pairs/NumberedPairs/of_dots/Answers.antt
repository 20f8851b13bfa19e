use Rattle.std.proofs.Common.{◌∙◌, ◌∷◌, [], map, ap, subst, sym}
use Rattle.std.proofs.lemmas.Simd.{map-map}
use Rattle.chunked_list.specs.Room.{ChunkedValue}
use Rattle.tree_clock.specs.Lists.{IsAscending}
use Rattle.pair_orders.specs.Keys.{ranked_cmp, keys_by, slot_pairs}
use Rattle.pair_orders.specs.PairEntries.{entries_of}
use Rattle.pair_orders.specs.declared.keys.RankedKey.{RankedKey}
use Rattle.pair_orders.specs.declared.keys.Shape.TheVariants.{Dot}
use Rattle.pair_orders.proofs.Changing.{numbers_once}
use Rattle.pair_orders.proofs.Fronting.{before_front, up_to_front}
use Rattle.pair_orders.proofs.Lending.{within_pairs, ok_weaker}
use Rattle.pair_orders.proofs.pairs.NumberedPairs.of_dots.Goals as goal

pub between-requires-clause-first : goal.between-requires-clause-first
between-requires-clause-first c =
    before_front (c.args.path ∷ c.args.first ∷ []) c.by_dot.result.now.elements
    (subst (λ (l : ChunkedValue RankedKey). IsAscending ranked_cmp l.elements) (sym c.by_dot.ensures) c.self.invariant.lists_are.dot)

pub between-requires-clause-second : goal.between-requires-clause-second
between-requires-clause-second c =
    up_to_front (c.args.path ∷ c.args.last ∷ []) c.by_dot.result.now.elements
    (subst (λ (l : ChunkedValue RankedKey). IsAscending ranked_cmp l.elements) (sym c.by_dot.ensures) c.self.invariant.lists_are.dot)

pub returns-clause-found : goal.returns-clause-found
returns-clause-found c =
    ok_weaker c.lend_found.result
    (λ found h. h ∙ ap (slot_pairs c.deref.result.now) (sym (map-map (λ (key : RankedKey). key.slot) (λ x. x.now) c.deref-2.result.now)) ∙ within_pairs c.self.inside.slots.pairs.items c.deref.result.now c.by_dot.result.now.elements (map (λ x. x.now) c.deref-2.result.now) c.args.self.now.pairs c.args.path c.args.first c.args.last
    c.deref.ensures.value (ap (λ (l : ChunkedValue RankedKey). entries_of c.self.inside.slots.pairs.items (keys_by Dot l.elements)) c.by_dot.ensures ∙ ap (λ v. v.pairs) c.self.view_is) (ap (map (λ x. x.now)) c.deref-2.ensures.value ∙ c.in_ok-keys.ensures))
    c.lend_found.ensures

pub returns-clause-once : goal.returns-clause-once
returns-clause-once c = numbers_once c.self.inside.slots c.self.inside.lists c.args.self.now c.self.view_is c.self.invariant

pub returns-in_err-keys-clause-once : goal.returns-in_err-keys-clause-once
returns-in_err-keys-clause-once c = numbers_once c.self.inside.slots c.self.inside.lists c.args.self.now c.self.view_is c.self.invariant
