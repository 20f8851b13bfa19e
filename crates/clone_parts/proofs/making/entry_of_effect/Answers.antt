use Rattle.std.proofs.Common.{◌≡◌, ◌∙◌, ℕ, List, sym, ap, subst, map, rules}
use Rattle.rdf_terms.specs.declared.terms.Triple.{Triple}
use Rattle.tree_clock.specs.declared.dots.Range.{Range}
use Rattle.tree_clock.specs.Clock.{RaisesTo}
use Rattle.mld_ops.specs.declared.tagged.Tagged.{Tagged}
use Rattle.mld_ops.specs.Effect.{range_of}
use Rattle.mld_ops.specs.Effects.{MayMake}
use Rattle.mld_ops.specs.Entry.{IsEntry}
use Rattle.mld_ops.proofs.EffectLaws.{effect_is_entry}
use Rattle.clone_parts.proofs.making.entry_of_effect.Goals as goal

pub unwrap-requires : goal.unwrap-requires
unwrap-requires c =
    let ticks = c.args.clock.now.ticks in
    let dot = c.args.dot.now in
    let effect = c.args.effect.now in
    let time = c.raise.new.self.ticks in
    let same : c.reserve.new.self.ticks ≡ ticks = search rules in
    let raised : RaisesTo ticks time dot = subst (λ ts. RaisesTo ts time dot) same c.raise.ensures.raised in
    let may : MayMake ticks dot effect = record { ordered = c.deletes.ensures.order; next = c.requires.tick; covered = c.requires.deletes } in
    let parts = effect_is_entry ticks time dot effect may raised c.raise.ensures.clock in
    let of_parts = λ (range : Range) (deletes : List Tagged) (inserts : List (Triple × ℕ)). IsEntry (record { range = range; time = time; deletes = deletes; inserts = inserts }) in
    let deletes : c.in_ok-deletes.deletes.items ≡ effect.deletes = c.in_ok-deletes.ensures ∙ c.deletes.ensures.value in
    let inserts : c.in_ok-inserts.inserts.items ≡ map (λ (triple : Triple). (triple, dot.tick)) effect.inserts =
    c.in_ok-inserts.ensures ∙ ap (λ (triples : List Triple). map (λ (triple : Triple). (triple, dot.tick)) triples) c.inserts.ensures.value in
    c.new.ensures.some.1
    (subst (λ (range : Range). of_parts range c.in_ok-deletes.deletes.items c.in_ok-inserts.inserts.items) (sym c.range_of.ensures)
    (subst (λ (ds : List Tagged). of_parts (range_of dot) ds c.in_ok-inserts.inserts.items) (sym deletes)
    (subst (λ (ins : List (Triple × ℕ)). of_parts (range_of dot) effect.deletes ins) (sym inserts) parts)))
