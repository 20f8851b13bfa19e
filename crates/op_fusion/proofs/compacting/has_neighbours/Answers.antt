use Rattle.std.proofs.Common.{◌≡◌, ◌∙◌, true, false, refl, sym, subst, arith}
use Rattle.op_fusion.specs.Fusion.{AreNeighbours}
use Rattle.tree_clock.specs.declared.dots.Range.{Range}
use Rattle.op_fusion.proofs.Rows.{stand_at, stand_behind, all_lack}
use Rattle.op_fusion.proofs.compacting.has_neighbours.Goals as goal

pub returns-then-are_neighbours : goal.returns-then-are_neighbours
returns-then-are_neighbours c = (
  λ _. stand_at c.args.entries.now c.loop-place.place c.index-entries-place.result c.index-entries-place-in-loop-place.result c.loop-place.invariant.above
      c.loop-place-test.true c.index-entries-place.is c.index-entries-place-in-loop-place.is
      (subst (λ (r : Range). AreNeighbours r c.index-entries-place-in-loop-place.result.range) c.range.ensures.value
      (subst (λ (r : Range). AreNeighbours c.range.result r) c.range-in-loop-place.ensures.value (c.are_neighbours.ensures.0 c.if-are_neighbours.true))),
  λ _. refl,
)

pub loop-place-preserved : goal.loop-place-preserved
loop-place-preserved c = record {
  above = omega (arith, c.loop-place.invariant.above);
  behind = stand_behind c.args.entries.now c.loop-place.place c.index-entries-place.result c.index-entries-place-in-loop-place.result c.loop-place.invariant.above
      c.loop-place-test.true c.index-entries-place.is c.index-entries-place-in-loop-place.is c.loop-place.invariant.behind
      (λ near. let no : false ≡ true = sym c.if-are_neighbours.false ∙ c.are_neighbours.ensures.1
      (subst (λ (r : Range). AreNeighbours r c.range-in-loop-place.result) (sym c.range.ensures.value)
      (subst (λ (r : Range). AreNeighbours c.index-entries-place.result.range r) (sym c.range-in-loop-place.ensures.value) near)) in cc);
}

pub returns : goal.returns
returns c = (
  λ no. absurd cc,
  λ has. absurd (all_lack c.args.entries.now c.loop-place.place c.loop-place.invariant.above c.loop-place-test.false c.loop-place.invariant.behind has),
)
