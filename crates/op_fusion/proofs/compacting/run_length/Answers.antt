use Rattle.std.proofs.Common.{◌≡◌, ◌∙◌, true, false, sym, subst, arith}
use Rattle.tree_clock.specs.declared.dots.Range.{Range}
use Rattle.op_fusion.specs.Fusion.{AreNeighbours}
use Rattle.op_fusion.proofs.Rows.{row_goes_on, row_ends}
use Rattle.op_fusion.proofs.compacting.run_length.Goals as goal

pub returns-then-not-are_neighbours : goal.returns-then-not-are_neighbours
returns-then-not-are_neighbours c =
    row_ends c.args.entries.now c.loop-place.place c.index-entries-place.result c.index-entries-place-in-loop-place.result c.loop-place.invariant.above c.loop-place-test.true
    c.index-entries-place.is c.index-entries-place-in-loop-place.is c.loop-place.invariant.row
    (λ near. let no : false ≡ true = sym c.if-not-are_neighbours.true ∙ c.are_neighbours.ensures.1
    (subst (λ (r : Range). AreNeighbours r c.range-in-loop-place.result) (sym c.range.ensures.value)
    (subst (λ (r : Range). AreNeighbours c.index-entries-place.result.range r) (sym c.range-in-loop-place.ensures.value) near)) in cc)

pub loop-place-preserved : goal.loop-place-preserved
loop-place-preserved c = record {
  above = omega (arith, c.loop-place.invariant.above);
  row = row_goes_on c.args.entries.now c.loop-place.place c.index-entries-place.result c.index-entries-place-in-loop-place.result c.loop-place.invariant.above
      c.loop-place-test.true c.index-entries-place.is c.index-entries-place-in-loop-place.is c.loop-place.invariant.row
      (subst (λ (r : Range). AreNeighbours r c.index-entries-place-in-loop-place.result.range) c.range.ensures.value
      (subst (λ (r : Range). AreNeighbours c.range.result r) c.range-in-loop-place.ensures.value (c.are_neighbours.ensures.0 c.if-not-are_neighbours.false)));
}
