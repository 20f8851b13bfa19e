use Rattle.std.proofs.Common.{◌∙◌, ap}
use Rattle.tree_clock.specs.Clock.{ticks_of}
use Rattle.tree_clock.specs.declared.dots.Range.{Range}
use Rattle.op_fusion.proofs.Adding.{adds_behind, cuts_at}
use Rattle.op_fusion.proofs.cutting.cut.Goals as goal

pub returns : goal.returns
returns g c =
    let entry = c.args.entry.now in
    let known = c.ticks-known.result in
    let same = c.ticks-known.ensures.value ∙ ap (λ (r : Range). ticks_of c.args.seen.now.ticks r.path) c.range-range.ensures.value in
    cuts_at entry known (ticks_of c.args.seen.now.ticks entry.range.path) (g.S.Tags.pairs c.args.state.now) c.in_ok-drops.drops.items c.in_ok-adds.adds.items same (record {
      drops_ascend = c.in_ok-drops.ensures.ascending;
      dropped = c.in_ok-drops.ensures.members;
      adds_ascend = c.in_ok-adds.ensures.ascending;
      added = adds_behind entry known c.in_ok-adds.adds.items c.range-range.ensures.entry (rw c.range-range.ensures.value at c.in_ok-adds.ensures.members);
    })
