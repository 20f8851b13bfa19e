use Rattle.std.proofs.Common.{length, sym, ◌∙◌, ap, arith}
use Rattle.std.proofs.lemmas.List.{nil_from_length}
use Rattle.std.specs.Vec.Iter.{into_iter_items}
use Rattle.graph_index.proofs.Listing.{moved_more, moved_all}
use Rattle.graph_index.proofs.copies.into_pairs.Goals as goal

pub loop-row-preserved : goal.loop-row-preserved
loop-row-preserved c = record {
  list =
      moved_more c.args.paths.now c.loop-row.list.items c.push.new.self.items (into_iter_items c.loop-row.row-iterator) (into_iter_items c.next.new.self) c.args.rows.items c.in-Some.row c.into_pair.result
      c.loop-row.invariant.list c.in-Some.ensures.steps.0 c.into_pair.ensures c.in_ok-push.ensures.items;
  counted = omega (arith, c.loop-row.invariant.counted, c.in-Some.ensures.steps.1, ap length c.in-Some.ensures.steps.0);
}

pub returns : goal.returns
returns c =
    moved_all c.args.paths.now c.loop-row.list.items (into_iter_items c.loop-row.row-iterator) c.args.rows.items c.loop-row.invariant.list
    (nil_from_length (into_iter_items c.loop-row.row-iterator) (sym c.loop-row.invariant.counted ∙ c.in-None.ensures.steps.0))
