use Rattle.std.proofs.Common.{◌∙◌, length, sym, ap, arith}
use Rattle.std.proofs.lemmas.List.{nil_from_length}
use Rattle.std.specs.Vec.Iter.{into_iter_items}
use Rattle.mld_ops.proofs.PairRows.{rows_more, rows_all, grown_length}
use Rattle.mld_ops.proofs.pair_lists.rows_of.Goals as goal

pub loop-pair-preserved : goal.loop-pair-preserved
loop-pair-preserved c = record {
  rows =
      rows_more c.loop-pair.paths.items c.row_of.new.paths.items c.loop-pair.rows.items c.push.new.self.items c.in-Some.pair c.in_ok-row.row (into_iter_items c.loop-pair.pair-iterator) (into_iter_items c.next.new.self) c.args.list.items
      c.loop-pair.invariant.rows c.in_ok-row.ensures c.in-Some.ensures.steps.0 c.in_ok-push.ensures.items;
  ordered = grown_length c.loop-pair.paths.items c.row_of.new.paths.items c.in-Some.pair c.in_ok-row.row c.len-ordered.result c.in_ok-row.ensures c.loop-pair.invariant.ordered;
  counted = omega (arith, c.loop-pair.invariant.counted, c.in-Some.ensures.steps.1, ap length c.in-Some.ensures.steps.0);
}

pub returns : goal.returns
returns c =
    rows_all c.loop-pair.paths.items c.loop-pair.rows.items (into_iter_items c.loop-pair.pair-iterator) c.args.list.items c.loop-pair.invariant.rows
    (nil_from_length (into_iter_items c.loop-pair.pair-iterator) (sym c.loop-pair.invariant.counted ∙ c.in-None.ensures.steps.0))
