use Rattle.std.proofs.Common.{List, Option, arith, subst}
use Rattle.rdf_terms.specs.declared.terms.Term.{Term}
use Rattle.reply_rows.specs.Rising.{row_order}
use Rattle.reply_rows.specs.Times.{is_same_row}
use Rattle.reply_rows.proofs.Risen.{IsComing, coming_all, coming_first, coming_more, rising_back}
use Rattle.reply_rows.proofs.RowLaws.{rows_decide, rows_exact, rows_total}
use Rattle.reply_rows.proofs.merging.with.Goals as goal

pub skip_to-requires-clause-rising : goal.skip_to-requires-clause-rising
skip_to-requires-clause-rising c =
    rising_back is_same_row rows_decide row_order rows_total rows_exact c.loop-row.kept.items c.loop-row.rest.items c.loop-row.invariant.coming.rising

pub loop-row-preserved : goal.loop-row-preserved
loop-row-preserved c = record {
  coming = coming_more is_same_row rows_decide row_order rows_total rows_exact c.args.rows.items c.args.added.items c.loop-row.kept.items c.loop-row.rest.items c.pop_front.new.self.items
      c.skip_to.new.kept.items c.skip_to.new.rest.items c.push_reserved.new.self.items c.in-Some.row
      (subst (λ (left : List (List (Option Term))). IsComing is_same_row rows_decide row_order rows_total rows_exact c.args.rows.items c.args.added.items c.loop-row.kept.items c.loop-row.rest.items left)
      c.in-Some.ensures.items c.loop-row.invariant.coming)
      c.skip_to.ensures.skips c.push_reserved.ensures.items;
  room =
      let a = c.loop-row.invariant.room in
      let b = c.skip_to.ensures.len in
      let d = c.skip_to.ensures.capacity in
      let e = c.push_reserved.ensures.len in
      let f = c.push_reserved.ensures.capacity in
      let g = c.in-Some.ensures.len in
      omega (arith, a, b, d, e, f, g);
}
