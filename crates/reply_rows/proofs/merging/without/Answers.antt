use Rattle.std.proofs.Common.{List, Option, arith, subst}
use Rattle.rdf_terms.specs.declared.terms.Term.{Term}
use Rattle.reply_rows.specs.Rising.{row_order}
use Rattle.reply_rows.specs.Times.{is_same_row}
use Rattle.reply_rows.proofs.Risen.{IsGoing, going_more, rising_back}
use Rattle.reply_rows.proofs.RowLaws.{rows_decide, rows_exact, rows_total}
use Rattle.reply_rows.proofs.merging.without.Goals as goal

pub skip_to-requires-clause-rising : goal.skip_to-requires-clause-rising
skip_to-requires-clause-rising c =
    rising_back is_same_row rows_decide row_order rows_total rows_exact c.loop-row.kept.items c.loop-row.rest.items c.loop-row.invariant.going.rising

pub loop-row-preserved : goal.loop-row-preserved
loop-row-preserved c =
    let b = c.skip_to.ensures.len in
    let d = c.skip_to.ensures.capacity in
    let e = c.leave_out.ensures.len in
    record {
      going = going_more is_same_row rows_decide row_order rows_total rows_exact c.args.rows.items c.args.removed.now c.loop-row.kept.items c.loop-row.rest.items c.in-Some.others.now
          c.skip_to.new.kept.items c.skip_to.new.rest.items c.leave_out.new.rows.items c.in-Some.row.now
          (subst (λ (left : List (List (Option Term))). IsGoing is_same_row rows_decide row_order rows_total rows_exact c.args.rows.items c.args.removed.now c.loop-row.kept.items c.loop-row.rest.items left)
          c.in-Some.ensures.cases.0 c.loop-row.invariant.going)
          c.skip_to.ensures.skips c.leave_out.ensures.leaves;
      room = let a = c.loop-row.invariant.room in omega (arith, a, b, d, e);
      len = let a = c.loop-row.invariant.len in omega (arith, a, b, e);
    }
