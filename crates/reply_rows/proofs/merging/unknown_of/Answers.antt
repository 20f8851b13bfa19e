use Rattle.std.proofs.Common.{◌∙◌, List, [], Option, arith, inl, inr, subst, sym}
use Rattle.std.proofs.lemmas.Bool.{false≢true}
use Rattle.rdf_terms.specs.declared.terms.Term.{Term}
use Rattle.reply_rows.specs.Rising.{row_order}
use Rattle.reply_rows.specs.Times.{is_same_row}
use Rattle.reply_rows.proofs.MergingLaws.{TellsLast, has_counts, lacks_count, last_counts}
use Rattle.reply_rows.proofs.Risen.{IsSifted, absent_above, sifted_in, sifted_out}
use Rattle.reply_rows.proofs.RowLaws.{rows_decide, rows_exact, rows_total}
use Rattle.reply_rows.proofs.merging.unknown_of.Goals.{then-is_last-via-then-is_last, then-is_last-via-else-is_last+then-has_row}
use Rattle.reply_rows.proofs.merging.unknown_of.Goals as goal

pub loop-row-preserved-then-is_last : goal.loop-row-preserved-then-is_last
loop-row-preserved-then-is_last c =
    let kept = c.loop-row.kept.items in
    let row = c.in-Some.row in
    let so_far = subst (λ (left : List (List (Option Term))). IsSifted is_same_row rows_decide row_order rows_total rows_exact c.args.rows.items c.args.known.now kept left)
    c.in-Some.ensures.items c.loop-row.invariant.sifted in
    let n = c.in-Some.ensures.len in
    record {
      sifted = sifted_out is_same_row rows_decide row_order rows_total rows_exact c.args.rows.items c.args.known.now kept c.pop_front.new.self.items row so_far
          (elim c.then-is_last.branch [
            | then-is_last-via-then-is_last w ↦ inl (last_counts kept row c.is_last.result
                (subst (λ (rows : List (List (Option Term))). TellsLast rows row c.is_last.result) c.deref.ensures.value c.is_last.ensures.last)
                (λ e. c.is_last.ensures.none (c.deref.ensures.value ∙ e)) w.if-is_last.true)
            | then-is_last-via-else-is_last+then-has_row w ↦ inr (has_counts c.args.known.now row (w.has_row.ensures.0 w.if-has_row.true))
          ]);
      room = let a = c.loop-row.invariant.room in omega (arith, a, n);
      len = let a = c.loop-row.invariant.len in omega (arith, a, n);
    }

pub loop-row-preserved : goal.loop-row-preserved
loop-row-preserved c =
    let kept = c.loop-row.kept.items in
    let row = c.in-Some.row in
    let so_far = subst (λ (left : List (List (Option Term))). IsSifted is_same_row rows_decide row_order rows_total rows_exact c.args.rows.items c.args.known.now kept left)
    c.in-Some.ensures.items c.loop-row.invariant.sifted in
    let n = c.in-Some.ensures.len in
    let p = c.push_reserved.ensures.len in
    let q = c.push_reserved.ensures.capacity in
    record {
      sifted = sifted_in is_same_row rows_decide row_order rows_total rows_exact c.args.rows.items c.args.known.now kept c.pop_front.new.self.items c.push_reserved.new.self.items row so_far
          (absent_above is_same_row rows_decide row_order rows_total rows_exact kept c.pop_front.new.self.items row so_far.rising
          (λ front last e s. false≢true (sym c.if-is_last.false ∙ (c.is_last.ensures.last front last (c.deref.ensures.value ∙ e)).1 s)))
          (lacks_count c.args.known.now row (λ h. false≢true (sym c.if-has_row.false ∙ c.has_row.ensures.1 h)))
          c.push_reserved.ensures.items;
      room = let a = c.loop-row.invariant.room in omega (arith, a, n, p, q);
      len = let a = c.loop-row.invariant.len in omega (arith, a, n, p);
    }
