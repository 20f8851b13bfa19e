use Rattle.std.proofs.Common.{◌≡◌, ◌∙◌, ◌++◌, ℕ, sym, ap, subst}
use Rattle.mld_bytes.specs.Bytes.{u32_bytes}
use Rattle.mld_ops.specs.PairLists.{row_pair, rows_pairs}
use Rattle.mld_ops.specs.declared.tagged.Tagged.{Tagged}
use Rattle.op_codec.specs.Stored.{IsShortTriple, HasPairShape}
use Rattle.op_codec.proofs.Shapes.{each_none, each_more, each_all}
use Rattle.op_codec.specs.PairBytes.{pair_bytes, pairs_bytes}
use Rattle.op_codec.proofs.Appending.{count_appended, item_appended, all_appended, items_kept, at_err}
use Rattle.op_codec.proofs.ShortRows.{as_many, pair_within, pair_read, short_row, all_passed}
use Rattle.op_codec.proofs.pairs.append_rows.Goals as goal

pub loop-row-init : goal.loop-row-init
loop-row-init c = record {
  items =
      count_appended pair_bytes (rows_pairs c.args.paths.now c.args.rows.now) c.args.out.now.items c.put_u32.new.out.items
      (subst (λ (n : ℕ). c.put_u32.new.out.items ≡ c.args.out.now.items ++ u32_bytes n) (sym (as_many c.args.paths.now c.args.rows.now)) c.in_ok-put_u32.ensures.ok);
  shape = each_none HasPairShape (rows_pairs c.args.paths.now c.args.rows.now);
}

pub append_pair-requires : goal.append_pair-requires
append_pair-requires c =
    subst (λ (pair : Tagged). IsShortTriple pair.triple) (sym c.row_ref-pair.ensures)
    (short_row c.args.paths.now c.args.rows.now c.requires c.loop-row.row-index c.row-item.result c.loop-row-test.true c.row-item.is)

pub loop-row-preserved : goal.loop-row-preserved
loop-row-preserved c =
    let pairs = rows_pairs c.args.paths.now c.args.rows.now in
    let pair = row_pair c.args.paths.now c.row-item.result in
    let read = pair_read c.args.paths.now c.args.rows.now c.loop-row.row-index c.row-item.result c.loop-row-test.true c.row-item.is in
    let within = pair_within c.args.paths.now c.args.rows.now c.loop-row.row-index c.loop-row-test.true in
    record {
      items =
          item_appended pair_bytes pairs c.args.out.now.items c.loop-row.row-index pair c.loop-row.out.items c.append_pair.new.out.items within read c.loop-row.invariant.items
          (c.in_ok-append_pair.ensures.ok ∙ ap (λ (p : Tagged). c.loop-row.out.items ++ pair_bytes p) c.row_ref-pair.ensures);
      shape = each_more HasPairShape pairs c.loop-row.row-index pair c.loop-row.invariant.shape within read (subst HasPairShape c.row_ref-pair.ensures c.in_ok-append_pair.ensures.shape);
    }

pub returns-in_err-append_pair-clause-err : goal.returns-in_err-append_pair-clause-err
returns-in_err-append_pair-clause-err c =
    at_err c.from_residual-in_err-append_pair.result (items_kept pair_bytes (rows_pairs c.args.paths.now c.args.rows.now) c.args.out.now.items c.loop-row.row-index c.loop-row.out.items c.append_pair.new.out.items c.loop-row.invariant.items c.in_err-append_pair.ensures.err)

pub returns-clause-ok : goal.returns-clause-ok
unfolding pairs_bytes
returns-clause-ok c = all_appended pair_bytes (rows_pairs c.args.paths.now c.args.rows.now) c.args.out.now.items c.loop-row.row-index c.loop-row.out.items (all_passed c.args.paths.now c.args.rows.now c.loop-row.row-index c.loop-row-test.false) c.loop-row.invariant.items

pub returns-clause-shape : goal.returns-clause-shape
returns-clause-shape c = each_all HasPairShape (rows_pairs c.args.paths.now c.args.rows.now) c.loop-row.row-index (all_passed c.args.paths.now c.args.rows.now c.loop-row.row-index c.loop-row-test.false) c.loop-row.invariant.shape
