use Rattle.op_codec.specs.Stored.{HasPairShape}
use Rattle.op_codec.proofs.Shapes.{each_none, each_more, each_all}
use Rattle.op_codec.specs.PairBytes.{pair_bytes, pairs_bytes}
use Rattle.op_codec.proofs.Appending.{count_appended, item_appended, all_appended, items_kept, at_err}
use Rattle.op_codec.proofs.pairs.append_pairs.Goals as goal

pub loop-pair-init : goal.loop-pair-init
loop-pair-init c = record {
  items = count_appended pair_bytes c.args.pairs.now c.args.out.now.items c.put_u32.new.out.items c.in_ok-put_u32.ensures.ok;
  shape = each_none HasPairShape c.args.pairs.now;
}

pub loop-pair-preserved : goal.loop-pair-preserved
loop-pair-preserved c = record {
  items =
      item_appended pair_bytes c.args.pairs.now c.args.out.now.items c.loop-pair.pair-index c.pair-item.result c.loop-pair.out.items c.append_pair.new.out.items c.loop-pair-test.true c.pair-item.is c.loop-pair.invariant.items c.in_ok-append_pair.ensures.ok;
  shape = each_more HasPairShape c.args.pairs.now c.loop-pair.pair-index c.pair-item.result c.loop-pair.invariant.shape c.loop-pair-test.true c.pair-item.is c.in_ok-append_pair.ensures.shape;
}

pub returns-in_err-append_pair-clause-err : goal.returns-in_err-append_pair-clause-err
returns-in_err-append_pair-clause-err c =
    at_err c.from_residual-in_err-append_pair.result (items_kept pair_bytes c.args.pairs.now c.args.out.now.items c.loop-pair.pair-index c.loop-pair.out.items c.append_pair.new.out.items c.loop-pair.invariant.items c.in_err-append_pair.ensures.err)

pub returns-clause-ok : goal.returns-clause-ok
unfolding pairs_bytes
returns-clause-ok c = all_appended pair_bytes c.args.pairs.now c.args.out.now.items c.loop-pair.pair-index c.loop-pair.out.items c.loop-pair-test.false c.loop-pair.invariant.items

pub returns-clause-shape : goal.returns-clause-shape
returns-clause-shape c = each_all HasPairShape c.args.pairs.now c.loop-pair.pair-index c.loop-pair-test.false c.loop-pair.invariant.shape
