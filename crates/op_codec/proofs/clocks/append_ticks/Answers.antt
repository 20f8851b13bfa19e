use Rattle.op_codec.specs.Stored.{HaveShape}
use Rattle.op_codec.proofs.Shapes.{each_more, each_all}
use Rattle.op_codec.specs.Clocks.{ticks_bytes, clock_bytes}
use Rattle.op_codec.proofs.Appending.{item_appended, all_appended, items_kept, at_err}
use Rattle.op_codec.proofs.clocks.append_ticks.Goals as goal

pub returns-in_err-append_dot-clause-err : goal.returns-in_err-append_dot-clause-err
returns-in_err-append_dot-clause-err c =
    at_err c.from_residual-in_err-append_dot.result (items_kept ticks_bytes c.args.list.now c.args.out.now.items c.loop-path.path-index c.loop-path.out.items c.append_dot.new.out.items c.loop-path.invariant.items c.in_err-append_dot.ensures.err)

pub returns-clause-ok : goal.returns-clause-ok
unfolding clock_bytes
returns-clause-ok c = all_appended ticks_bytes c.args.list.now c.args.out.now.items c.loop-path.path-index c.loop-path.out.items c.loop-path-test.false c.loop-path.invariant.items

pub returns-clause-shape : goal.returns-clause-shape
returns-clause-shape c = each_all HaveShape c.args.list.now c.loop-path.path-index c.loop-path-test.false c.loop-path.invariant.shape

pub loop-path-preserved : goal.loop-path-preserved
loop-path-preserved c = record {
  items =
      item_appended ticks_bytes c.args.list.now c.args.out.now.items c.loop-path.path-index c.loop-path-item.result c.loop-path.out.items c.append_dot.new.out.items c.loop-path-test.true c.loop-path-item.is c.loop-path.invariant.items c.in_ok-append_dot.ensures.ok;
  shape = each_more HaveShape c.args.list.now c.loop-path.path-index c.loop-path-item.result c.loop-path.invariant.shape c.loop-path-test.true c.loop-path-item.is c.in_ok-append_dot.ensures.shape;
}
