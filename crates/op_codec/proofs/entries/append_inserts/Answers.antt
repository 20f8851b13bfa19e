use Rattle.op_codec.specs.Stored.{HasInsertShape}
use Rattle.op_codec.proofs.Shapes.{each_all}
use Rattle.op_codec.specs.Entries.{insert_bytes, inserts_bytes}
use Rattle.op_codec.proofs.Appending.{all_appended, items_kept, at_err}
use Rattle.op_codec.proofs.entries.append_inserts.Goals as goal

pub returns-in_err-append_insert-clause-err : goal.returns-in_err-append_insert-clause-err
returns-in_err-append_insert-clause-err c =
    at_err c.from_residual-in_err-append_insert.result (items_kept insert_bytes c.args.inserts.now c.args.out.now.items c.loop-triple.triple-index c.loop-triple.out.items c.append_insert.new.out.items c.loop-triple.invariant.items c.in_err-append_insert.ensures.err)

pub returns-clause-ok : goal.returns-clause-ok
unfolding inserts_bytes
returns-clause-ok c = all_appended insert_bytes c.args.inserts.now c.args.out.now.items c.loop-triple.triple-index c.loop-triple.out.items c.loop-triple-test.false c.loop-triple.invariant.items

pub returns-clause-shape : goal.returns-clause-shape
returns-clause-shape c = each_all HasInsertShape c.args.inserts.now c.loop-triple.triple-index c.loop-triple-test.false c.loop-triple.invariant.shape
