use Rattle.std.proofs.Common.{drop}
use Rattle.op_codec.proofs.ListLaws.{IsUnderWay}
use Rattle.mld_ops.specs.Tagged.{insert_cmp}
use Rattle.op_codec.specs.Entries.{read_insert}
use Rattle.op_codec.specs.StoredLists.{is_above, read_list}
use Rattle.op_codec.proofs.entries.read_inserts.Given as goal

abbrev pub invariant-loop-done : goal.invariant-loop-done
invariant-loop-done l =
    IsUnderWay read_insert (is_above insert_cmp) l.fn.input
    (read_list read_insert (is_above insert_cmp) l.fn.at (drop l.fn.at l.fn.input)) l.count l._done l.inserts.items l.place
