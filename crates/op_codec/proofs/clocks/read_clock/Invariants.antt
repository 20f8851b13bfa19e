use Rattle.std.proofs.Common.{◌≡◌, drop}
use Rattle.tree_clock.specs.Clock.{entry_cmp}
use Rattle.op_codec.proofs.ListLaws.{IsUnderWay}
use Rattle.op_codec.specs.Clocks.{read_ticks, last_path}
use Rattle.op_codec.specs.StoredLists.{is_above, read_list}
use Rattle.op_codec.proofs.clocks.read_clock.Given as goal

abbrev pub invariant-loop-done : goal.invariant-loop-done
invariant-loop-done l =
    record {
      read : IsUnderWay read_ticks (is_above entry_cmp) l.fn.input (read_list read_ticks (is_above entry_cmp) l.fn.at (drop l.fn.at l.fn.input)) l.count l._done l.clock.ticks l.place;
      last : l.last ≡ last_path l.clock.ticks;
    }
