use Rattle.std.proofs.Common.{◌≡◌, take}
use Rattle.mld_ops.specs.PairLists.{rows_pairs}
use Rattle.graph_index.specs.Graphs.{pairs_of}
use Rattle.graph_index.specs.TermNumbers.{AreNoted, HaveOwnNumbers}
use Rattle.graph_index.proofs.list_rows.with_table_numbers.Given as goal

abbrev pub invariant-loop-row : goal.invariant-loop-row
invariant-loop-row l = record {
  noted : AreNoted l.tables l.paths l.noted.items;
  own : HaveOwnNumbers l.tables l.entries.items;
  pairs : pairs_of l.tables.paths l.entries.items ≡ rows_pairs l.paths (take l.row-index l.rows);
}
