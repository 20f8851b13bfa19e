use Rattle.std.proofs.Common.{◌∙◌, ◌∷◌, ◌++◌, [], ap, subst, sym}
use Rattle.std.proofs.lemmas.List.{take_all}
use Rattle.mld_ops.specs.PairLists.{row_pair, rows_pairs}
use Rattle.mld_ops.specs.declared.pair_lists.PairRow.{PairRow}
use Rattle.graph_index.specs.Graphs.{pairs_of}
use Rattle.graph_index.specs.Matching.{HasNoRepeat}
use Rattle.graph_index.specs.TermNumbers.{HaveOwnNumbers}
use Rattle.graph_index.proofs.Listing.{none_noted, rows_taken}
use Rattle.graph_index.proofs.Moving.{numbers_once}
use Rattle.graph_index.proofs.list_rows.with_table_numbers.Goals as goal

pub loop-row-init : goal.loop-row-init
loop-row-init c = record {
  noted = none_noted c.args.tables.now c.args.paths.now _ c.in_ok-noted.noted.items c.in_ok-noted.ensures;
  own = subst (HaveOwnNumbers c.args.tables.now) (sym c.in_ok-entries.ensures.items) (λ e h. absurd h);
  pairs = ap (pairs_of c.args.tables.now.paths) c.in_ok-entries.ensures.items;
}

pub loop-row-preserved : goal.loop-row-preserved
loop-row-preserved c = record {
  noted = c.in_ok-add_row.ensures.noted;
  own = c.in_ok-add_row.ensures.own;
  pairs =
      rows_taken c.args.paths.now c.args.rows.now c.loop-row.row-index c.row-item.result (pairs_of c.loop-row.tables.paths c.loop-row.entries.items)
      (pairs_of c.add_row.new.tables.paths c.add_row.new.entries.items) c.loop-row-test.true
      (c.in_ok-add_row.ensures.pairs ∙ ap (λ (row : PairRow). pairs_of c.loop-row.tables.paths c.loop-row.entries.items ++ row_pair c.args.paths.now row ∷ []) c.row-item.is)
      c.loop-row.invariant.pairs;
}

pub returns-clause-once : goal.returns-clause-once
returns-clause-once c =
    numbers_once c.loop-row.tables c.loop-row.entries.items c.loop-row.invariant.own
    (subst HasNoRepeat (sym (c.loop-row.invariant.pairs ∙ ap (rows_pairs c.args.paths.now) (take_all c.loop-row.row-index c.args.rows.now c.loop-row-test.false))) c.requires)
