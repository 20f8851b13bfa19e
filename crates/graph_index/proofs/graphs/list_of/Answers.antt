use Rattle.std.proofs.Common.{◌≡◌, ◌∙◌, ℕ, List, ap, sym, subst}
use Rattle.mld_ops.specs.PairLists.{rows_pairs}
use Rattle.mld_ops.specs.declared.pair_lists.PairRow.{PairRow}
use Rattle.graph_index.specs.Graphs.{in_order_of, pairs_of}
use Rattle.graph_index.specs.Matching.{HasNoRepeat}
use Rattle.graph_index.proofs.Moving.{entries_are, once_by_numbers}
use Rattle.graph_index.proofs.Ranging.{ok_weaker}
use Rattle.graph_index.proofs.graphs.list_of.Goals as goal

pub sort_rows-requires : goal.sort_rows-requires
sort_rows-requires c =
    let tables = c.args.parts.tables in
    let pairs = c.args.parts.numbered.pairs in
    let rows : List PairRow = c.in_ok-rows.rows.items in
    subst HasNoRepeat (entries_are tables.paths pairs rows (sym c.in_ok-rows.ensures.pairs) ∙ ap (λ (paths : List (List ℕ)). rows_pairs paths rows) (sym (c.deref.ensures.value ∙ c.into_paths-paths.ensures)))
    (once_by_numbers tables pairs c.requires c.in_ok-rows.ensures.once)

pub returns : goal.returns
returns c =
    let tables = c.args.parts.tables in
    let pairs = c.args.parts.numbered.pairs in
    let rows : List PairRow = c.in_ok-rows.rows.items in
    let first = c.deref.ensures.value ∙ c.into_paths-paths.ensures in
    let second = c.deref-2.ensures.value ∙ c.into_paths-paths.ensures in
    let are : rows_pairs c.deref.result.now rows ≡ pairs_of tables.paths pairs = ap (λ (paths : List (List ℕ)). rows_pairs paths rows) first ∙ sym (entries_are tables.paths pairs rows (sym c.in_ok-rows.ensures.pairs)) in
    ok_weaker c.into_pairs.result
    (λ list h. h ∙ ap (λ (paths : List (List ℕ)). rows_pairs paths c.sort_rows.new.rows.items) (second ∙ sym first) ∙ c.in_ok-sort_rows.ensures ∙ ap in_order_of are)
    c.into_pairs.ensures
