use Rattle.std.proofs.Common.{List, ℕ, ◌≡◌, ◌∙◌, ap, map, subst, sym}
use Rattle.mld_ops.specs.PairLists.{rows_pairs}
use Rattle.mld_ops.specs.declared.pair_lists.PairRow.{PairRow}
use Rattle.mld_ops.specs.declared.tagged.Tagged.{Tagged}
use Rattle.graph_index.specs.Matching.{HasNoRepeat}
use Rattle.graph_index.specs.Graphs.{GraphValue, in_order_of, pairs_of}
use Rattle.graph_index.proofs.Finding.{view_ascends}
use Rattle.graph_index.proofs.Moving.{entries_are, once_by_numbers}
use Rattle.graph_index.proofs.Ranging.{ok_weaker}
use Rattle.graph_index.proofs.graphs.Graph.sorted.Goals as goal

pub sorted-requires : goal.sorted-requires
sorted-requires c =
    let tables = c.parts-parts.result.now.tables in
    let pairs = c.parts-parts.result.now.numbered.pairs in
    let rows : List PairRow = map (λ row. row.now) c.in_ok-rows.rows.items in
    let are : pairs_of tables.paths pairs ≡ c.new.result = entries_are tables.paths pairs rows (sym c.in_ok-rows.ensures.pairs) ∙ ap (λ (paths : List (List ℕ)). rows_pairs paths rows) (sym c.paths.ensures) ∙ sym c.new.ensures in
    subst HasNoRepeat are (once_by_numbers tables pairs c.parts-parts.ensures.own c.in_ok-rows.ensures.once)

pub returns-clause-pairs : goal.returns-clause-pairs
returns-clause-pairs c =
    let tables = c.parts-parts.result.now.tables in
    let pairs = c.parts-parts.result.now.numbered.pairs in
    let rows : List PairRow = map (λ row. row.now) c.in_ok-rows.rows.items in
    let are : pairs_of tables.paths pairs ≡ c.new.result = entries_are tables.paths pairs rows (sym c.in_ok-rows.ensures.pairs) ∙ ap (λ (paths : List (List ℕ)). rows_pairs paths rows) (sym c.paths.ensures) ∙ sym c.new.ensures in
    ok_weaker c.sorted.result (λ list h. h ∙ ap in_order_of (sym are) ∙ ap (λ (v : GraphValue). v.pairs) c.parts-parts.ensures.value) c.sorted.ensures

pub returns-clause-ascending : goal.returns-clause-ascending
returns-clause-ascending c = view_ascends c.parts-parts.result.now.tables c.parts-parts.result.now.numbered.pairs c.parts-parts.ensures.own c.args.self.now.pairs (ap (λ (v : GraphValue). v.pairs) c.parts-parts.ensures.value)

pub returns-in_err-rows-clause-ascending : goal.returns-in_err-rows-clause-ascending
returns-in_err-rows-clause-ascending c = view_ascends c.parts-parts.result.now.tables c.parts-parts.result.now.numbered.pairs c.parts-parts.ensures.own c.args.self.now.pairs (ap (λ (v : GraphValue). v.pairs) c.parts-parts.ensures.value)
