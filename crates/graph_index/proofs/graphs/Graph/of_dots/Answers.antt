use Rattle.std.proofs.Common.{List, ℕ, ap, map, sym, subst, ◌∙◌}
use Rattle.mld_ops.specs.PairLists.{rows_pairs}
use Rattle.mld_ops.specs.declared.pair_lists.PairRow.{PairRow}
use Rattle.mld_ops.specs.declared.tagged.Tagged.{Tagged}
use Rattle.graph_index.specs.Graphs.{GraphValue}
use Rattle.graph_index.specs.Matching.{FindsEach, is_within_range}
use Rattle.graph_index.proofs.Finding.{view_ascends, range_found, range_lacks}
use Rattle.graph_index.proofs.graphs.Graph.of_dots.Goals as goal

pub returns-clause-found : goal.returns-clause-found
returns-clause-found c =
    let rows : List PairRow = map (λ row. row.now) c.in_ok-rows.rows.items in
    subst (λ (found : List Tagged). FindsEach (λ pair. is_within_range c.args.range.now pair.dot) c.args.self.now.pairs found)
    (ap (λ (paths : List (List ℕ)). rows_pairs paths rows) (sym c.paths-paths.ensures) ∙ sym c.new-2.ensures)
    (range_found c.parts-parts.result.now.tables c.parts-parts.result.now.numbered.pairs c.parts-parts.ensures.own c.args.self.now.pairs (ap (λ (v : GraphValue). v.pairs) c.parts-parts.ensures.value)
    c.args.range.now c.in-Some.path rows c.in-Some.ensures c.in_ok-rows.ensures.once c.in_ok-rows.ensures.found)

pub returns-clause-ascending : goal.returns-clause-ascending
returns-clause-ascending c = view_ascends c.parts-parts.result.now.tables c.parts-parts.result.now.numbered.pairs c.parts-parts.ensures.own c.args.self.now.pairs (ap (λ (v : GraphValue). v.pairs) c.parts-parts.ensures.value)

pub returns-in_err-rows-clause-ascending : goal.returns-in_err-rows-clause-ascending
returns-in_err-rows-clause-ascending c = view_ascends c.parts-parts.result.now.tables c.parts-parts.result.now.numbered.pairs c.parts-parts.ensures.own c.args.self.now.pairs (ap (λ (v : GraphValue). v.pairs) c.parts-parts.ensures.value)

pub returns-in_default-clause-found : goal.returns-in_default-clause-found
returns-in_default-clause-found c =
    let rows : List PairRow = map (λ row. row.now) c.new.result.items in
    subst (λ (found : List Tagged). FindsEach (λ pair. is_within_range c.args.range.now pair.dot) c.args.self.now.pairs found)
    (ap (λ (paths : List (List ℕ)). rows_pairs paths rows) (sym c.paths-paths.ensures) ∙ sym c.new-in_default.ensures)
    (range_lacks c.parts-parts.result.now.tables c.parts-parts.result.now.numbered.pairs c.parts-parts.ensures.own c.args.self.now.pairs (ap (λ (v : GraphValue). v.pairs) c.parts-parts.ensures.value)
    c.args.range.now rows (ap (map (λ row. row.now)) c.new.ensures.items) c.in_default.ensures)

pub returns-in_default-clause-ascending : goal.returns-in_default-clause-ascending
returns-in_default-clause-ascending c = view_ascends c.parts-parts.result.now.tables c.parts-parts.result.now.numbered.pairs c.parts-parts.ensures.own c.args.self.now.pairs (ap (λ (v : GraphValue). v.pairs) c.parts-parts.ensures.value)
