use Rattle.std.proofs.Common.{List, ℕ, ap, sym, subst, arith, map, ◌∙◌}
use Rattle.std.specs.Option.{option_copied}
use Rattle.mld_ops.specs.PairLists.{rows_pairs}
use Rattle.mld_ops.specs.declared.pair_lists.PairRow.{PairRow}
use Rattle.mld_ops.specs.declared.tagged.Tagged.{Tagged}
use Rattle.pair_orders.specs.Orders.{binary_digits}
use Rattle.graph_index.proofs.Finding.{finds_none, finds_all, view_ascends, as_many, length_is}
use Rattle.graph_index.specs.Graphs.{GraphValue}
use Rattle.graph_index.specs.Matching.{FindsEach, matches}
use Rattle.graph_index.proofs.Together.{finds_together}
use Rattle.pair_orders.specs.PairEntries.{StandTogether}
use Rattle.graph_index.proofs.graphs.Graph.scan.Goals as goal

pub returns-in_default-clause-found : goal.returns-in_default-clause-found
returns-in_default-clause-found g c =
    let rows : List PairRow = map (λ row. row.now) c.new.result.items in
    subst (λ (found : List Tagged). FindsEach (matches (option_copied c.args.s) (option_copied c.args.p) (option_copied c.args.o)) c.args.self.now.pairs found)
    (ap (λ (paths : List (List ℕ)). rows_pairs paths rows) (sym c.paths-paths.ensures) ∙ sym c.new-in_default.ensures)
    (finds_none c.parts-parts.result.now.tables c.parts-parts.result.now.numbered.pairs c.parts-parts.ensures.own c.args.self.now.pairs (ap (λ (v : GraphValue). v.pairs) c.parts-parts.ensures.value)
    (option_copied c.args.s) (option_copied c.args.p) (option_copied c.args.o) rows (ap (map (λ row. row.now)) c.new.ensures.items) c.in_default.ensures.none)

pub returns-in_default-clause-ascending : goal.returns-in_default-clause-ascending
returns-in_default-clause-ascending g c = view_ascends c.parts-parts.result.now.tables c.parts-parts.result.now.numbered.pairs c.parts-parts.ensures.own c.args.self.now.pairs (ap (λ (v : GraphValue). v.pairs) c.parts-parts.ensures.value)

pub returns-in_err-rows-clause-ascending : goal.returns-in_err-rows-clause-ascending
returns-in_err-rows-clause-ascending g c = view_ascends c.parts-parts.result.now.tables c.parts-parts.result.now.numbered.pairs c.parts-parts.ensures.own c.args.self.now.pairs (ap (λ (v : GraphValue). v.pairs) c.parts-parts.ensures.value)

pub returns-clause-ascending : goal.returns-clause-ascending
returns-clause-ascending g c = view_ascends c.parts-parts.result.now.tables c.parts-parts.result.now.numbered.pairs c.parts-parts.ensures.own c.args.self.now.pairs (ap (λ (v : GraphValue). v.pairs) c.parts-parts.ensures.value)

pub returns-clause-found : goal.returns-clause-found
returns-clause-found g c =
    let rows : List PairRow = map (λ row. row.now) c.in_ok-rows.rows.items in
    subst (λ (found : List Tagged). FindsEach (matches (option_copied c.args.s) (option_copied c.args.p) (option_copied c.args.o)) c.args.self.now.pairs found)
    (ap (λ (paths : List (List ℕ)). rows_pairs paths rows) (sym c.paths-paths.ensures) ∙ sym c.new-2.ensures)
    (finds_all c.parts-parts.result.now.tables c.parts-parts.result.now.numbered.pairs c.parts-parts.ensures.own c.args.self.now.pairs (ap (λ (v : GraphValue). v.pairs) c.parts-parts.ensures.value)
    (option_copied c.args.s) (option_copied c.args.p) (option_copied c.args.o) c.in-Some.wanted rows c.in-Some.ensures.some c.in_ok-rows.ensures.found)

pub returns-in_default-clause-together : goal.returns-in_default-clause-together
returns-in_default-clause-together g c =
    subst (StandTogether (λ (pair : Tagged). pair.triple)) (sym (c.new-in_default.ensures ∙ ap (rows_pairs c.paths-paths.result.now) (ap (map (λ row. row.now)) c.new.ensures.items))) tt

pub returns-clause-together : goal.returns-clause-together
returns-clause-together g c =
    let rows : List PairRow = map (λ row. row.now) c.in_ok-rows.rows.items in
    subst (StandTogether (λ (pair : Tagged). pair.triple)) (ap (λ (paths : List (List ℕ)). rows_pairs paths rows) (sym c.paths-paths.ensures) ∙ sym c.new-2.ensures)
    (finds_together c.parts-parts.result.now.tables c.parts-parts.result.now.numbered.pairs c.in-Some.wanted rows c.parts-parts.ensures.own c.in_ok-rows.ensures.found)

pub returns-clause-bound : goal.returns-clause-bound
returns-clause-bound g c =
    let v = ap (λ (v : GraphValue). v.pairs) c.parts-parts.ensures.value in
    let d = ap binary_digits (length_is c.parts-parts.result.now.tables c.parts-parts.result.now.numbered.pairs c.parts-parts.ensures.own c.args.self.now.pairs v c.search.ensures.once) in
    let m = as_many c.parts-parts.result.now.tables c.parts-parts.result.now.numbered.pairs c.parts-parts.ensures.own c.args.self.now.pairs v
    (option_copied c.args.s) (option_copied c.args.p) (option_copied c.args.o) c.in-Some.wanted c.in-Some.ensures.some c.search.ensures.once in
    let b = c.search.ensures.bound in
    omega (arith, d, m, b)

pub returns-in_err-rows-clause-bound : goal.returns-in_err-rows-clause-bound
returns-in_err-rows-clause-bound g c =
    let v = ap (λ (v : GraphValue). v.pairs) c.parts-parts.ensures.value in
    let d = ap binary_digits (length_is c.parts-parts.result.now.tables c.parts-parts.result.now.numbered.pairs c.parts-parts.ensures.own c.args.self.now.pairs v c.search.ensures.once) in
    let m = as_many c.parts-parts.result.now.tables c.parts-parts.result.now.numbered.pairs c.parts-parts.ensures.own c.args.self.now.pairs v
    (option_copied c.args.s) (option_copied c.args.p) (option_copied c.args.o) c.in-Some.wanted c.in-Some.ensures.some c.search.ensures.once in
    let b = c.search.ensures.bound in
    omega (arith, d, m, b)
