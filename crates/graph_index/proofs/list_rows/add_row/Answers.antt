use Rattle.std.proofs.Common.{◌≡◌, ap}
use Rattle.rdf_terms.specs.declared.terms.Triple.{Triple}
use Rattle.mld_ops.specs.declared.pair_lists.PairRow.{PairRow}
use Rattle.graph_index.proofs.Listing.{row_added, row_owned}
use Rattle.graph_index.proofs.list_rows.add_row.Goals as goal

pub returns-clause-own : goal.returns-clause-own
returns-clause-own c =
    let numbers = c.in_ok-numbers.numbers in
    let copy : PairRow = record { triple = c.in_ok-triple.triple; path = numbers.path; tick = c.args.row.now.tick } in
    row_owned c.args.tables.now c.give_row.new.tables c.args.paths.now c.args.entries.now.items c.push.new.self.items numbers c.args.row.now copy c.give_row.ensures.grown c.requires.own c.in_ok-numbers.ensures.ok
    (ap (λ (t : Triple). record { triple = t; path = numbers.path; tick = c.args.row.now.tick }) c.in_ok-triple.ensures) c.in_ok-push.ensures.items

pub returns-clause-pairs : goal.returns-clause-pairs
returns-clause-pairs c =
    let numbers = c.in_ok-numbers.numbers in
    let copy : PairRow = record { triple = c.in_ok-triple.triple; path = numbers.path; tick = c.args.row.now.tick } in
    row_added c.args.tables.now c.give_row.new.tables c.args.paths.now c.args.entries.now.items c.push.new.self.items numbers c.args.row.now copy c.give_row.ensures.grown c.requires.own c.in_ok-numbers.ensures.ok
    (ap (λ (t : Triple). record { triple = t; path = numbers.path; tick = c.args.row.now.tick }) c.in_ok-triple.ensures) c.in_ok-push.ensures.items
