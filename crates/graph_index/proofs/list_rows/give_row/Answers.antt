use Rattle.graph_index.proofs.Numbers.{grown_twice, numbers_by_parts}
use Rattle.graph_index.proofs.Listing.{noted_kept}
use Rattle.mld_ops.specs.PairLists.{row_pair}
use Rattle.graph_index.proofs.list_rows.give_row.Goals as goal

pub returns-in_err-terms-clause-grown : goal.returns-in_err-terms-clause-grown
returns-in_err-terms-clause-grown c = grown_twice c.args.tables.now c.give_path_of.new.tables c.give_terms.new.self c.give_path_of.ensures.grown c.give_terms.ensures.grown

pub returns-clause-grown : goal.returns-clause-grown
returns-clause-grown c = grown_twice c.args.tables.now c.give_path_of.new.tables c.give_terms.new.self c.give_path_of.ensures.grown c.give_terms.ensures.grown

pub returns-clause-noted : goal.returns-clause-noted
returns-clause-noted c = noted_kept c.give_path_of.new.tables c.give_terms.new.self c.args.paths.now c.give_path_of.new.noted.items c.give_terms.ensures.grown c.in_ok-path.ensures.noted

pub returns-clause-ok : goal.returns-clause-ok
returns-clause-ok c =
    numbers_by_parts c.give_path_of.new.tables c.give_terms.new.self (row_pair c.args.paths.now c.args.row.now) c.in_ok-terms.terms.0 c.in_ok-terms.terms.1 c.in_ok-terms.terms.2 c.in_ok-path.path
    c.give_terms.ensures.grown c.in_ok-path.ensures.ok c.in_ok-terms.ensures.ok
