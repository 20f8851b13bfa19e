use Rattle.graph_index.proofs.Numbers.{grown_twice, numbers_by_parts}
use Rattle.graph_index.proofs.tables.Tables.give.Goals as goal

pub returns-in_err-terms-clause-grown : goal.returns-in_err-terms-clause-grown
returns-in_err-terms-clause-grown c = grown_twice c.args.self.now c.give_path.new.self c.give_terms.new.self c.give_path.ensures.grown c.give_terms.ensures.grown

pub returns-clause-grown : goal.returns-clause-grown
returns-clause-grown c = grown_twice c.args.self.now c.give_path.new.self c.give_terms.new.self c.give_path.ensures.grown c.give_terms.ensures.grown

pub returns-clause-ok : goal.returns-clause-ok
returns-clause-ok c =
    numbers_by_parts c.give_path.new.self c.give_terms.new.self c.args.pair.now c.in_ok-terms.terms.0 c.in_ok-terms.terms.1 c.in_ok-terms.terms.2 c.in_ok-path.path
    c.give_terms.ensures.grown c.in_ok-path.ensures.ok c.in_ok-terms.ensures.ok
