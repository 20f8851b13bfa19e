use Rattle.graph_index.proofs.Numbers.{grown_twice, terms_by_parts}
use Rattle.graph_index.proofs.tables.Tables.give_terms.Goals as goal

pub returns-in_err-p-clause-grown : goal.returns-in_err-p-clause-grown
returns-in_err-p-clause-grown c = grown_twice c.args.self.now c.give_iri.new.self c.give_iri-2.new.self c.give_iri.ensures.grown c.give_iri-2.ensures.grown

pub returns-in_err-o-clause-grown : goal.returns-in_err-o-clause-grown
returns-in_err-o-clause-grown c =
    grown_twice c.args.self.now c.give_iri.new.self c.give_term.new.self c.give_iri.ensures.grown
    (grown_twice c.give_iri.new.self c.give_iri-2.new.self c.give_term.new.self c.give_iri-2.ensures.grown c.give_term.ensures.grown)

pub returns-clause-grown : goal.returns-clause-grown
returns-clause-grown c =
    grown_twice c.args.self.now c.give_iri.new.self c.give_term.new.self c.give_iri.ensures.grown
    (grown_twice c.give_iri.new.self c.give_iri-2.new.self c.give_term.new.self c.give_iri-2.ensures.grown c.give_term.ensures.grown)

pub returns-clause-ok : goal.returns-clause-ok
returns-clause-ok c =
    terms_by_parts c.give_iri.new.self c.give_iri-2.new.self c.give_term.new.self c.args.triple.now c.in_ok-s.s c.in_ok-p.p c.in_ok-o.o
    c.give_iri-2.ensures.grown c.give_term.ensures.grown c.in_ok-s.ensures.ok c.in_ok-p.ensures.ok c.in_ok-o.ensures.ok
