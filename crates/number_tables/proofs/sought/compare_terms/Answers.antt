use Rattle.number_tables.specs.HashedTerms.{term_text_at}
use Rattle.number_tables.proofs.TermTexts.{compared_within, compared_past}
use Rattle.number_tables.proofs.sought.compare_terms.Goals as goal

pub returns-in-Some : goal.returns-in-Some
returns-in-Some c =
    compared_within c.args.terms.now c.compare_at.result (term_text_at c.args.terms.now c.args.a) c.args.b c.in-Some.term.now c.in-Some.ensures.lookup.0 c.in-Some.ensures.lookup.1
    c.compare_at.ensures

pub returns-in-None : goal.returns-in-None
returns-in-None c =
    compared_past c.args.terms.now c.compare_with_none.result (term_text_at c.args.terms.now c.args.a) c.args.b c.in-None.ensures.lookup.0 c.compare_with_none.ensures
