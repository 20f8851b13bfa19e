use Rattle.number_tables.proofs.TermTexts.{more_than_none, same_as_none}
use Rattle.number_tables.proofs.sought.compare_with_none.Goals as goal

pub returns-in-Some : goal.returns-in-Some
returns-in-Some c = more_than_none c.args.terms.now c.args.number c.in-Some.field-0.now c.in-Some.ensures.lookup.0 c.in-Some.ensures.lookup.1

pub returns-in-None : goal.returns-in-None
returns-in-None c = same_as_none c.args.terms.now c.args.number c.in-None.ensures.lookup.0
