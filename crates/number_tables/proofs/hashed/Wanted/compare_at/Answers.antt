use Rattle.number_tables.specs.HashedTerms.{wanted_term}
use Rattle.number_tables.proofs.TermTexts.{past_is_less}
use Rattle.number_tables.proofs.hashed.Wanted.compare_at.Goals as goal

pub returns-in-None : goal.returns-in-None
returns-in-None c = past_is_less c.args.terms.now c.args.number (wanted_term c.args.self.now) c.in-None.ensures.lookup.0
