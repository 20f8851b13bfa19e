use Rattle.number_tables.specs.HashedTerms.{wanted_term}
use Rattle.number_tables.proofs.Lookups.{told_at}
use Rattle.number_tables.proofs.hashed.Wanted.is_at.Goals as goal

pub returns : goal.returns
returns c = told_at c.args.terms.now c.args.number (wanted_term c.args.self.now) c.compare_at.result c.is_eq.result c.compare_at.ensures c.is_eq.ensures
