use Rattle.jrql_patterns.proofs.KeptGroups.{where_read}
use Rattle.jrql_patterns.proofs.laws.reading_where_keeps_to_names.Goals as goal

pub returns : goal.returns
returns c = where_read
