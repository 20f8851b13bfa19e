use Rattle.std.proofs.Common.{sym}
use Rattle.rdf_terms.proofs.Plain.{plain_within}
use Rattle.rdf_terms.proofs.triples.is_object_within.Goals as goal

pub returns-in-Plain : goal.returns-in-Plain
returns-in-Plain c = rw (c.in-Plain.is, c.len-in-Plain.ensures) (sym (plain_within c.in-Plain.lexical))
