-- What a literal keeps whose datatype is xsd:string.
use Rattle.std.proofs.Common.{subst}
use Rattle.std.specs.Str.{IsUtf8}
use Rattle.rdf_terms.proofs.Plain.{plain_utf8}
use Rattle.rdf_terms.proofs.terms.Literal.kept.Goals as goal

pub returns-in-Plain-clause-utf8 : goal.returns-in-Plain-clause-utf8
returns-in-Plain-clause-utf8 c = rw (← c.self.view_is, c.in-Plain.is) (plain_utf8 c.self.inside.lexical (subst IsUtf8 c.as_str-lexical.ensures c.as_str-lexical.utf8))
