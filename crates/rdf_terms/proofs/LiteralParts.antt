-- The parts of a literal, as they are kept.
use Rattle.std.proofs.Common.{◌≡◌, ℕ, List, refl}
use Rattle.rdf_terms.specs.declared.terms.Kind.{Kind}
use Rattle.rdf_terms.specs.declared.terms.Kind.TheVariants.{Plain, Datatype, Language}
use Rattle.rdf_terms.specs.Literal.{lexical_form}
use Rattle.rdf_terms.specs.LiteralView.{literal_of}

-- the lexical form stands beside the datatype or the tag
pub kept_form : (lexical : List ℕ) (kind : Kind) → lexical_form (literal_of lexical kind) ≡ lexical
kept_form lexical Plain = refl
kept_form lexical (Datatype iri) = refl
kept_form lexical (Language tag) = refl
