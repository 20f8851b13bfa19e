-- Triples that are spelled as they are written.
use Rattle.std.specs.Prelude.{◌≡◌, not, IsTrue}
use Rattle.std.specs.Str.{IsUtf8, str_to_ascii_lowercase}
use Rattle.text_rules.specs.Iri.{is_iri}
use Rattle.rdf_terms.specs.declared.terms.Term.{Term}
use Rattle.rdf_terms.specs.declared.terms.Term.TheVariants as terms
use Rattle.rdf_terms.specs.declared.terms.Triple.{Triple}
use Rattle.rdf_terms.specs.Grammar.{SpellsTriple, IsTripleWithin}
use Rattle.rdf_terms.specs.Spelling.{triple_text}
use Rattle.text_rules.specs.Tags.{is_language_tag}
use Rattle.rdf_terms.specs.Literal.{LiteralValue, Typed, Tagged, rdf_lang_string, is_same}

-- a term that keeps what terms keep, of any length
abbrev pub IsWritableTerm : Term → Type 0
IsWritableTerm (terms.Iri iri) = IsTrue (is_iri iri)
IsWritableTerm (terms.Literal (Typed lexical datatype)) = IsTrue (is_iri datatype) × IsTrue (not (is_same datatype rdf_lang_string))
IsWritableTerm (terms.Literal (Tagged lexical tag)) = IsTrue (is_language_tag tag) × (str_to_ascii_lowercase tag ≡ tag)

-- a triple of such terms
pub record IsWritable (triple : Triple) : Type 0 where
  pub subject : IsTrue (is_iri triple.s)
  pub predicate : IsTrue (is_iri triple.p)
  pub object : IsWritableTerm triple.o

-- the texts of a literal are UTF-8
abbrev pub IsUtf8Literal : LiteralValue → Type 0
IsUtf8Literal (Typed lexical datatype) = IsUtf8 lexical × IsUtf8 datatype
IsUtf8Literal (Tagged lexical tag) = IsUtf8 lexical × IsUtf8 tag

-- the texts of a term are UTF-8
abbrev pub IsUtf8Term : Term → Type 0
IsUtf8Term (terms.Iri iri) = IsUtf8 iri
IsUtf8Term (terms.Literal literal) = IsUtf8Literal literal

-- what is written for a triple is a text that spells it, and no part of it is too long
pub record IsWrittenSo (triple : Triple) : Type 0 where
  pub spelled : SpellsTriple (triple_text triple) triple
  pub within : IsTripleWithin triple
  pub utf8 : IsUtf8 (triple_text triple)
