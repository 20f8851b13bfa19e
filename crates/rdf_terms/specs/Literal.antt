-- Literals: a lexical form with a datatype other than rdf:langString, or with a language tag
-- (RDF 1.1 Concepts section 3.3). Tags are kept in lower case.
use Rattle.std.specs.Prelude.{◌≡◌, ℕ, List, Bool, false, not, nat_le, nat_eq, IsTrue, Option, Some, None, length, codes}
use Rattle.std.specs.Cmp.Lexicographic.{pointwise}
use Rattle.std.specs.Str.{str_to_ascii_lowercase}
use Rattle.text_rules.specs.Iri.{is_absolute}
use Rattle.text_rules.specs.Tags.{is_language_tag}

-- a literal: a lexical form with its datatype, or a lexical form with its language tag
pub data LiteralValue : Type 0 where
  Typed : List ℕ → List ℕ → LiteralValue
  Tagged : List ℕ → List ℕ → LiteralValue

-- xsd:string, the datatype of a literal that names none
unfoldable pub xsd_string : List ℕ
xsd_string = codes "http://www.w3.org/2001/XMLSchema#string"

-- xsd:integer (XML Schema Part 2, section 3.3.13)
unfoldable pub xsd_integer : List ℕ
xsd_integer = codes "http://www.w3.org/2001/XMLSchema#integer"

-- rdf:langString, the datatype of literals with a language tag
unfoldable pub rdf_lang_string : List ℕ
rdf_lang_string = codes "http://www.w3.org/1999/02/22-rdf-syntax-ns#langString"

-- the lexical form of a literal
abbrev pub lexical_form : LiteralValue → List ℕ
lexical_form (Typed lexical datatype) = lexical
lexical_form (Tagged lexical tag) = lexical

-- its datatype, where it has no language tag
abbrev pub datatype_of : LiteralValue → Option (List ℕ)
datatype_of (Typed lexical datatype) = Some datatype
datatype_of (Tagged lexical tag) = None

-- its language tag, where it has one
abbrev pub language_of : LiteralValue → Option (List ℕ)
language_of (Typed lexical datatype) = None
language_of (Tagged lexical tag) = Some tag

-- two texts are the same
abbrev pub is_same : List ℕ → List ℕ → Bool
is_same = pointwise nat_eq

-- the literal is of this datatype
abbrev pub has_datatype : List ℕ → LiteralValue → Bool
has_datatype datatype (Typed lexical own) = is_same own datatype
has_datatype datatype (Tagged lexical tag) = false

-- how many bytes a lexical form has at most
abbrev pub lexical_limit : ℕ
lexical_limit = 1048576

-- what every literal keeps
abbrev pub IsLiteral : LiteralValue → Type 0
IsLiteral (Typed lexical datatype) =
    (IsTrue (nat_le (length lexical) lexical_limit)) × IsTrue (is_absolute datatype) × IsTrue (not (is_same datatype rdf_lang_string))
IsLiteral (Tagged lexical tag) =
    (IsTrue (nat_le (length lexical) lexical_limit)) × IsTrue (is_language_tag tag) × (str_to_ascii_lowercase tag ≡ tag)
