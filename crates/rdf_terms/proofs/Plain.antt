-- xsd:string, the datatype of a literal that names none.
use Rattle.std.proofs.Common.{◌≡◌, ℕ, zero, suc, ◌<◌, ◌≤◌, [], ◌∷◌, List, length, Bool, true, false, ◌&&◌, not, IsTrue, refl, leb, arith}
use Rattle.std.specs.Prelude.{nat_lt}
use Rattle.std.specs.List.{list_all}
use Rattle.std.proofs.lemmas.Bool.{le-leb, and_parts}
use Rattle.std.proofs.lemmas.Bool.Decides.{nat_tests}
use Rattle.std.proofs.lemmas.Slice.Eq.{bytes_eq-Decides}
use Rattle.std.proofs.lemmas.Str.{IsUtf8-from_ascii}
use Rattle.std.specs.Str.{IsAscii, IsUtf8}
use Rattle.text_rules.specs.Iri.{is_iri, is_absolute, iri_limit}
use Rattle.rdf_terms.specs.declared.terms.Term.TheVariants as terms
use Rattle.rdf_terms.specs.Building.{is_term_within}
use Rattle.rdf_terms.specs.Literal.{Typed, IsLiteral, xsd_string, rdf_lang_string, is_same, lexical_limit}
use Rattle.rdf_terms.specs.Spelling.{datatype_text}
use Rattle.rdf_terms.specs.Written.{IsUtf8Literal}

-- it is a datatype that literals may have
pub string_absolute : IsTrue (is_iri xsd_string)
unfolding xsd_string is_iri
string_absolute = refl

pub string_typed : IsTrue (not (is_same xsd_string rdf_lang_string))
unfolding xsd_string rdf_lang_string
string_typed = refl

string_within : IsTrue (is_absolute xsd_string)
unfolding xsd_string is_iri
string_within = refl

pub plain_literal : (lexical : List ℕ) → length lexical ≤ lexical_limit → IsLiteral (Typed lexical xsd_string)
plain_literal lexical h = (le-leb (length lexical) lexical_limit h, string_within, string_typed)

-- a datatype that is the same is it
pub is_xsd_string : (datatype : List ℕ) → is_same datatype xsd_string ≡ true → datatype ≡ xsd_string
is_xsd_string datatype h = (bytes_eq-Decides datatype xsd_string).0 h

-- it isn't written
pub xsd_string_unwritten : datatype_text xsd_string ≡ []
unfolding xsd_string
xsd_string_unwritten = refl

-- its text is ASCII, so it is UTF-8
abbrev is_small : ℕ → Bool
is_small byte = nat_lt byte 128

small : (byte : ℕ) → is_small byte ≡ true → byte < 128
small byte h = grind (arith, nat_tests)

ascii_from_test : (text : List ℕ) → list_all is_small text ≡ true → IsAscii text
ascii_from_test [] h i = omega arith
ascii_from_test (byte ∷ text) h zero = small byte (and_parts (is_small byte) (list_all is_small text) h).0
ascii_from_test (byte ∷ text) h (suc i) = ascii_from_test text (and_parts (is_small byte) (list_all is_small text) h).1 i

string_small : list_all is_small xsd_string ≡ true
unfolding xsd_string
string_small = refl

xsd_string_utf8 : IsUtf8 xsd_string
xsd_string_utf8 = IsUtf8-from_ascii xsd_string (ascii_from_test xsd_string string_small)

pub plain_utf8 : (lexical : List ℕ) → IsUtf8 lexical → IsUtf8Literal (Typed lexical xsd_string)
plain_utf8 lexical u = (u, xsd_string_utf8)

-- it isn't too long
string_short : leb (length xsd_string) iri_limit ≡ true
unfolding xsd_string
string_short = refl

and_true : (b : Bool) → (b && true) ≡ b
and_true true = refl
and_true false = refl

pub plain_within : (lexical : List ℕ) → is_term_within (terms.Literal (Typed lexical xsd_string)) ≡ leb (length lexical) lexical_limit
plain_within lexical = rw string_short (and_true (leb (length lexical) lexical_limit))
