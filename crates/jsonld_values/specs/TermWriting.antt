-- Terms as JSON values (JSON-LD 1.1 API section 8.5.2, RDF to Object Conversion; this profile's own choice of forms).
use Rattle.std.specs.Prelude.{ℕ, ℤ, pos, negsuc, List, true, false, ◌^◌, nat_lt, Option, Some, None, codes, if◌then◌else◌}
use Rattle.std.specs.Option.{option_and_then, option_map_or}
use Rattle.text_rules.specs.Integers.{plain_integer_value}
use Rattle.rdf_terms.specs.Literal.{LiteralValue, Typed, Tagged, xsd_string, xsd_integer, is_same}
use Rattle.rdf_terms.specs.declared.terms.Term.{Term}
use Rattle.rdf_terms.specs.declared.terms.Term.TheVariants as terms
use Rattle.serde_json.specs.Data.{Data, boolean, number, string, object, Num, unsigned, negative, no_members, member}
use Rattle.jsonld_context.specs.Context.{ContextValue}
use Rattle.jsonld_context.specs.ShortForms.{compact_key, compact_id}
use Rattle.jsonld_context.specs.Texts.{is_variable}
use Rattle.jsonld_values.specs.Literals.{xsd_boolean}

-- a whole number as JSON's own, where it is one from -2^63 to 2^64 - 1
abbrev pub json_number : ℤ → Option Num
json_number (pos value) = if nat_lt value (2 ^ 64) then Some (unsigned value) else None
json_number (negsuc before) = if nat_lt before (2 ^ 63) then Some (negative (negsuc before)) else None

-- the number from -2^63 to 2^64 - 1 whose plain decimal form a text is
abbrev pub plain_number : List ℕ → Option Num
plain_number text = option_and_then json_number (plain_integer_value text)

-- an object with one member, and with two
abbrev pub one_member : List ℕ → Data → Data
one_member key value = object (member key value no_members)

abbrev pub two_members : List ℕ → Data → List ℕ → Data → Data
two_members key value other more = object (member key value (member other more no_members))

-- `{"@type":T,"@value":S}`, with the key of the datatype
abbrev pub typed_data : ContextValue → List ℕ → List ℕ → Data
typed_data context lexical datatype = two_members (codes "@type") (string (compact_key context datatype)) (codes "@value") (string lexical)

-- a string that would be read as a variable is written as a value object
abbrev pub string_data : List ℕ → Data
string_data text = if is_variable text then one_member (codes "@value") (string text) else string text

-- xsd:boolean has `true` and `false` as JSON's own
abbrev pub boolean_data : ContextValue → List ℕ → Data
boolean_data context text =
    if is_same text (codes "true") then boolean true
    else (if is_same text (codes "false") then boolean false else typed_data context text xsd_boolean)

-- xsd:integer has numbers in their plain form as JSON's own
abbrev pub integer_data : ContextValue → List ℕ → Data
integer_data context text = option_map_or (λ value. number value) (plain_number text) (typed_data context text xsd_integer)

-- a literal
abbrev pub literal_data : ContextValue → LiteralValue → Data
literal_data context (Tagged lexical tag) = two_members (codes "@language") (string tag) (codes "@value") (string lexical)
literal_data context (Typed lexical datatype) =
    if is_same datatype xsd_string then string_data lexical
    else (if is_same datatype xsd_boolean then boolean_data context lexical
    else (if is_same datatype xsd_integer then integer_data context lexical else typed_data context lexical datatype))

-- a term
unfoldable pub term_data : ContextValue → Term → Data
term_data context (terms.Iri iri) = one_member (codes "@id") (string (compact_id context iri))
term_data context (terms.Literal literal) = literal_data context literal
