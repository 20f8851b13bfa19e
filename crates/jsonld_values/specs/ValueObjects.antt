-- Value objects: a string, a boolean or a number with its type or its language (JSON-LD 1.1 sections 4.2.2, Typed Values, 4.2.4, String
-- Internationalization, and 9.5, Value Objects). Members are read in the byte order of their keys.
use Rattle.std.specs.Prelude.{ℕ, List, [], Bool, ◌||◌, nat_le, length, Option, Some, None, Result, Ok, Err, codes, if◌then◌else◌}
use Rattle.std.specs.Option.{option_map_or, is_some, unwrap_or}
use Rattle.std.specs.Str.{str_to_ascii_lowercase}
use Rattle.jrql_ast.specs.declared.patterns.Slot.{Slot}
use Rattle.text_rules.specs.Tags.{is_language_tag}
use Rattle.rdf_terms.specs.Literal.{LiteralValue, Typed, Tagged, xsd_string, xsd_integer, rdf_lang_string, is_same, lexical_limit}
use Rattle.serde_json.specs.Data.{Data, null, boolean, number, string, Num, Members}
use Rattle.serde_json.specs.Find.{get_member, is_float}
use Rattle.jsonld_context.specs.Context.{ContextValue}
use Rattle.jsonld_context.specs.ContextReading.{is_type_key, string_at, first_fault, unless_fault}
use Rattle.jsonld_context.specs.Expanding.{key_meant, expand_key}
use Rattle.jsonld_context.specs.Texts.{is_variable}
use Rattle.jsonld_context.specs.declared.faults.JsonFault.{JsonFault}
use Rattle.jsonld_context.specs.declared.faults.JsonFault.TheVariants as faults
use Rattle.jsonld_values.specs.Literals.{xsd_boolean, xsd_double, literal_slot, boolean_text, whole_text}

-- `@value`, `@language` and `@context` (JSON-LD 1.1 section 9.15, Keywords)
abbrev pub is_value_key : List ℕ → Bool
is_value_key key = is_same key (codes "@value")

abbrev pub is_language_key : List ℕ → Bool
is_language_key key = is_same key (codes "@language")

-- whether there is a member with a key
abbrev pub has_member : List ℕ → Members → Bool
has_member key members = is_some (get_member key members)

-- an object with `@value` is a value object
abbrev pub is_value_object : Members → Bool
is_value_object parts = has_member (codes "@value") parts

-- the datatype that `@type` says, else another
abbrev pub datatype_said : ContextValue → Members → List ℕ → List ℕ
datatype_said context parts other = option_map_or (key_meant context.vocabulary context.terms) (string_at (codes "@type") parts) other

-- ---- faults

-- `@language` is a string that is a language tag
abbrev pub fault_of_language : Data → Option JsonFault
fault_of_language (string tag) = if is_language_tag tag then None else Some (faults.BadSubject (codes "@language"))
fault_of_language other = Some (faults.BadSubject (codes "@language"))

-- a datatype that literals may have
abbrev pub fault_of_datatype : Result (List ℕ) JsonFault → Option JsonFault
fault_of_datatype (Ok iri) = if is_same iri rdf_lang_string then Some (faults.BadSubject (codes "@type")) else None
fault_of_datatype (Err fault) = Some fault

-- `@type` is such a datatype, no variable, and doesn't stand beside `@language`
abbrev pub fault_of_typing : ContextValue → Members → Data → Option JsonFault
fault_of_typing context parts (string text) =
    if has_member (codes "@language") parts || is_variable text then Some (faults.BadSubject (codes "@type"))
    else fault_of_datatype (expand_key context text)
fault_of_typing context parts other = Some (faults.BadSubject (codes "@type"))

-- a number is whole, and not of xsd:double
abbrev pub fault_of_number : List ℕ → Num → Option JsonFault
fault_of_number datatype value =
    if is_float value then Some faults.Fraction
    else (if is_same datatype xsd_double then Some (faults.Unsupported (codes "@value")) else None)

-- a string is not too long
abbrev pub fault_of_length : List ℕ → Option JsonFault
fault_of_length text = if nat_le (length text) lexical_limit then None else Some (faults.BadSubject (codes "@value"))

-- a boolean doesn't stand beside `@language`
abbrev pub fault_of_boolean : Members → Option JsonFault
fault_of_boolean parts = if has_member (codes "@language") parts then Some (faults.BadSubject (codes "@value")) else None

-- `@value` is a string, a boolean or a number, and beside `@language` a string
abbrev pub fault_of_written : ContextValue → Members → Data → Option JsonFault
fault_of_written context parts (string text) = fault_of_length text
fault_of_written context parts (boolean value) = fault_of_boolean parts
fault_of_written context parts (number value) =
    if has_member (codes "@language") parts then Some (faults.BadSubject (codes "@value"))
    else fault_of_number (datatype_said context parts xsd_integer) value
fault_of_written context parts other = Some (faults.BadSubject (codes "@value"))

-- no other member stands in a value object
abbrev pub fault_of_value_part : ContextValue → Members → List ℕ → Data → Option JsonFault
fault_of_value_part context parts key value =
    if is_language_key key then fault_of_language value
    else (if is_type_key key then fault_of_typing context parts value
    else (if is_value_key key then fault_of_written context parts value else Some (faults.BadSubject key)))

-- the first fault: `@context` is read before all others
abbrev pub fault_of_value_object : ContextValue → Members → Option JsonFault
fault_of_value_object context parts =
    if has_member (codes "@context") parts then Some (faults.BadSubject (codes "@context"))
    else first_fault (fault_of_value_part context parts) parts

-- ---- the literal

-- the lexical form of a value, and the datatype that it has by itself
abbrev pub written_form : Data → List ℕ
written_form (string text) = text
written_form (boolean value) = boolean_text value
written_form (number value) = unwrap_or (whole_text value) []
written_form other = []

abbrev pub native_type : Data → List ℕ
native_type (boolean value) = xsd_boolean
native_type (number value) = xsd_integer
native_type other = xsd_string

-- the literal of a lexical form beside these members: with a language tag, which is kept in lower case, else with the datatype that is
-- said, else with another
abbrev pub literal_beside : ContextValue → Members → List ℕ → List ℕ → LiteralValue
literal_beside context parts lexical other =
    option_map_or (λ tag. Tagged lexical (str_to_ascii_lowercase tag)) (string_at (codes "@language") parts)
    (Typed lexical (datatype_said context parts other))

-- the literal of a value beside these members
abbrev pub literal_said : ContextValue → Members → Data → LiteralValue
literal_said context parts value = literal_beside context parts (written_form value) (native_type value)

-- the literal of a value object
abbrev pub literal_meant : ContextValue → Members → LiteralValue
literal_meant context parts = literal_said context parts (unwrap_or (get_member (codes "@value") parts) null)

-- a value object as an object of a triple, or its first fault
unfoldable pub value_object : ContextValue → Members → Result Slot JsonFault
value_object context parts = unless_fault (fault_of_value_object context parts) (literal_slot (literal_meant context parts))
