-- Strings, booleans and numbers as objects of triples (JSON-LD 1.1 section 4.2.3, Type Coercion;
-- JSON-LD 1.1 API sections 5.3.2, Value Expansion, and 8.2.2, Object to RDF Conversion).
use Rattle.std.specs.Prelude.{ℕ, List, Bool, true, false, not, nat_le, length, decimal, IsTrue, Option, Some, None, Result, Ok, Err, codes, if◌then◌else◌}
use Rattle.std.specs.Fmt.{signed_decimal}
use Rattle.jrql_ast.specs.declared.patterns.Slot.{Slot}
use Rattle.jrql_ast.specs.declared.patterns.Slot.TheVariants as slots
use Rattle.text_rules.specs.Iri.{is_absolute}
use Rattle.rdf_terms.specs.Literal.{LiteralValue, Typed, xsd_string, xsd_integer, rdf_lang_string, is_same, lexical_limit}
use Rattle.rdf_terms.specs.declared.terms.Term.TheVariants as terms
use Rattle.serde_json.specs.Data.{Num, unsigned, negative, float}
use Rattle.jsonld_context.specs.Context.{ContextValue}
use Rattle.jsonld_context.specs.Expanding.{expand_id}
use Rattle.jsonld_context.specs.declared.definitions.TermType.{TermType}
use Rattle.jsonld_context.specs.declared.definitions.TermType.TheVariants as types
use Rattle.jsonld_context.specs.declared.faults.JsonFault.{JsonFault}
use Rattle.jsonld_context.specs.declared.faults.JsonFault.TheVariants as faults

-- XML Schema Part 2: the types of booleans and of floating point numbers
unfoldable pub xsd_boolean : List ℕ
xsd_boolean = codes "http://www.w3.org/2001/XMLSchema#boolean"

unfoldable pub xsd_double : List ℕ
xsd_double = codes "http://www.w3.org/2001/XMLSchema#double"

-- what follows a value that was read; a fault ends the reading
abbrev pub followed_by : {X Y : Type 0} → Result X JsonFault → (X → Result Y JsonFault) → Result Y JsonFault
followed_by (Ok value) next = next value
followed_by (Err fault) next = Err fault

-- what is made of it
abbrev pub made_of : {X Y : Type 0} → Result X JsonFault → (X → Y) → Result Y JsonFault
made_of (Ok value) make = Ok (make value)
made_of (Err fault) make = Err fault

-- an IRI, and a literal, as an object
abbrev pub iri_slot : List ℕ → Slot
iri_slot iri = slots.Term (terms.Iri iri)

abbrev pub literal_slot : LiteralValue → Slot
literal_slot literal = slots.Term (terms.Literal literal)

-- the datatype of the values of a term, where it has one that isn't `@id`, else another
abbrev pub datatype_under : Option TermType → List ℕ → List ℕ
datatype_under None other = other
datatype_under (Some types.Id) other = other
datatype_under (Some (types.Datatype iri)) other = iri

-- a literal whose lexical form is not too long; else a breach of its key
abbrev pub literal_object : List ℕ → List ℕ → List ℕ → Result Slot JsonFault
literal_object key lexical datatype =
    if nat_le (length lexical) lexical_limit then Ok (literal_slot (Typed lexical datatype)) else Err (faults.BadSubject key)

-- a string that is no variable: an id, or a literal of the term's datatype, else of xsd:string
abbrev pub string_object : ContextValue → List ℕ → Option TermType → List ℕ → Result Slot JsonFault
string_object context key None text = literal_object key text xsd_string
string_object context key (Some types.Id) text = made_of (expand_id context text) iri_slot
string_object context key (Some (types.Datatype iri)) text = literal_object key text iri

-- `true` and `false`
abbrev pub boolean_text : Bool → List ℕ
boolean_text true = codes "true"
boolean_text false = codes "false"

abbrev pub boolean_object : Option TermType → Bool → Slot
boolean_object kind value = literal_slot (Typed (boolean_text value) (datatype_under kind xsd_boolean))

-- a number's decimal text; one that is no whole number of 64 bits has none
abbrev pub whole_text : Num → Option (List ℕ)
whole_text (unsigned value) = Some (decimal value)
whole_text (negative value) = Some (signed_decimal value)
whole_text (float value) = None

-- a whole number as a literal of a datatype, which may not be xsd:double: its form there is another
abbrev pub whole_object : List ℕ → List ℕ → List ℕ → Result Slot JsonFault
whole_object key text datatype = if is_same datatype xsd_double then Err (faults.Unsupported key) else Ok (literal_slot (Typed text datatype))

abbrev pub number_of_text : List ℕ → List ℕ → Option (List ℕ) → Result Slot JsonFault
number_of_text key datatype None = Err faults.Fraction
number_of_text key datatype (Some text) = whole_object key text datatype

abbrev pub number_object : List ℕ → Option TermType → Num → Result Slot JsonFault
number_object key kind value = number_of_text key (datatype_under kind xsd_integer) (whole_text value)

-- ---- words of private contracts

-- a text that is the datatype of literals
abbrev pub IsDatatype : List ℕ → Type 0
IsDatatype iri = IsTrue (is_absolute iri) × IsTrue (not (is_same iri rdf_lang_string))
