-- Subjects as triples (JSON-LD 1.1 sections 3.3, Node Identifiers, 3.5, Specifying the Type, 4.5, Embedding, and 9.2, Node Objects;
-- JSON-LD 1.1 API sections 5.1.2, Expansion, and 8.1.2, Deserialize JSON-LD to RDF). Members are read in the byte order of their keys.
use Rattle.std.specs.Prelude.{ℕ, List, [], ◌∷◌, ◌++◌, Option, Some, None, Result, Ok, Err, codes, map, if◌then◌else◌}
use Rattle.jrql_ast.specs.declared.patterns.PatternTriple.{PatternTriple}
use Rattle.jrql_ast.specs.declared.patterns.Slot.{Slot}
use Rattle.serde_json.specs.Data.{Data, null, boolean, number, string, array, object, Items, no_items, item, Members, no_members, member}
use Rattle.jsonld_context.specs.Context.{ContextValue, type_of}
use Rattle.jsonld_context.specs.ContextReading.{is_id_key, is_type_key}
use Rattle.jsonld_context.specs.Expanding.{expand_key, expand_id}
use Rattle.jsonld_context.specs.Texts.{is_variable, begins_as_keyword}
use Rattle.jsonld_context.specs.declared.definitions.TermType.{TermType}
use Rattle.jsonld_context.specs.declared.faults.JsonFault.{JsonFault}
use Rattle.jsonld_context.specs.declared.faults.JsonFault.TheVariants as faults
use Rattle.jsonld_values.specs.Literals.{followed_by, made_of, iri_slot, string_object, boolean_object, number_object}
use Rattle.jsonld_values.specs.ValueObjects.{has_member, is_value_object, value_object}
use Rattle.jsonld_values.specs.VariableNames.{NamesValue, meet_variable, meet_hidden, meet_fresh}
use Rattle.jsonld_subjects.specs.declared.places.Place.{Place}
use Rattle.jsonld_subjects.specs.declared.places.Place.TheVariants.{Pattern, Insert}

-- rdf:type (RDF Schema 1.1 section 3.3)
unfoldable pub rdf_type : List ℕ
rdf_type = codes "http://www.w3.org/1999/02/22-rdf-syntax-ns#type"

-- what was read of a text so far: the names that were met, and the triples of the subjects that have ended
pub record Found : Type 0 where
  pub names : NamesValue
  pub triples : List PatternTriple

-- what was read of a subject so far: beside that its slot, once it is known, and its properties with their objects
pub record OpenSubject : Type 0 where
  pub found : Found
  pub slot : Option Slot
  pub properties : List (Slot × Slot)

-- names were met
abbrev pub with_names : OpenSubject → NamesValue → OpenSubject
with_names so_far names = record so_far { found = record so_far.found { names = names } }

-- a property has one more object
abbrev pub with_object : OpenSubject → Slot → Slot → OpenSubject
with_object so_far property value = record so_far { properties = so_far.properties ++ (property, value) ∷ [] }

-- ---- names

-- a text that is a variable is met, any other is read
abbrev pub slot_of : NamesValue → List ℕ → Result Slot JsonFault → Result (NamesValue × Slot) JsonFault
slot_of names text other = if is_variable text then meet_variable names text else made_of other (λ slot. (names, slot))

-- a key as a property
abbrev pub property_of : ContextValue → List ℕ → NamesValue → Result (NamesValue × Slot) JsonFault
property_of context key names = slot_of names key (made_of (expand_key context key) iri_slot)

-- an object of a property was read, and names with it
abbrev pub object_met : OpenSubject → Slot → NamesValue × Slot → OpenSubject
object_met so_far property met = with_object (with_names so_far met.0) property met.1

-- ---- `@id` and `@type`

-- `@id` is a string: a variable, or an id
abbrev pub read_id : ContextValue → Data → OpenSubject → Result OpenSubject JsonFault
read_id context (string text) so_far =
    made_of (slot_of so_far.found.names text (made_of (expand_id context text) iri_slot))
    (λ met. record (with_names so_far met.0) { slot = Some met.1 })
read_id context other so_far = Err (faults.BadSubject (codes "@id"))

-- a type is a string: a variable, or what a key would stand for
abbrev pub read_type : ContextValue → Data → OpenSubject → Result OpenSubject JsonFault
read_type context (string text) so_far =
    made_of (slot_of so_far.found.names text (made_of (expand_key context text) iri_slot)) (object_met so_far (iri_slot rdf_type))
read_type context other so_far = Err (faults.BadSubject (codes "@type"))

abbrev pub read_each_type : ContextValue → Items → OpenSubject → Result OpenSubject JsonFault
read_each_type context no_items so_far = Ok so_far
read_each_type context (item value rest) so_far = followed_by (read_type context value so_far) (read_each_type context rest)

-- `@type` is a type, or an array of types
abbrev pub read_types : ContextValue → Data → OpenSubject → Result OpenSubject JsonFault
read_types context (array items) so_far = read_each_type context items so_far
read_types context other so_far = read_type context other so_far

-- ---- subjects

-- where a subject without `@id` begins: a hidden variable in a pattern, and a fresh subject in an insert
abbrev pub meet_subject : Place → NamesValue → Result (NamesValue × Slot) JsonFault
meet_subject Pattern names = meet_hidden names
meet_subject Insert names = Ok (meet_fresh names)

abbrev pub begun : Place → Members → Found → Result OpenSubject JsonFault
begun place members found =
    if has_member (codes "@id") members then Ok (record { found = found; slot = None; properties = [] })
    else made_of (meet_subject place found.names)
    (λ met. record { found = record found { names = met.0 }; slot = Some met.1; properties = [] })

-- a subject has no context of its own; that is found before its other members
abbrev pub without_context : Members → OpenSubject → Result OpenSubject JsonFault
without_context members so_far =
    if has_member (codes "@context") members then Err (faults.Unsupported (codes "@context")) else Ok so_far

-- the triples of a subject
abbrev pub triples_about : Option Slot → List (Slot × Slot) → List PatternTriple
triples_about None properties = []
triples_about (Some subject) properties = map (λ property. record { s = subject; p = property.0; o = property.1 }) properties

-- where a subject ends, its triples stand behind those of the subjects within it
abbrev pub ended : OpenSubject → Found
ended so_far = record so_far.found { triples = so_far.found.triples ++ triples_about so_far.slot so_far.properties }

-- a subject is the object of a property
abbrev pub linked_to : Slot → Option Slot → OpenSubject → OpenSubject
linked_to property None outer = outer
linked_to property (Some subject) outer = with_object outer property subject

-- so is a subject within another, where it has ended
abbrev pub linked : OpenSubject → Slot → OpenSubject → OpenSubject
linked outer property inner =
    linked_to property inner.slot (record outer { found = ended inner })

-- where a subject begins, behind that nothing but its members is to be read
abbrev pub entered : Place → Members → Found → Result OpenSubject JsonFault
entered place members found = followed_by (begun place members found) (without_context members)

-- an object as a value: a value object, or a subject within this one, whose members are read so
abbrev pub object_by : ContextValue → Place → Members → Slot → OpenSubject → (OpenSubject → Result OpenSubject JsonFault) → Result OpenSubject JsonFault
object_by context place members property so_far members_read =
    if is_value_object members then made_of (value_object context members) (with_object so_far property)
    else made_of (followed_by (entered place members so_far.found) members_read) (linked so_far property)

-- any other value: a variable, a literal or an IRI. `null` says nothing, and an array stands in no array
abbrev pub read_plain : ContextValue → List ℕ → Option TermType → Slot → Data → OpenSubject → Result OpenSubject JsonFault
read_plain context key kind property null so_far = Ok so_far
read_plain context key kind property (boolean value) so_far = Ok (with_object so_far property (boolean_object kind value))
read_plain context key kind property (number value) so_far = made_of (number_object key kind value) (with_object so_far property)
read_plain context key kind property (string text) so_far =
    made_of (slot_of so_far.found.names text (string_object context key kind text)) (object_met so_far property)
read_plain context key kind property other so_far = Err (faults.Unsupported key)

-- a member of a subject: `@id`, `@type`, or a property, whose values are read so
abbrev pub member_by : ContextValue → List ℕ → Data → OpenSubject → (Option TermType → Slot → OpenSubject → Result OpenSubject JsonFault) → Result OpenSubject JsonFault
member_by context key value so_far values_read =
    if is_id_key key then read_id context value so_far
    else (if is_type_key key then read_types context value so_far
    else (if begins_as_keyword key then Err (faults.Unsupported key)
    else followed_by (property_of context key so_far.found.names)
    (λ met. values_read (type_of context.terms key) met.1 (with_names so_far met.0))))

abbrev mutual
  -- one of the values of a property
  pub read_single : ContextValue → Place → List ℕ → Option TermType → Slot → Data → OpenSubject → Result OpenSubject JsonFault
  read_single context place key kind property (object members) so_far = object_by context place members property so_far (read_members context place members)
  read_single context place key kind property other so_far = read_plain context key kind property other so_far

  pub read_each : ContextValue → Place → List ℕ → Option TermType → Slot → Items → OpenSubject → Result OpenSubject JsonFault
  read_each context place key kind property no_items so_far = Ok so_far
  read_each context place key kind property (item value rest) so_far =
      followed_by (read_single context place key kind property value so_far) (read_each context place key kind property rest)

  -- a property has one value, or an array of values
  pub read_values : ContextValue → Place → List ℕ → Data → Option TermType → Slot → OpenSubject → Result OpenSubject JsonFault
  read_values context place key (array items) kind property so_far = read_each context place key kind property items so_far
  read_values context place key (object members) kind property so_far = object_by context place members property so_far (read_members context place members)
  read_values context place key other kind property so_far = read_plain context key kind property other so_far

  -- what a subject says, member by member
  pub read_members : ContextValue → Place → Members → OpenSubject → Result OpenSubject JsonFault
  read_members context place no_members so_far = Ok so_far
  read_members context place (member key value rest) so_far =
      followed_by (member_by context key value so_far (read_values context place key value)) (read_members context place rest)

-- ---- a text

-- a subject is an object; its triples come behind what was found before
abbrev pub read_subject : ContextValue → Place → Data → Found → Result Found JsonFault
read_subject context place (object members) found = made_of (followed_by (entered place members found) (read_members context place members)) ended
read_subject context place other found = Err (faults.BadSubject [])

abbrev pub read_each_subject : ContextValue → Place → Items → Found → Result Found JsonFault
read_each_subject context place no_items found = Ok found
read_each_subject context place (item value rest) found = followed_by (read_subject context place value found) (read_each_subject context place rest)

-- a subject, or an array of subjects
abbrev pub read_any : ContextValue → Place → Data → Found → Result Found JsonFault
read_any context place (array items) found = read_each_subject context place items found
read_any context place other found = read_subject context place other found

-- what a value says as subjects, beside the names that were met before it, or its first fault
unfoldable pub subjects_read : ContextValue → Place → NamesValue → Data → Result Found JsonFault
subjects_read context place names value = read_any context place value (record { names = names; triples = [] })
