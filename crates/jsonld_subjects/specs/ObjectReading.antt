-- A value that stands alone, and not under a key: the object that it would be of a triple (JSON-LD 1.1 API sections 5.3.2, Value
-- Expansion, and 8.2.2, Object to RDF Conversion; this profile's own choice of where it stands, as a side of a filter).
use Rattle.std.specs.Prelude.{[], Bool, true, false, ◌||◌, nat_le, length, Option, Some, None, Result, Ok, Err, if◌then◌else◌}
use Rattle.jrql_ast.specs.declared.patterns.Slot.{Slot}
use Rattle.rdf_terms.specs.Literal.{lexical_limit}
use Rattle.serde_json.specs.Data.{Data, null, boolean, number, string, array, object, Members}
use Rattle.jsonld_context.specs.Context.{ContextValue}
use Rattle.jsonld_context.specs.Texts.{is_variable}
use Rattle.jsonld_context.specs.declared.faults.JsonFault.{JsonFault}
use Rattle.jsonld_context.specs.declared.faults.JsonFault.TheVariants as faults
use Rattle.jsonld_values.specs.Literals.{followed_by, made_of, string_object, boolean_object, number_object}
use Rattle.jsonld_values.specs.ValueObjects.{is_value_object, value_object}
use Rattle.jsonld_values.specs.VariableNames.{NamesValue}
use Rattle.jsonld_subjects.specs.SubjectReading.{Found, OpenSubject, slot_of, entered, ended, linked_to, read_members}
use Rattle.jsonld_subjects.specs.declared.places.Place.{Place}

-- a value that may stand alone: no array, and no string that is too long for a literal
abbrev pub stands_alone : Data → Bool
stands_alone (array items) = false
stands_alone (string text) = is_variable text || nat_le (length text) lexical_limit
stands_alone other = true

-- what a value gives: its object, where it gives one, beside what was found with it
pub record ObjectFound : Type 0 where
  pub found : Found
  pub object : Option Slot

-- an object that meets no names, and one with the names that were met
abbrev pub object_of : Found → Slot → ObjectFound
object_of found slot = record { found = found; object = Some slot }

abbrev pub object_with : Found → NamesValue × Slot → ObjectFound
object_with found met = object_of (record found { names = met.0 }) met.1

-- a subject that has ended is the object, behind its triples
abbrev pub subject_of : OpenSubject → ObjectFound
subject_of subject = record { found = ended subject; object = subject.slot }

-- a value object, or a subject
abbrev pub read_alone : ContextValue → Place → Members → Found → Result ObjectFound JsonFault
read_alone context place members found =
    if is_value_object members then made_of (value_object context members) (object_of found)
    else made_of (followed_by (entered place members found) (read_members context place members)) subject_of

-- a value that may stand alone, read as one of a key without a type: `null` gives no object
abbrev pub object_alone : ContextValue → Place → Data → Found → Result ObjectFound JsonFault
object_alone context place null found = Ok (record { found = found; object = None })
object_alone context place (boolean value) found = Ok (object_of found (boolean_object None value))
object_alone context place (number value) found = made_of (number_object [] None value) (object_of found)
object_alone context place (string text) found = made_of (slot_of found.names text (string_object context [] None text)) (object_with found)
object_alone context place (array items) found = Err (faults.Unsupported [])
object_alone context place (object members) found = read_alone context place members found

-- what a value gives beside the names that were met before it, or its first fault
unfoldable pub object_read : ContextValue → Place → NamesValue → Data → Result ObjectFound JsonFault
object_read context place names value = object_alone context place value (record { names = names; triples = [] })

-- what a value gives, as an object of a property
abbrev pub put_object : OpenSubject → Slot → ObjectFound → OpenSubject
put_object so_far property read = linked_to property read.object (record so_far { found = read.found })
