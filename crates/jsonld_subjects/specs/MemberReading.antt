-- Words of private contracts: what a member says, and an object as a value.
use Rattle.std.specs.Prelude.{ℕ, List, Result}
use Rattle.jrql_ast.specs.declared.patterns.Slot.{Slot}
use Rattle.serde_json.specs.Data.{Data, Members}
use Rattle.jsonld_context.specs.Context.{ContextValue}
use Rattle.jsonld_context.specs.declared.faults.JsonFault.{JsonFault}
use Rattle.jsonld_subjects.specs.SubjectReading.{OpenSubject, object_by, member_by, read_values, read_members}
use Rattle.jsonld_subjects.specs.declared.places.Place.{Place}

-- a member of a subject
abbrev pub read_member : ContextValue → Place → List ℕ → Data → OpenSubject → Result OpenSubject JsonFault
read_member context place key value so_far = member_by context key value so_far (read_values context place key value)

-- an object as a value of a property
abbrev pub read_object : ContextValue → Place → Slot → Members → OpenSubject → Result OpenSubject JsonFault
read_object context place property members so_far = object_by context place members property so_far (read_members context place members)
