-- Subjects without an id, in words of the text (JSON-LD 1.1 sections 3.3, Node Identifiers, 4.5, Embedding, and 9.2, Node Objects; SPARQL
-- 1.1 Query Language section 4.1.4, Blank Nodes; SPARQL 1.1 Update section 3.1.3, DELETE/INSERT). Each is one of its own, numbered in the
-- order in which they begin: this holds of all that is read, beside the order in which it is read.
use Rattle.std.specs.Prelude.{◌≡◌, ◌≢◌, ℕ, ◌+◌, List, [], ◌∷◌, ◌++◌, All, Option, Some, None, codes, if◌then◌else◌}
use Rattle.jrql_ast.specs.InForm.{variable_limit}
use Rattle.jrql_ast.specs.declared.patterns.PatternTriple.{PatternTriple}
use Rattle.jrql_ast.specs.declared.patterns.Slot.{Slot}
use Rattle.jrql_ast.specs.declared.patterns.Slot.TheVariants as slots
use Rattle.serde_json.specs.Data.{Data, array, object, Items, no_items, item, Members, no_members, member}
use Rattle.jsonld_values.specs.ValueObjects.{has_member, is_value_object}
use Rattle.jsonld_values.specs.VariableNames.{NamesValue}
use Rattle.jsonld_subjects.specs.SubjectReading.{Found, triples_about}
use Rattle.jsonld_subjects.specs.declared.places.Place.{Place}
use Rattle.jsonld_subjects.specs.declared.places.Place.TheVariants.{Pattern, Insert}

-- ---- how many ids are missing

-- a subject lacks an id, or has one
abbrev pub one_missing : Members → ℕ
one_missing members = if has_member (codes "@id") members then 0 else 1

abbrev mutual
  -- in a value of a member: that of a subject, and those of the subjects within it. A value object is no subject
  pub missing_in : Data → ℕ
  missing_in (object members) = if is_value_object members then 0 else one_missing members + missing_under members
  missing_in (array items) = missing_among items
  missing_in other = 0

  pub missing_among : Items → ℕ
  missing_among no_items = 0
  missing_among (item value rest) = missing_in value + missing_among rest

  pub missing_under : Members → ℕ
  missing_under no_members = 0
  missing_under (member key value rest) = missing_in value + missing_under rest

-- in a subject
abbrev pub missing_of : Data → ℕ
missing_of (object members) = one_missing members + missing_under members
missing_of other = 0

abbrev pub missing_of_each : Items → ℕ
missing_of_each no_items = 0
missing_of_each (item value rest) = missing_of value + missing_of_each rest

-- in a subject, or in an array of subjects
abbrev pub missing_ids : Data → ℕ
missing_ids (array items) = missing_of_each items
missing_ids other = missing_of other

-- ---- which number each subject without an id has

-- the number that is next, or none for a subject that has an id
abbrev pub own_number : ℕ → Members → Option ℕ
own_number next members = if has_member (codes "@id") members then None else Some next

-- the subjects of a value in the order in which they end, so that one stands behind those within it. They are numbered as they begin
abbrev mutual
  pub numbers_in : ℕ → Data → List (Option ℕ)
  numbers_in next (object members) =
      if is_value_object members then [] else numbers_under (next + one_missing members) members ++ own_number next members ∷ []
  numbers_in next (array items) = numbers_among next items
  numbers_in next other = []

  pub numbers_among : ℕ → Items → List (Option ℕ)
  numbers_among next no_items = []
  numbers_among next (item value rest) = numbers_in next value ++ numbers_among (next + missing_in value) rest

  pub numbers_under : ℕ → Members → List (Option ℕ)
  numbers_under next no_members = []
  numbers_under next (member key value rest) = numbers_in next value ++ numbers_under (next + missing_in value) rest

abbrev pub numbers_of : ℕ → Data → List (Option ℕ)
numbers_of next (object members) = numbers_under (next + one_missing members) members ++ own_number next members ∷ []
numbers_of next other = []

abbrev pub numbers_of_each : ℕ → Items → List (Option ℕ)
numbers_of_each next no_items = []
numbers_of_each next (item value rest) = numbers_of next value ++ numbers_of_each (next + missing_of value) rest

abbrev pub numbers_of_subjects : ℕ → Data → List (Option ℕ)
numbers_of_subjects next (array items) = numbers_of_each next items
numbers_of_subjects next other = numbers_of next other

-- ---- what is read

-- a subject with what is said of it
pub record Told : Type 0 where
  pub subject : Option Slot
  pub properties : List (Slot × Slot)

abbrev pub triples_told : List Told → List PatternTriple
triples_told [] = []
triples_told (told ∷ rest) = triples_about told.subject told.properties ++ triples_told rest

-- how many subjects without an id were met: they are the hidden variables of patterns, and the fresh subjects of inserts
abbrev pub without_id : Place → NamesValue → ℕ
without_id Pattern names = names.hidden
without_id Insert names = names.fresh

abbrev pub slot_without_id : Place → ℕ → Slot
slot_without_id Pattern number = slots.Var (variable_limit + number)
slot_without_id Insert number = slots.Fresh number

abbrev pub IsNotFresh : Option Slot → Type 0
IsNotFresh None = Unit {0}
IsNotFresh (Some (slots.Term term)) = Unit {0}
IsNotFresh (Some (slots.Var variable)) = Unit {0}
IsNotFresh (Some (slots.Fresh subject)) = ⊥

-- a subject without an id has the slot of its number, and one with an id isn't fresh
abbrev pub IsItsSlot : Place → Option ℕ → Option Slot → Type 0
IsItsSlot place (Some number) slot = slot ≡ Some (slot_without_id place number)
IsItsSlot place None slot = IsNotFresh slot

-- each of several
abbrev pub HaveTheirSlots : Place → List (Option ℕ) → List Told → Type 0
HaveTheirSlots place [] [] = Unit {0}
HaveTheirSlots place [] (told ∷ rest) = ⊥
HaveTheirSlots place (number ∷ numbers) [] = ⊥
HaveTheirSlots place (number ∷ numbers) (told ∷ rest) = IsItsSlot place number told.subject × HaveTheirSlots place numbers rest

-- no two of them are the same fresh subject
abbrev pub AreOtherFresh : Told → Told → Type 0
AreOtherFresh told other = (number : ℕ) → told.subject ≡ Some (slots.Fresh number) → other.subject ≢ Some (slots.Fresh number)

abbrev pub HaveOwnFresh : List Told → Type 0
HaveOwnFresh [] = Unit {0}
HaveOwnFresh (told ∷ rest) = All (AreOtherFresh told) rest × HaveOwnFresh rest

-- what is found are the triples of the value's subjects, of each with its own slot; as many were met without an id as ids are missing
pub record HasOwnSubjects (place : Place) (before : NamesValue) (value : Data) (found : Found) : Type 0 where
  pub count : without_id place found.names ≡ without_id place before + missing_ids value
  pub told : List Told
  pub triples : found.triples ≡ triples_told told
  pub have_slots : HaveTheirSlots place (numbers_of_subjects (without_id place before) value) told
  pub differ : HaveOwnFresh told
