-- A value that may stand alone is read as a value of any key without a type is.
use Rattle.std.proofs.Common.{◌≡◌, ℕ, List, [], Bool, true, false, ◌||◌, nat_le, length, if◌then◌else◌, None, Result, Ok, Err, ◌∙◌, refl, ap}
use Rattle.jrql_ast.specs.declared.patterns.Slot.{Slot}
use Rattle.rdf_terms.specs.Literal.{Typed, lexical_limit, xsd_string}
use Rattle.serde_json.specs.Data.{Data, null, boolean, number, string, array, object, Num, unsigned, negative, float, Members}
use Rattle.jsonld_context.specs.Context.{ContextValue}
use Rattle.jsonld_context.specs.Texts.{is_variable}
use Rattle.jsonld_context.specs.declared.faults.JsonFault.{JsonFault}
use Rattle.jsonld_context.specs.declared.faults.JsonFault.TheVariants as faults
use Rattle.jsonld_values.specs.Literals.{followed_by, made_of, literal_slot, string_object, number_object}
use Rattle.jsonld_values.specs.ValueObjects.{is_value_object, value_object}
use Rattle.jsonld_values.specs.VariableNames.{NamesValue, meet_variable}
use Rattle.jsonld_values.proofs.KnownTypes.{integer_apart}
use Rattle.jsonld_subjects.specs.ObjectReading.{stands_alone, object_of, object_with, subject_of, object_alone, put_object}
use Rattle.jsonld_subjects.specs.SubjectReading.{OpenSubject, with_object, slot_of, object_met, entered, linked, read_members, read_values}
use Rattle.jsonld_subjects.specs.declared.places.Place.{Place}

-- what is made of what was made
made_again : {X Y Z : Type 0} (read : Result X JsonFault) (first : X → Y) (second : Y → Z) → made_of read (λ x. second (first x)) ≡ made_of (made_of read first) second
made_again (Ok x) first second = refl
made_again (Err fault) first second = refl

-- a number has no fault of its key, as xsd:integer is not xsd:double
whole_any : (key text datatype : List ℕ) (double : Bool) → double ≡ false
    → ◌≡◌ {A = Result Slot JsonFault} (if double then Err (faults.Unsupported key) else Ok (literal_slot (Typed text datatype)))
    (if double then Err (faults.Unsupported []) else Ok (literal_slot (Typed text datatype)))
whole_any key text datatype true h = cc
whole_any key text datatype false h = refl

number_any : (key : List ℕ) (value : Num) → number_object key None value ≡ number_object [] None value
number_any key (unsigned value) = whole_any key _ _ _ integer_apart
number_any key (negative value) = whole_any key _ _ _ integer_apart
number_any key (float value) = refl

-- so has a string that isn't too long, or is a variable
short_any : (key text : List ℕ) (short : Bool) → short ≡ true
    → ◌≡◌ {A = Result Slot JsonFault} (if short then Ok (literal_slot (Typed text xsd_string)) else Err (faults.BadSubject key))
    (if short then Ok (literal_slot (Typed text xsd_string)) else Err (faults.BadSubject []))
short_any key text true h = refl
short_any key text false h = cc

string_any : (names : NamesValue) (key text : List ℕ) (form short : Bool) → (form || short) ≡ true
    → ◌≡◌ {A = Result (NamesValue × Slot) JsonFault}
    (if form then meet_variable names text
    else made_of (if short then Ok (literal_slot (Typed text xsd_string)) else Err (faults.BadSubject key)) (λ slot. (names, slot)))
    (if form then meet_variable names text
    else made_of (if short then Ok (literal_slot (Typed text xsd_string)) else Err (faults.BadSubject [])) (λ slot. (names, slot)))
string_any names key text true short h = refl
string_any names key text false short h = ap (λ read. made_of read (λ slot. (names, slot))) (short_any key text short h)

module _ (context : ContextValue) (place : Place) (key : List ℕ) (property : Slot) (so_far : OpenSubject) where
  object_any : (members : Members) (value : Bool)
      → (if value then made_of (value_object context members) (with_object so_far property)
      else made_of (followed_by (entered place members so_far.found) (read_members context place members)) (linked so_far property))
      ≡ made_of (if value then made_of (value_object context members) (object_of so_far.found)
      else made_of (followed_by (entered place members so_far.found) (read_members context place members)) subject_of) (put_object so_far property)
  object_any members true = made_again (value_object context members) (object_of so_far.found) (put_object so_far property)
  object_any members false =
      made_again (followed_by (entered place members so_far.found) (read_members context place members)) subject_of (put_object so_far property)

  alone_is_value : (value : Data) → stands_alone value ≡ true
      → read_values context place key value None property so_far ≡ made_of (object_alone context place value so_far.found) (put_object so_far property)
  alone_is_value null h = refl
  alone_is_value (boolean value) h = refl
  alone_is_value (number value) h =
      ap (λ read. made_of read (with_object so_far property)) (number_any key value)
      ∙ made_again (number_object [] None value) (object_of so_far.found) (put_object so_far property)
  alone_is_value (string text) h =
      ap (λ read. made_of read (object_met so_far property)) (string_any so_far.found.names key text (is_variable text) (nat_le (length text) lexical_limit) h)
      ∙ made_again (slot_of so_far.found.names text (string_object context [] None text)) (object_with so_far.found) (put_object so_far property)
  alone_is_value (array items) h = absurd (no_array h)
    where
      no_array : false ≡ true → ⊥
      no_array e = cc
  alone_is_value (object members) h = object_any members (is_value_object members)

pub any_key_alone : (context : ContextValue) (place : Place) (key : List ℕ) (property : Slot) (value : Data) (so_far : OpenSubject) → stands_alone value ≡ true
    → read_values context place key value None property so_far ≡ made_of (object_alone context place value so_far.found) (put_object so_far property)
any_key_alone context place key property value so_far h = alone_is_value context place key property so_far value h
