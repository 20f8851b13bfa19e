-- `@id` is read wherever it stands among the members of a subject: no other member looks at the subject's slot.
use Rattle.std.proofs.Common.{◌≡◌, ◌∙◌, ℕ, List, Bool, true, false, cond, Option, Some, None, Result, Ok, Err, Ordering, Less, Equal, Greater, nat_cmp, is_eq, true≢false, refl, sym, ap}
use Rattle.std.specs.Prelude.{codes}
use Rattle.std.specs.Cmp.Lexicographic.{slice_cmp}
use Rattle.std.specs.Option.{is_some}
use Rattle.std.specs.Ordering.{match_ordering}
use Rattle.std.proofs.lemmas.Bool.{both_ways}
use Rattle.std.proofs.lemmas.Map.Text.{is_eq-slice_cmp}
use Rattle.jrql_ast.specs.declared.patterns.Slot.{Slot}
use Rattle.rdf_terms.specs.Literal.{is_same}
use Rattle.serde_json.specs.Data.{Data, null, boolean, number, string, array, object, Items, no_items, item, Members, no_members, member, put}
use Rattle.serde_json.specs.Find.{get_member}
use Rattle.serde_json.proofs.Views.{get_member-put, get_member-put_other}
use Rattle.jsonld_context.specs.Context.{ContextValue, type_of}
use Rattle.jsonld_context.specs.ContextReading.{is_id_key, is_type_key}
use Rattle.jsonld_context.specs.Expanding.{expand_key}
use Rattle.jsonld_context.specs.Texts.{begins_as_keyword}
use Rattle.jsonld_context.specs.declared.definitions.TermType.{TermType}
use Rattle.jsonld_context.specs.declared.faults.JsonFault.{JsonFault}
use Rattle.jsonld_context.specs.declared.faults.JsonFault.TheVariants as faults
use Rattle.jsonld_context.proofs.TextLaws.{same}
use Rattle.jsonld_values.specs.Literals.{followed_by, made_of, iri_slot, string_object, number_object}
use Rattle.jsonld_values.specs.ValueObjects.{has_member, is_value_object, value_object}
use Rattle.jsonld_values.specs.VariableNames.{NamesValue}
use Rattle.jsonld_subjects.specs.SubjectReading.{OpenSubject, rdf_type, with_object, with_names, slot_of, property_of, object_met, read_id, read_type, read_each_type, read_types, entered, linked, linked_to, ended, member_by, read_single, read_each, read_values, read_members}
use Rattle.jsonld_subjects.specs.declared.places.Place.{Place}

abbrev Reading : Type 0
Reading = Result OpenSubject JsonFault

-- what holds of the keys of members
abbrev pub AllKeys : (List ℕ → Type 0) → Members → Type 0
AllKeys P no_members = Unit {0}
AllKeys P (member key value rest) = P key × AllKeys P rest

-- neither `@id` nor `@context`
pub record IsMemberKey (key : List ℕ) : Type 0 where
  pub no_id : is_same key (codes "@id") ≡ false
  pub no_context : is_same key (codes "@context") ≡ false

-- ---- nothing else looks at the slot

module _ (slot : Option Slot) where
  -- a subject with the slot
  abbrev pub slotted : OpenSubject → OpenSubject
  slotted so_far = record so_far { slot = slot }

  made_slotted : {X : Type 0} (made : Result X JsonFault) (make other : X → OpenSubject) → ((x : X) → make x ≡ slotted (other x))
      → made_of made make ≡ made_of (made_of made other) slotted
  made_slotted (Ok x) make other are = ap Ok (are x)
  made_slotted (Err fault) make other are = refl

  followed_slotted : {X : Type 0} (made : Result X JsonFault) (next other : X → Reading) → ((x : X) → next x ≡ made_of (other x) slotted)
      → followed_by made next ≡ made_of (followed_by made other) slotted
  followed_slotted (Ok x) next other are = are x
  followed_slotted (Err fault) next other are = refl

  slotted_then : (first before : Reading) (next : OpenSubject → Reading) → first ≡ made_of before slotted
      → ((so_far : OpenSubject) → next (slotted so_far) ≡ made_of (next so_far) slotted) → followed_by first next ≡ made_of (followed_by before next) slotted
  slotted_then first (Ok so_far) next is goes = ap (λ r. followed_by r next) is ∙ goes so_far
  slotted_then first (Err fault) next is goes = ap (λ r. followed_by r next) is

  module _ (context : ContextValue) where
    type_slotted : (value : Data) (so_far : OpenSubject) → read_type context value (slotted so_far) ≡ made_of (read_type context value so_far) slotted
    type_slotted null so_far = refl
    type_slotted (boolean b) so_far = refl
    type_slotted (number n) so_far = refl
    type_slotted (string text) so_far =
        made_slotted (slot_of so_far.found.names text (made_of (expand_key context text) iri_slot)) (object_met (slotted so_far) (iri_slot rdf_type))
        (object_met so_far (iri_slot rdf_type)) (λ met. refl)
    type_slotted (array items) so_far = refl
    type_slotted (object parts) so_far = refl

    each_type_slotted : (items : Items) (so_far : OpenSubject) → read_each_type context items (slotted so_far) ≡ made_of (read_each_type context items so_far) slotted
    each_type_slotted no_items so_far = refl
    each_type_slotted (item value rest) so_far =
        slotted_then (read_type context value (slotted so_far)) (read_type context value so_far) (read_each_type context rest) (type_slotted value so_far)
        (each_type_slotted rest)

    types_slotted : (value : Data) (so_far : OpenSubject) → read_types context value (slotted so_far) ≡ made_of (read_types context value so_far) slotted
    types_slotted null so_far = refl
    types_slotted (boolean b) so_far = refl
    types_slotted (number n) so_far = refl
    types_slotted (string text) so_far = type_slotted (string text) so_far
    types_slotted (array items) so_far = each_type_slotted items so_far
    types_slotted (object parts) so_far = refl

    linked_to_slotted : (property : Slot) (subject : Option Slot) (outer : OpenSubject) → linked_to property subject (slotted outer) ≡ slotted (linked_to property subject outer)
    linked_to_slotted property None outer = refl
    linked_to_slotted property (Some subject) outer = refl

    module _ (place : Place) (key : List ℕ) (kind : Option TermType) (property : Slot) where
      object_at : (value : Bool) (parts : Members) (so_far : OpenSubject)
          → cond value (made_of (value_object context parts) (with_object (slotted so_far) property))
          (made_of (followed_by (entered place parts so_far.found) (read_members context place parts)) (linked (slotted so_far) property))
          ≡ made_of (cond value (made_of (value_object context parts) (with_object so_far property))
          (made_of (followed_by (entered place parts so_far.found) (read_members context place parts)) (linked so_far property))) slotted
      object_at true parts so_far = made_slotted (value_object context parts) (with_object (slotted so_far) property) (with_object so_far property) (λ x. refl)
      object_at false parts so_far =
          made_slotted (followed_by (entered place parts so_far.found) (read_members context place parts)) (linked (slotted so_far) property) (linked so_far property)
          (λ inner. linked_to_slotted property inner.slot (record so_far { found = ended inner }))

      single_slotted : (value : Data) (so_far : OpenSubject)
          → read_single context place key kind property value (slotted so_far) ≡ made_of (read_single context place key kind property value so_far) slotted
      single_slotted null so_far = refl
      single_slotted (boolean b) so_far = refl
      single_slotted (number n) so_far =
          made_slotted (number_object key kind n) (with_object (slotted so_far) property) (with_object so_far property) (λ x. refl)
      single_slotted (string text) so_far =
          made_slotted (slot_of so_far.found.names text (string_object context key kind text)) (object_met (slotted so_far) property)
          (object_met so_far property) (λ met. refl)
      single_slotted (array items) so_far = refl
      single_slotted (object parts) so_far = object_at (is_value_object parts) parts so_far

      each_slotted : (items : Items) (so_far : OpenSubject)
          → read_each context place key kind property items (slotted so_far) ≡ made_of (read_each context place key kind property items so_far) slotted
      each_slotted no_items so_far = refl
      each_slotted (item value rest) so_far =
          slotted_then (read_single context place key kind property value (slotted so_far)) (read_single context place key kind property value so_far)
          (read_each context place key kind property rest) (single_slotted value so_far) (each_slotted rest)

      values_slotted : (value : Data) (so_far : OpenSubject)
          → read_values context place key value kind property (slotted so_far) ≡ made_of (read_values context place key value kind property so_far) slotted
      values_slotted null so_far = refl
      values_slotted (boolean b) so_far = refl
      values_slotted (number n) so_far = single_slotted (number n) so_far
      values_slotted (string text) so_far = single_slotted (string text) so_far
      values_slotted (array items) so_far = each_slotted items so_far
      values_slotted (object parts) so_far = single_slotted (object parts) so_far

    module _ (place : Place) where
      property_slotted : (key : List ℕ) (value : Data) (so_far : OpenSubject) (kind : Option TermType) (met : NamesValue × Slot)
          → read_values context place key value kind met.1 (with_names (slotted so_far) met.0)
          ≡ made_of (read_values context place key value kind met.1 (with_names so_far met.0)) slotted
      property_slotted key value so_far kind met = values_slotted place key kind met.1 value (with_names so_far met.0)

      member_at : (id type keyword : Bool) (key : List ℕ) (value : Data) (so_far : OpenSubject) (kind : Option TermType) → id ≡ false
          → cond id (read_id context value (slotted so_far)) (cond type (read_types context value (slotted so_far)) (cond keyword (Err (faults.Unsupported key))
          (followed_by (property_of context key so_far.found.names) (λ met. read_values context place key value kind met.1 (with_names (slotted so_far) met.0)))))
          ≡ made_of (cond id (read_id context value so_far) (cond type (read_types context value so_far) (cond keyword (Err (faults.Unsupported key))
          (followed_by (property_of context key so_far.found.names) (λ met. read_values context place key value kind met.1 (with_names so_far met.0)))))) slotted
      member_at true type keyword key value so_far kind h = absurd (true≢false h)
      member_at false true keyword key value so_far kind h = types_slotted value so_far
      member_at false false true key value so_far kind h = refl
      member_at false false false key value so_far kind h =
          followed_slotted (property_of context key so_far.found.names) (λ met. read_values context place key value kind met.1 (with_names (slotted so_far) met.0))
          (λ met. read_values context place key value kind met.1 (with_names so_far met.0)) (property_slotted key value so_far kind)

      member_slotted : (key : List ℕ) (value : Data) (so_far : OpenSubject) → is_id_key key ≡ false
          → member_by context key value (slotted so_far) (read_values context place key value)
          ≡ made_of (member_by context key value so_far (read_values context place key value)) slotted
      member_slotted key value so_far h = member_at (is_id_key key) (is_type_key key) (begins_as_keyword key) key value so_far (type_of context.terms key) h

      members_slotted : (members : Members) (so_far : OpenSubject) → AllKeys IsMemberKey members
          → read_members context place members (slotted so_far) ≡ made_of (read_members context place members so_far) slotted
      members_slotted no_members so_far all = refl
      members_slotted (member key value rest) so_far all =
          slotted_then (member_by context key value (slotted so_far) (read_values context place key value))
          (member_by context key value so_far (read_values context place key value)) (read_members context place rest)
          (member_slotted key value so_far all.0.no_id) (λ s. members_slotted rest s all.1)

      -- ---- `@id` among the members

      put_at : (order : Ordering) (key : List ℕ) (id value : Data) (rest : Members) (so_far : OpenSubject) → slice_cmp nat_cmp (codes "@id") key ≡ order
          → ((s : OpenSubject) → read_id context id s ≡ Ok (slotted s)) → AllKeys IsMemberKey (member key value rest)
          → ((s : OpenSubject) → read_members context place (put (codes "@id") id rest) s ≡ made_of (read_members context place rest s) slotted)
          → read_members context place
          (match_ordering order (member (codes "@id") id (member key value rest)) (member key id rest) (member key value (put (codes "@id") id rest))) so_far
          ≡ made_of (read_members context place (member key value rest) so_far) slotted
      put_at Less key id value rest so_far is reads all later =
          ap (λ r. followed_by r (read_members context place (member key value rest))) (reads so_far) ∙ members_slotted (member key value rest) so_far all
      put_at Equal key id value rest so_far is reads all later =
          let alike : is_same (codes "@id") key ≡ true = sym (is_eq-slice_cmp (codes "@id") key) ∙ ap is_eq is in
          let equal : codes "@id" ≡ key = same (codes "@id") key alike in
          absurd (both_ways (is_id_key key) all.0.no_id (ap is_id_key (sym equal)))
      put_at Greater key id value rest so_far is reads all later =
          followed_slotted (member_by context key value so_far (read_values context place key value)) (read_members context place (put (codes "@id") id rest))
          (read_members context place rest) later

      pub put_read : (members : Members) (id : Data) (so_far : OpenSubject) → ((s : OpenSubject) → read_id context id s ≡ Ok (slotted s))
          → AllKeys IsMemberKey members → read_members context place (put (codes "@id") id members) so_far ≡ made_of (read_members context place members so_far) slotted
      put_read no_members id so_far reads all = ap (λ r. followed_by r (read_members context place no_members)) (reads so_far)
      put_read (member key value rest) id so_far reads all =
          put_at (slice_cmp nat_cmp (codes "@id") key) key id value rest so_far refl reads all (λ s. put_read rest id s reads all.1)

-- ---- what members there are

none_at : (order : Ordering) (value : Data) (rest : Option Data) → is_eq order ≡ false → rest ≡ None → match_ordering order rest (Some value) rest ≡ None
none_at Less value rest h none = none
none_at Equal value rest h none = absurd (true≢false h)
none_at Greater value rest h none = none

no_context_at : (key : List ℕ) → is_same key (codes "@context") ≡ false → is_eq (slice_cmp nat_cmp (codes "@context") key) ≡ false
no_context_at key h = is_eq-slice_cmp (codes "@context") key ∙ differs (is_same (codes "@context") key) refl
  where
    differs : (alike : Bool) → is_same (codes "@context") key ≡ alike → alike ≡ false
    differs true is = absurd (both_ways (is_same key (codes "@context")) h (ap (λ k. is_same k (codes "@context")) (sym (same (codes "@context") key is))))
    differs false is = refl

no_context : (members : Members) → AllKeys IsMemberKey members → get_member (codes "@context") members ≡ None
no_context no_members all = refl
no_context (member key value rest) all =
    none_at (slice_cmp nat_cmp (codes "@context") key) value (get_member (codes "@context") rest) (no_context_at key all.0.no_context) (no_context rest all.1)

-- `@context` is no member, with `@id` put among them
pub put_no_context : (members : Members) (id : Data) → AllKeys IsMemberKey members → has_member (codes "@context") (put (codes "@id") id members) ≡ false
put_no_context members id all =
    ap is_some (get_member-put_other (codes "@context") (codes "@id") id members (λ h. true≢false (ap (is_same (codes "@context")) h)) ∙ no_context members all)

-- `@id` is
pub put_has_id : (members : Members) (id : Data) → has_member (codes "@id") (put (codes "@id") id members) ≡ true
put_has_id members id = ap is_some (get_member-put (codes "@id") id members)
