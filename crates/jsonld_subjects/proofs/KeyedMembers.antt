-- The members of values in order are read as those values.
use Rattle.std.proofs.Common.{◌≡◌, ◌∙◌, ℕ, List, [], ◌∷◌, ◌++◌, append_assoc, append-nil, map, Bool, true, false, cond, Option, None, Result, Ok, Err, refl, sym, ap, subst}
use Rattle.std.specs.Prelude.{codes}
use Rattle.std.specs.List.{AllByRecursion}
use Rattle.jrql_ast.specs.declared.patterns.Slot.{Slot}
use Rattle.jrql_ast.specs.declared.patterns.Slot.TheVariants as slots
use Rattle.rdf_terms.specs.Literal.{is_same}
use Rattle.rdf_terms.specs.declared.terms.Term.{Term}
use Rattle.rdf_terms.specs.declared.terms.Term.TheVariants as terms
use Rattle.serde_json.specs.Data.{Data, null, boolean, number, string, array, object, no_items, item, Members, no_members, member}
use Rattle.jsonld_context.specs.Context.{ContextValue, IsContext}
use Rattle.jsonld_context.specs.Expanding.{key_meant}
use Rattle.jsonld_context.specs.ShortForms.{compact_key}
use Rattle.jsonld_context.specs.Texts.{begins_as_keyword}
use Rattle.jsonld_context.specs.declared.definitions.TermType.{TermType}
use Rattle.jsonld_context.specs.declared.faults.JsonFault.{JsonFault}
use Rattle.jsonld_context.proofs.TextLaws.{same}
use Rattle.jsonld_values.specs.Literals.{followed_by, iri_slot}
use Rattle.jsonld_values.specs.TermWriting.{term_data}
use Rattle.jsonld_subjects.specs.GivingBack.{IsGivenBack, IsTermGivenBack}
use Rattle.jsonld_subjects.specs.SubjectReading.{OpenSubject, rdf_type, with_object, read_type, read_each_type, read_types, read_single, read_each, read_values, member_by, read_members}
use Rattle.jsonld_subjects.specs.SubjectWriting.{KeyedTerm, data_under, with_value, with_keyed, members_of_keyed}
use Rattle.jsonld_subjects.specs.declared.places.Place.{Place}
use Rattle.jsonld_subjects.proofs.ShortKeys.{IsKeyOf, other_than, compact_is_key}
use Rattle.jsonld_subjects.proofs.WrittenTerms.{ReadsAs, term_reads}

abbrev Reading : Type 0
Reading = Result OpenSubject JsonFault

followed_same : (first : Reading) (next other : OpenSubject → Reading) → ((so_far : OpenSubject) → next so_far ≡ other so_far)
    → followed_by first next ≡ followed_by first other
followed_same (Ok so_far) next other are = are so_far
followed_same (Err fault) next other are = refl

then_nothing : (first : Reading) → followed_by first Ok ≡ first
then_nothing (Ok so_far) = refl
then_nothing (Err fault) = refl

-- ---- a value in front of others

module _ (context : ContextValue) where
  last_type : (first last : Data) (so_far : OpenSubject)
      → read_each_type context (item first (item last no_items)) so_far ≡ followed_by (read_type context first so_far) (read_type context last)
  last_type first last so_far = followed_same (read_type context first so_far) _ _ (λ s. then_nothing (read_type context last s))

  types_in_front : (first value : Data) (so_far : OpenSubject)
      → read_types context (with_value first value) so_far ≡ followed_by (read_type context first so_far) (read_types context value)
  types_in_front first null so_far = last_type first null so_far
  types_in_front first (boolean b) so_far = last_type first (boolean b) so_far
  types_in_front first (number n) so_far = last_type first (number n) so_far
  types_in_front first (string text) so_far = last_type first (string text) so_far
  types_in_front first (array items) so_far = refl
  types_in_front first (object parts) so_far = last_type first (object parts) so_far

  module _ (place : Place) (key : List ℕ) (property : Slot) where
    last_value : (first last : Data) (so_far : OpenSubject) → read_each context place key None property (item first (item last no_items)) so_far
        ≡ followed_by (read_single context place key None property first so_far) (read_single context place key None property last)
    last_value first last so_far =
        followed_same (read_single context place key None property first so_far) _ _ (λ s. then_nothing (read_single context place key None property last s))

    values_in_front : (first value : Data) (so_far : OpenSubject) → read_values context place key (with_value first value) None property so_far
        ≡ followed_by (read_single context place key None property first so_far) (read_values context place key value None property)
    values_in_front first null so_far = last_value first null so_far
    values_in_front first (boolean b) so_far = last_value first (boolean b) so_far
    values_in_front first (number n) so_far = last_value first (number n) so_far
    values_in_front first (string text) so_far = last_value first (string text) so_far
    values_in_front first (array items) so_far = refl
    values_in_front first (object parts) so_far = last_value first (object parts) so_far

    -- what is read as one value is no array
    one_value : (value : Data) (so_far next : OpenSubject) → read_single context place key None property value so_far ≡ Ok next
        → read_values context place key value None property so_far ≡ Ok next
    one_value null so_far next h = h
    one_value (boolean b) so_far next h = h
    one_value (number n) so_far next h = h
    one_value (string text) so_far next h = h
    one_value (array items) so_far next h = cc h
    one_value (object parts) so_far next h = h

  -- ---- members

  -- what one more value adds
  abbrev added : List ℕ → Term → OpenSubject → OpenSubject
  added property term so_far = with_object so_far (iri_slot property) (slots.Term term)

  abbrev read_member : Place → List ℕ → Data → OpenSubject → Reading
  read_member place key value so_far = member_by context key value so_far (read_values context place key value)

  -- a value under a key is read as a term of a property, alone and in front of others
  pub record Joins (place : Place) (key : List ℕ) (value : Data) (property : List ℕ) (term : Term) : Type 0 where
    pub alone : (so_far : OpenSubject) → read_member place key value so_far ≡ Ok (added property term so_far)
    pub before : (more : Data) (so_far : OpenSubject) → read_member place key (with_value value more) so_far ≡ read_member place key more (added property term so_far)

  as_property : (key property : List ℕ) (value : Data) (so_far : OpenSubject) (reads : Option TermType → Slot → OpenSubject → Reading)
      → IsKeyOf context property key → member_by context key value so_far reads ≡ reads None (iri_slot property) so_far
  as_property key property value so_far reads is =
      rw (other_than key (codes "id") is.bare.keyword, other_than key (codes "type") is.bare.keyword, is.bare.keyword, is.bare.variable, is.expands, is.untyped)

  property_joins : (place : Place) (key property : List ℕ) (value : Data) (term : Term) → IsKeyOf context property key → ReadsAs context value term
      → Joins place key value property term
  property_joins place key property value term is reads = record {
    alone = λ so_far. as_property key property value so_far (read_values context place key value) is
        ∙ one_value place key (iri_slot property) value so_far (added property term so_far) (reads place key (iri_slot property) so_far);
    before = λ more so_far. as_property key property (with_value value more) so_far (read_values context place key (with_value value more)) is
        ∙ (values_in_front place key (iri_slot property) value more so_far
        ∙ (ap (λ r. followed_by r (read_values context place key more None (iri_slot property))) (reads place key (iri_slot property) so_far)
        ∙ sym (as_property key property more (added property term so_far) (read_values context place key more) is)));
  }

  one_type : (iri text : List ℕ) (so_far : OpenSubject) → IsKeyOf context iri text → read_type context (string text) so_far ≡ Ok (added rdf_type (terms.Iri iri) so_far)
  one_type iri text so_far is = rw (is.bare.variable, is.expands)

  type_joins : (place : Place) (iri text : List ℕ) → IsKeyOf context iri text → Joins place (codes "@type") (string text) rdf_type (terms.Iri iri)
  type_joins place iri text is = record {
    alone = λ so_far. one_type iri text so_far is;
    before = λ more so_far. types_in_front (string text) more so_far ∙ ap (λ r. followed_by r (read_types context more)) (one_type iri text so_far is);
  }

  -- ---- keyed terms

  -- the property of a key
  abbrev pub property_under : List ℕ → List ℕ
  property_under key = cond (is_same key (codes "@type")) rdf_type (key_meant context.vocabulary context.terms key)

  -- a keyed term is read as a term of the property of its key
  abbrev pub IsKeyed : Place → KeyedTerm → Type 0
  IsKeyed place keyed = Joins place keyed.key (data_under context keyed.key keyed.term) (property_under keyed.key) keyed.term

  under_key : (key : List ℕ) (term : Term) → begins_as_keyword key ≡ false → data_under context key term ≡ term_data context term
  under_key key (terms.Iri iri) bare = ap (λ b. cond b (string (compact_key context iri)) (term_data context (terms.Iri iri))) (other_than key (codes "type") bare)
  under_key key (terms.Literal literal) bare = refl

  pub under_meant : (key property : List ℕ) → IsKeyOf context property key → property_under key ≡ property
  under_meant key property is =
      ap (λ b. cond b rdf_type (key_meant context.vocabulary context.terms key)) (other_than key (codes "type") is.bare.keyword) ∙ is.meant

  pub property_keyed : (place : Place) (key property : List ℕ) (term : Term) → IsContext context → IsKeyOf context property key → IsTermGivenBack context term
      → IsKeyed place (record { key = key; term = term })
  property_keyed place key property term kept is back =
      subst (λ (value : Data). Joins place key value (property_under key) term) (sym (under_key key term is.bare.keyword))
      (subst (λ (p : List ℕ). Joins place key (term_data context term) p term) (sym (under_meant key property is))
      (property_joins place key property (term_data context term) term is (term_reads context term kept back)))

  pub type_keyed : (place : Place) (iri : List ℕ) → IsContext context → IsGivenBack context iri
      → IsKeyed place (record { key = codes "@type"; term = terms.Iri iri })
  type_keyed place iri kept back = type_joins place iri (compact_key context iri) (compact_is_key context iri kept back)

  -- ---- all members

  keyed_at : (place : Place) (same_key : Bool) (keyed : KeyedTerm) (key : List ℕ) (value : Data) (rest : Members) (so_far : OpenSubject)
      → (same_key ≡ true → keyed.key ≡ key) → IsKeyed place keyed
      → read_members context place
      (cond same_key (member key (with_value (data_under context keyed.key keyed.term) value) rest)
      (member keyed.key (data_under context keyed.key keyed.term) (member key value rest))) so_far
      ≡ read_members context place (member key value rest) (added (property_under keyed.key) keyed.term so_far)
  keyed_at place true keyed key value rest so_far is joins =
      subst (λ (k : List ℕ). read_members context place (member k (with_value (data_under context keyed.key keyed.term) value) rest) so_far
      ≡ read_members context place (member k value rest) (added (property_under keyed.key) keyed.term so_far)) (is refl)
      (ap (λ r. followed_by r (read_members context place rest)) (joins.before value so_far))
  keyed_at place false keyed key value rest so_far is joins =
      ap (λ r. followed_by r (read_members context place (member key value rest))) (joins.alone so_far)

  keyed_in_front : (place : Place) (keyed : KeyedTerm) (members : Members) (so_far : OpenSubject) → IsKeyed place keyed
      → read_members context place (with_keyed context keyed members) so_far ≡ read_members context place members (added (property_under keyed.key) keyed.term so_far)
  keyed_in_front place keyed no_members so_far joins = ap (λ r. followed_by r (read_members context place no_members)) (joins.alone so_far)
  keyed_in_front place keyed (member key value rest) so_far joins =
      keyed_at place (is_same keyed.key key) keyed key value rest so_far (same keyed.key key) joins

  -- a keyed term as a property with its object
  abbrev pub object_of : KeyedTerm → Slot × Slot
  object_of keyed = (iri_slot (property_under keyed.key), slots.Term keyed.term)

  pub members_read : (place : Place) (values : List KeyedTerm) (so_far : OpenSubject) → AllByRecursion (IsKeyed place) values
      → read_members context place (members_of_keyed context values) so_far ≡ Ok (record so_far { properties = so_far.properties ++ map object_of values })
  members_read place [] so_far all = ap (λ properties. Ok (record so_far { properties = properties })) (sym (append-nil so_far.properties))
  members_read place (keyed ∷ values) so_far all =
      keyed_in_front place keyed (members_of_keyed context values) so_far all.0
      ∙ (members_read place values (added (property_under keyed.key) keyed.term so_far) all.1
      ∙ ap (λ properties. Ok (record so_far { properties = properties })) (append_assoc so_far.properties (object_of keyed ∷ []) (map object_of values)))
