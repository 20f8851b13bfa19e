-- A subject that was written is read as its triples.
use Rattle.std.proofs.Common.{◌≡◌, ◌∙◌, ℕ, List, [], ◌∷◌, map, IsPermutation, Bool, true, false, cond, Option, Some, None, Ok, slice_index_or, refl, sym, ap, ap₂, subst}
use Rattle.std.specs.Prelude.{codes}
use Rattle.std.specs.List.{All, AllByRecursion}
use Rattle.std.proofs.lemmas.List.Elements.{All-map, recursion_from_All}
use Rattle.std.proofs.lemmas.List.Sorted.{All-permutation, IsPermutation-map}
use Rattle.jrql_ast.specs.declared.answers.Described.{Described}
use Rattle.jrql_ast.specs.declared.patterns.PatternTriple.{PatternTriple}
use Rattle.jrql_ast.specs.declared.patterns.Slot.{Slot}
use Rattle.jrql_ast.specs.declared.patterns.Slot.TheVariants as slots
use Rattle.rdf_terms.specs.Literal.{is_same}
use Rattle.rdf_terms.specs.declared.terms.Term.{Term}
use Rattle.rdf_terms.specs.declared.terms.Term.TheVariants as terms
use Rattle.rdf_terms.specs.declared.terms.Triple.{Triple}
use Rattle.serde_json.specs.Data.{Data, string, object, Members, no_members, member, put}
use Rattle.jsonld_context.specs.Context.{ContextValue, IsContext}
use Rattle.jsonld_context.specs.ShortForms.{compact_key, compact_id}
use Rattle.jsonld_context.proofs.TextLaws.{same}
use Rattle.jsonld_values.specs.Literals.{followed_by, made_of, iri_slot}
use Rattle.jsonld_values.specs.ValueObjects.{has_member}
use Rattle.jsonld_values.specs.VariableNames.{NamesValue}
use Rattle.jsonld_subjects.specs.GivingBack.{IsGivenBack, IsTermGivenBack, IsTripleGivenBack, pattern_of, GivesBack}
use Rattle.jsonld_subjects.specs.SubjectReading.{OpenSubject, rdf_type, read_id, read_members, entered, ended, subjects_read}
use Rattle.jsonld_subjects.specs.SubjectWriting.{KeyedTerm, key_of, keyed_of, data_under, with_value, with_keyed, members_of_keyed, SaysSubject}
use Rattle.jsonld_subjects.specs.declared.places.Place.{Place}
use Rattle.jsonld_subjects.proofs.ShortKeys.{IsIdOf, other_than, compact_is_key, compact_is_id}
use Rattle.jsonld_subjects.proofs.KeyedMembers.{IsKeyed, property_under, under_meant, property_keyed, type_keyed, object_of, members_read}
use Rattle.jsonld_subjects.proofs.IdMembers.{AllKeys, IsMemberKey, slotted, put_read, put_no_context, put_has_id}

module _ (context : ContextValue) (place : Place) where
  -- a value that is read as a term of its property, under a key that may stand beside `@id`
  record IsWritten (keyed : KeyedTerm) : Type 0 where
    keyed_term : IsKeyed context place keyed
    key : IsMemberKey keyed.key

  -- ---- the values of triples

  property_written : (property : List ℕ) (term : Term) → IsContext context → IsGivenBack context property → IsTermGivenBack context term
      → IsWritten (record { key = compact_key context property; term = term })
  property_written property term kept back good =
      let is = compact_is_key context property kept back in
      record {
        keyed_term = property_keyed context place (compact_key context property) property term kept is good;
        key = record {
          no_id = other_than (compact_key context property) (codes "id") is.bare.keyword;
          no_context = other_than (compact_key context property) (codes "context") is.bare.keyword;
        };
      }

  iri_written : (type : Bool) (property iri : List ℕ) → IsContext context → IsGivenBack context property → IsGivenBack context iri
      → IsWritten (record { key = cond type (codes "@type") (compact_key context property); term = terms.Iri iri })
  iri_written true property iri kept back good =
      record { keyed_term = type_keyed context place iri kept good; key = record { no_id = refl; no_context = refl } }
  iri_written false property iri kept back good = property_written property (terms.Iri iri) kept back good

  term_written : (property : List ℕ) (term : Term) → IsContext context → IsGivenBack context property → IsTermGivenBack context term
      → IsWritten (record { key = key_of context property term; term = term })
  term_written property (terms.Iri iri) kept back good = iri_written (is_same property rdf_type) property iri kept back good
  term_written property (terms.Literal literal) kept back good = property_written property (terms.Literal literal) kept back good

  -- the key of a value stands for its triple's property
  iri_property : (type : Bool) (property : List ℕ) → (type ≡ true → property ≡ rdf_type) → IsContext context → IsGivenBack context property
      → property_under context (cond type (codes "@type") (compact_key context property)) ≡ property
  iri_property true property is kept back = sym (is refl)
  iri_property false property is kept back = under_meant context (compact_key context property) property (compact_is_key context property kept back)

  term_property : (property : List ℕ) (term : Term) → IsContext context → IsGivenBack context property → property_under context (key_of context property term) ≡ property
  term_property property (terms.Iri iri) kept back = iri_property (is_same property rdf_type) property (same property rdf_type) kept back
  term_property property (terms.Literal literal) kept back =
      under_meant context (compact_key context property) property (compact_is_key context property kept back)

  -- ---- members

  with_keys : (same_key : Bool) (keyed : KeyedTerm) (key : List ℕ) (value more alone : Data) (rest : Members) → IsMemberKey keyed.key
      → AllKeys IsMemberKey (member key value rest) → AllKeys IsMemberKey (cond same_key (member key more rest) (member keyed.key alone (member key value rest)))
  with_keys true keyed key value more alone rest is all = all
  with_keys false keyed key value more alone rest is all = (is, all)

  keyed_keys : (keyed : KeyedTerm) (members : Members) → IsMemberKey keyed.key → AllKeys IsMemberKey members → AllKeys IsMemberKey (with_keyed context keyed members)
  keyed_keys keyed no_members is all = (is, tt)
  keyed_keys keyed (member key value rest) is all =
      with_keys (is_same keyed.key key) keyed key value (with_value (data_under context keyed.key keyed.term) value) (data_under context keyed.key keyed.term) rest is all

  written_keys : (values : List KeyedTerm) → AllByRecursion IsWritten values → AllKeys IsMemberKey (members_of_keyed context values)
  written_keys [] all = tt
  written_keys (keyed ∷ values) all = keyed_keys keyed (members_of_keyed context values) all.0.key (written_keys values all.1)

  written_terms : (values : List KeyedTerm) → AllByRecursion IsWritten values → AllByRecursion (IsKeyed context place) values
  written_terms [] all = tt
  written_terms (keyed ∷ values) all = (all.0.keyed_term, written_terms values all.1)

  -- ---- the whole

  abbrev begun_with : NamesValue → OpenSubject
  begun_with names = record { found = record { names = names; triples = [] }; slot = None; properties = [] }

  enters : (names : NamesValue) (parts : Members) → has_member (codes "@id") parts ≡ true → has_member (codes "@context") parts ≡ false
      → entered place parts (record { names = names; triples = [] }) ≡ Ok (begun_with names)
  enters names parts id other = rw (id, other)

  whole : (names : NamesValue) (members : Members) (end : OpenSubject) → has_member (codes "@id") members ≡ true → has_member (codes "@context") members ≡ false
      → read_members context place members (begun_with names) ≡ Ok end → subjects_read context place names (object members) ≡ Ok (ended end)
  unfolding subjects_read
  whole names members end id other reads =
      ap (λ r. made_of (followed_by r (read_members context place members)) ended) (enters names members id other) ∙ ap (λ r. made_of r ended) reads

  id_read : (iri text : List ℕ) → IsIdOf context iri text → (so_far : OpenSubject) → read_id context (string text) so_far ≡ Ok (slotted (Some (iri_slot iri)) so_far)
  id_read iri text is so_far = rw (is.bare.variable, is.expands)

  module _ (id : List ℕ) where
    -- a value of the subject as a pattern
    abbrev pattern_keyed : KeyedTerm → PatternTriple
    pattern_keyed keyed = record { s = iri_slot id; p = iri_slot (property_under context keyed.key); o = slots.Term keyed.term }

    abbrev about : Slot × Slot → PatternTriple
    about property = record { s = iri_slot id; p = property.0; o = property.1 }

    patterns_about : (values : List KeyedTerm) → map pattern_keyed values ≡ map about (map (object_of context) values)
    patterns_about [] = refl
    patterns_about (keyed ∷ values) = ap (λ rest. pattern_keyed keyed ∷ rest) (patterns_about values)

    pattern_same : (triple : Triple) → IsContext context → IsTripleGivenBack context id triple → pattern_keyed (keyed_of context triple) ≡ pattern_of triple
    pattern_same triple kept back =
        let subject : id ≡ triple.s = sym back.subject in
        let property : property_under context (key_of context triple.p triple.o) ≡ triple.p = term_property triple.p triple.o kept back.property in
        λ i. record { s = iri_slot (subject i); p = iri_slot (property i); o = slots.Term triple.o }

    patterns_same : (triples : List Triple) → IsContext context → AllByRecursion (IsTripleGivenBack context id) triples
        → map pattern_keyed (map (keyed_of context) triples) ≡ map pattern_of triples
    patterns_same [] kept all = refl
    patterns_same (triple ∷ triples) kept all = ap₂ (λ first rest. first ∷ rest) (pattern_same triple kept all.0) (patterns_same triples kept all.1)

    all_written : (triples : List Triple) → IsContext context → All (IsTripleGivenBack context id) triples → All IsWritten (map (keyed_of context) triples)
    all_written triples kept all =
        All-map IsWritten (keyed_of context) triples
        (λ k d below. let back = all k d below in term_written (slice_index_or triples k d).p (slice_index_or triples k d).o kept back.property back.value)

    values_read : (names : NamesValue) (values : List KeyedTerm) → IsContext context → IsGivenBack context id → AllByRecursion IsWritten values
        → subjects_read context place names (object (put (codes "@id") (string (compact_id context id)) (members_of_keyed context values)))
        ≡ Ok (record { names = names; triples = map about (map (object_of context) values) })
    values_read names values kept back all =
        let members = members_of_keyed context values in
        let text : Data = string (compact_id context id) in
        let keys = written_keys values all in
        let slot : Option Slot = Some (iri_slot id) in
        let end : OpenSubject = record { found = record { names = names; triples = [] }; slot = slot; properties = map (object_of context) values } in
        whole names (put (codes "@id") text members) end (put_has_id members text) (put_no_context members text keys)
        (put_read slot context place members text (begun_with names) (id_read id (compact_id context id) (compact_is_id context id kept back)) keys
        ∙ ap (λ r. made_of r (slotted slot)) (members_read context place values (begun_with names) (written_terms values all)))

    permuted : (triples : List Triple) (values : List KeyedTerm) → IsContext context → All (IsTripleGivenBack context id) triples
        → IsPermutation (map (keyed_of context) triples) values
        → IsPermutation {X = PatternTriple} (map pattern_of triples) (map about (map (object_of context) values))
    permuted triples values kept all moved =
        subst (λ (patterns : List PatternTriple). IsPermutation {X = PatternTriple} patterns (map about (map (object_of context) values)))
        (patterns_same triples kept (recursion_from_All (IsTripleGivenBack context id) triples all))
        (subst (λ (patterns : List PatternTriple). IsPermutation {X = PatternTriple} (map pattern_keyed (map (keyed_of context) triples)) patterns) (patterns_about values)
        (IsPermutation-map pattern_keyed (map (keyed_of context) triples) values moved))

pub given_back : (context : ContextValue) (place : Place) (names : NamesValue) (described : Described) (written : Data) → IsContext context
    → IsGivenBack context described.id → All (IsTripleGivenBack context described.id) described.triples → SaysSubject context described written
    → GivesBack context place names described written
given_back context place names described written kept back all says =
    let all_values = recursion_from_All (IsWritten context place) says.values
    (All-permutation (IsWritten context place) (map (keyed_of context) described.triples) says.values says.all (all_written context place described.id described.triples kept all)) in (
      record { names = names; triples = map (about context place described.id) (map (object_of context) says.values) },
      ap (subjects_read context place names) says.says ∙ values_read context place described.id names says.values kept back all_values,
      refl,
      permuted context place described.id described.triples says.values kept all says.all,
    )
