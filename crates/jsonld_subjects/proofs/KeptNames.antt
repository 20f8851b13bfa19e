-- What reading gives keeps to the names that were met.
use Rattle.std.proofs.Common.{◌≡◌, ◌∙◌, ℕ, ◌+◌, ◌≤◌, List, [], Bool, true, false, nat_lt, nat_le, length, Option, Some, None, IfSome, Result, Ok, Err, refl, sym, subst, if◌then◌else◌, inr, ltb-true, arith}
use Rattle.std.specs.Prelude.{codes}
use Rattle.std.specs.List.{All}
use Rattle.std.proofs.lemmas.List.{append-nil}
use Rattle.std.proofs.lemmas.List.Elements.{All-nil, All-append, All-map, All-push, All-weaker}
use Rattle.jrql_ast.specs.InForm.{variable_limit}
use Rattle.jrql_ast.specs.declared.patterns.PatternTriple.{PatternTriple}
use Rattle.jrql_ast.specs.declared.patterns.Slot.{Slot}
use Rattle.jrql_ast.specs.declared.patterns.Slot.TheVariants as slots
use Rattle.rdf_terms.specs.Literal.{LiteralValue, Typed, lexical_limit, is_same, xsd_string}
use Rattle.serde_json.specs.Data.{Data, null, boolean, number, string, array, object, Num, Items, no_items, item, Members, no_members, member}
use Rattle.jsonld_context.specs.Context.{ContextValue, type_of}
use Rattle.jsonld_context.specs.ContextReading.{unless_fault, is_id_key, is_type_key}
use Rattle.jsonld_context.specs.Expanding.{expand_key, expand_id}
use Rattle.jsonld_context.specs.Texts.{is_variable, begins_as_keyword}
use Rattle.jsonld_context.specs.declared.definitions.TermType.{TermType}
use Rattle.jsonld_context.specs.declared.definitions.TermType.TheVariants as types
use Rattle.jsonld_context.specs.declared.faults.JsonFault.{JsonFault}
use Rattle.jsonld_context.specs.declared.faults.JsonFault.TheVariants as faults
use Rattle.jsonld_values.specs.Literals.{followed_by, made_of, iri_slot, literal_slot, literal_object, string_object, boolean_object, whole_object, number_of_text, whole_text, xsd_double, number_object}
use Rattle.jsonld_values.specs.Numbering.{IsSlotOf, IsPatternOf, HasGrown}
use Rattle.jsonld_values.specs.ValueObjects.{has_member, is_value_object, value_object, fault_of_value_object, literal_meant}
use Rattle.jsonld_values.specs.VariableNames.{NamesValue, variables_met, meet_variable, meet_fresh}
use Rattle.jsonld_values.proofs.Meeting.{met_behind}
use Rattle.jsonld_values.proofs.NumberingLaws.{grown_begins, grown_on, slot_keeps, patterns_keep}
use Rattle.jsonld_subjects.specs.NamesKept.{fresh_at, IsOfPlace, AreMetAt, KeepsToNames, ObjectKeepsToNames}
use Rattle.jsonld_subjects.specs.MemberReading.{read_member, read_object}
use Rattle.jsonld_subjects.specs.ObjectReading.{ObjectFound, object_of, object_with, subject_of, object_alone, object_read}
use Rattle.jsonld_subjects.specs.SubjectReading.{Found, OpenSubject, rdf_type, with_names, with_object, slot_of, property_of, object_met, read_id, read_type, read_each_type, read_types, meet_subject, begun, without_context, triples_about, ended, linked_to, linked, entered, read_plain, read_single, read_each, read_values, read_members, read_subject, read_each_subject, read_any, subjects_read}
use Rattle.jsonld_subjects.specs.declared.places.Place.{Place}
use Rattle.jsonld_subjects.specs.declared.places.Place.TheVariants.{Pattern, Insert}

-- ---- results

pub ok_same : {X : Type 0} (x y : X) → ◌≡◌ {A = Result X JsonFault} (Ok x) (Ok y) → x ≡ y
ok_same x y h = cc

pub no_fault : {X : Type 0} (x : X) (fault : JsonFault) → ◌≡◌ {A = Result X JsonFault} (Err fault) (Ok x) → ⊥
no_fault x fault h = cc

-- what is made of a value that was read is made of some value
pub made_is : {X Y : Type 0} (P : Y → Type 0) (read : Result X JsonFault) (make : X → Y) (y : Y) → made_of read make ≡ Ok y
    → ((x : X) → read ≡ Ok x → P (make x)) → P y
made_is P (Ok x) make y reads each = subst P (ok_same (make x) y reads) (each x refl)
made_is P (Err fault) make y reads each = absurd (no_fault y fault reads)

-- what follows a value that was read follows some value
pub followed_is : {X Y : Type 0} (P : Type 0) (read : Result X JsonFault) (next : X → Result Y JsonFault) (y : Y) → followed_by read next ≡ Ok y
    → ((x : X) → read ≡ Ok x → next x ≡ Ok y → P) → P
followed_is P (Ok x) next y reads each = each x refl reads
followed_is P (Err fault) next y reads each = absurd (no_fault y fault reads)

-- one of two ways
pub either_is : {X : Type 0} (P : Type 0) (b : Bool) (left right : Result X JsonFault) (x : X) → (if b then left else right) ≡ Ok x
    → (left ≡ Ok x → P) → (right ≡ Ok x → P) → P
either_is P true left right x reads first second = first reads
either_is P false left right x reads first second = second reads

-- ---- terms

abbrev IsTerm : Slot → Type 0
IsTerm (slots.Term term) = Unit {0}
IsTerm (slots.Var variable) = ⊥
IsTerm (slots.Fresh subject) = ⊥

iri_is_term : (read : Result (List ℕ) JsonFault) (slot : Slot) → made_of read iri_slot ≡ Ok slot → IsTerm slot
iri_is_term read slot reads = made_is IsTerm read iri_slot slot reads (λ iri h. tt)

literal_is_term : (key lexical datatype : List ℕ) (slot : Slot) → literal_object key lexical datatype ≡ Ok slot → IsTerm slot
literal_is_term key lexical datatype slot reads =
    either_is (IsTerm slot) (nat_le (length lexical) lexical_limit) _ _ slot reads
    (λ h. subst IsTerm (ok_same (literal_slot (Typed lexical datatype)) slot h) tt)
    (λ h. absurd (no_fault slot (faults.BadSubject key) h))

string_is_term : (context : ContextValue) (key : List ℕ) (kind : Option TermType) (text : List ℕ) (slot : Slot) → string_object context key kind text ≡ Ok slot → IsTerm slot
string_is_term context key None text slot reads = literal_is_term key text xsd_string slot reads
string_is_term context key (Some types.Id) text slot reads = iri_is_term (expand_id context text) slot reads
string_is_term context key (Some (types.Datatype iri)) text slot reads = literal_is_term key text iri slot reads

whole_is_term : (key text datatype : List ℕ) (slot : Slot) → whole_object key text datatype ≡ Ok slot → IsTerm slot
whole_is_term key text datatype slot reads =
    either_is (IsTerm slot) (is_same datatype xsd_double) _ _ slot reads
    (λ h. absurd (no_fault slot (faults.Unsupported key) h))
    (λ h. subst IsTerm (ok_same (literal_slot (Typed text datatype)) slot h) tt)

text_is_term : (key datatype : List ℕ) (text : Option (List ℕ)) (slot : Slot) → number_of_text key datatype text ≡ Ok slot → IsTerm slot
text_is_term key datatype None slot reads = absurd (no_fault slot faults.Fraction reads)
text_is_term key datatype (Some text) slot reads = whole_is_term key text datatype slot reads

number_is_term : (key : List ℕ) (kind : Option TermType) (value : Num) (slot : Slot) → number_object key kind value ≡ Ok slot → IsTerm slot
number_is_term key kind value slot reads = text_is_term key _ (whole_text value) slot reads

said_is_term : (fault : Option JsonFault) (literal : LiteralValue) (slot : Slot) → unless_fault fault (literal_slot literal) ≡ Ok slot → IsTerm slot
said_is_term None literal slot reads = subst IsTerm (ok_same (literal_slot literal) slot reads) tt
said_is_term (Some fault) literal slot reads = absurd (no_fault slot fault reads)

value_is_term : (context : ContextValue) (parts : Members) (slot : Slot) → value_object context parts ≡ Ok slot → IsTerm slot
unfolding value_object
value_is_term context parts slot reads = said_is_term (fault_of_value_object context parts) (literal_meant context parts) slot reads

module _ (place : Place) where
  -- ---- names

  abbrev Stands : NamesValue → Slot → Type 0
  Stands names slot = IsSlotOf names (fresh_at place names) slot

  term_stands : (names : NamesValue) (slot : Slot) → IsTerm slot → Stands names slot
  term_stands names (slots.Term term) is = tt
  term_stands names (slots.Var variable) is = absurd is
  term_stands names (slots.Fresh subject) is = absurd is

  -- names that were met, and a slot of them
  record IsMet (names : NamesValue) (met : NamesValue × Slot) : Type 0 where
    names_met : AreMetAt place names met.0
    slot : Stands met.0 met.1

place_same : (place : Place) (names : NamesValue) → IsOfPlace place names names
place_same Pattern names = refl
place_same Insert names = refl

place_on : (place : Place) (first second third : NamesValue) → IsOfPlace place first second → IsOfPlace place second third → IsOfPlace place first third
place_on Pattern first second third one two = two ∙ one
place_on Insert first second third one two = two ∙ one

place_by : (place : Place) (before after : NamesValue) → after.hidden ≡ before.hidden → after.fresh ≡ before.fresh → IsOfPlace place before after
place_by Pattern before after hidden fresh = fresh
place_by Insert before after hidden fresh = hidden

none_met : (place : Place) (names : NamesValue) → AreMetAt place names names
none_met place names = record { grown = grown_begins names; place_kept = place_same place names; names = λ kept. kept }

met_on : (place : Place) (first second third : NamesValue) → AreMetAt place first second → AreMetAt place second third → AreMetAt place first third
met_on place first second third one two = record {
  grown = grown_on first second third one.grown two.grown;
  place_kept = place_on place first second third one.place_kept two.place_kept;
  names = λ kept. two.names (one.names kept);
}

fresh_grows : (place : Place) (before after : NamesValue) → HasGrown before after → fresh_at place before ≤ fresh_at place after
fresh_grows Pattern before after grown = omega arith
fresh_grows Insert before after grown = grown.fresh

least_fresh : (place : Place) (names : NamesValue) → 0 ≤ fresh_at place names
least_fresh Pattern names = omega arith
least_fresh Insert names = omega arith

variable_met : (place : Place) (names : NamesValue) (text : List ℕ) (met : NamesValue × Slot) → meet_variable names text ≡ Ok met → IsMet place names met
variable_met place names text met reads =
    let behind = met_behind names text met reads in
    record {
      names_met = record { grown = behind.grown; place_kept = place_by place names met.0 behind.hidden behind.fresh; names = behind.still };
      slot = slot_keeps met.0 met.0 0 (fresh_at place met.0) met.1 (grown_begins met.0) (least_fresh place met.0) behind.slot;
    }

-- a text that is met, where others are terms
text_met : (place : Place) (names : NamesValue) (text : List ℕ) (other : Result Slot JsonFault) (met : NamesValue × Slot) → ((slot : Slot) → other ≡ Ok slot → IsTerm slot)
    → slot_of names text other ≡ Ok met → IsMet place names met
text_met place names text other met terms reads =
    either_is (IsMet place names met) (is_variable text) _ _ met reads
    (λ h. variable_met place names text met h)
    (λ h. made_is (IsMet place names) other (λ slot. (names, slot)) met h
    (λ slot is. record { names_met = none_met place names; slot = term_stands place names slot (terms slot is) }))

-- where a subject without an id begins
hidden_met : (names : NamesValue) (met : NamesValue × Slot) (room : Bool) → nat_lt (variables_met names) variable_limit ≡ room
    → ◌≡◌ {A = Result (NamesValue × Slot) JsonFault}
    (if room then Ok (record names { hidden = names.hidden + 1 }, slots.Var (variable_limit + names.hidden)) else Err (faults.BadQuery (codes "@id"))) (Ok met)
    → IsMet Pattern names met
hidden_met names met true room reads =
    let under = ltb-true (variables_met names) variable_limit room in
    subst (IsMet Pattern names) (ok_same _ met reads) (record {
      names_met = record {
        grown = record { more = []; named = sym (append-nil names.named); hidden = omega arith; fresh = omega arith };
        place_kept = refl;
        names = λ kept. record { differ = kept.differ; known = kept.known; limit = omega arith };
      };
      slot = inr (omega arith, omega arith);
    })
hidden_met names met false room reads = absurd (no_fault met (faults.BadQuery (codes "@id")) reads)

fresh_met : (names : NamesValue) → IsMet Insert names (meet_fresh names)
fresh_met names = record {
  names_met = record {
    grown = record { more = []; named = sym (append-nil names.named); hidden = omega arith; fresh = omega arith };
    place_kept = refl;
    names = λ kept. record { differ = kept.differ; known = kept.known; limit = kept.limit };
  };
  slot = omega arith;
}

subject_met : (place : Place) (names : NamesValue) (met : NamesValue × Slot) → meet_subject place names ≡ Ok met → IsMet place names met
subject_met Pattern names met reads = hidden_met names met (nat_lt (variables_met names) variable_limit) refl reads
subject_met Insert names met reads = subst (IsMet Insert names) (ok_same (meet_fresh names) met reads) (fresh_met names)

module _ (place : Place) where
  -- ---- what was found

  abbrev AreKept : NamesValue → List PatternTriple → Type 0
  AreKept names triples = All (IsPatternOf names (fresh_at place names)) triples

  abbrev StandBoth : NamesValue → Slot × Slot → Type 0
  StandBoth names property = Stands place names property.0 × Stands place names property.1

  record IsOpenKept (so_far : OpenSubject) : Type 0 where
    triples : AreKept so_far.found.names so_far.found.triples
    slot : IfSome so_far.slot (Stands place so_far.found.names)
    properties : All (StandBoth so_far.found.names) so_far.properties

  -- what is read next of a subject
  record Leads (so_far after : OpenSubject) : Type 0 where
    kept : IsOpenKept after
    met : AreMetAt place so_far.found.names after.found.names

  -- the same of what was found
  record Finds (found after : Found) : Type 0 where
    kept : AreKept after.names after.triples
    met : AreMetAt place found.names after.names

  stands_on : (before after : NamesValue) (slot : Slot) → AreMetAt place before after → Stands place before slot → Stands place after slot
  stands_on before after slot met is =
      slot_keeps before after (fresh_at place before) (fresh_at place after) slot met.grown (fresh_grows place before after met.grown) is

  some_on : (before after : NamesValue) (slot : Option Slot) → AreMetAt place before after → IfSome slot (Stands place before) → IfSome slot (Stands place after)
  some_on before after None met is = tt
  some_on before after (Some slot) met is = stands_on before after slot met is

  both_on : (before after : NamesValue) (properties : List (Slot × Slot)) → AreMetAt place before after → All (StandBoth before) properties → All (StandBoth after) properties
  both_on before after properties met all =
      All-weaker (StandBoth before) (StandBoth after)
      (λ property is. (stands_on before after property.0 met is.0, stands_on before after property.1 met is.1)) properties all

  kept_on : (before after : NamesValue) (triples : List PatternTriple) → AreMetAt place before after → AreKept before triples → AreKept after triples
  kept_on before after triples met all =
      patterns_keep before after (fresh_at place before) (fresh_at place after) triples met.grown (fresh_grows place before after met.grown) all

  -- ---- steps

  stays : (so_far : OpenSubject) → IsOpenKept so_far → Leads so_far so_far
  stays so_far kept = record { kept = kept; met = none_met place so_far.found.names }

  leads_on : (first second third : OpenSubject) → Leads first second → Leads second third → Leads first third
  leads_on first second third one two =
      record { kept = two.kept; met = met_on place first.found.names second.found.names third.found.names one.met two.met }

  names_kept : (so_far : OpenSubject) (names : NamesValue) → IsOpenKept so_far → AreMetAt place so_far.found.names names → IsOpenKept (with_names so_far names)
  names_kept so_far names kept met = record {
    triples = kept_on so_far.found.names names so_far.found.triples met kept.triples;
    slot = some_on so_far.found.names names so_far.slot met kept.slot;
    properties = both_on so_far.found.names names so_far.properties met kept.properties;
  }

  object_kept : (so_far : OpenSubject) (property value : Slot) → IsOpenKept so_far → Stands place so_far.found.names property → Stands place so_far.found.names value
      → IsOpenKept (with_object so_far property value)
  object_kept so_far property value kept is valued = record {
    triples = kept.triples;
    slot = kept.slot;
    properties = All-push (StandBoth so_far.found.names) so_far.properties (property, value) kept.properties (is, valued);
  }

  -- an object that meets no names
  puts : (so_far : OpenSubject) (property value : Slot) → IsOpenKept so_far → Stands place so_far.found.names property → IsTerm value
      → Leads so_far (with_object so_far property value)
  puts so_far property value kept is term = record {
    kept = object_kept so_far property value kept is (term_stands place so_far.found.names value term);
    met = none_met place so_far.found.names;
  }

  -- one that does
  meets : (so_far : OpenSubject) (property : Slot) (met : NamesValue × Slot) → IsOpenKept so_far → Stands place so_far.found.names property
      → IsMet place so_far.found.names met → Leads so_far (object_met so_far property met)
  meets so_far property met kept is new = record {
    kept = object_kept (with_names so_far met.0) property met.1 (names_kept so_far met.0 kept new.names_met)
        (stands_on so_far.found.names met.0 property new.names_met is) new.slot;
    met = new.names_met;
  }

  -- ---- triples

  about_kept : (names : NamesValue) (slot : Option Slot) (properties : List (Slot × Slot)) → IfSome slot (Stands place names) → All (StandBoth names) properties
      → AreKept names (triples_about slot properties)
  about_kept names None properties is all = All-nil (IsPatternOf names (fresh_at place names))
  about_kept names (Some subject) properties is all =
      All-map (IsPatternOf names (fresh_at place names)) (λ property. record { s = subject; p = property.0; o = property.1 }) properties
      (All-weaker (StandBoth names) (λ property. IsPatternOf names (fresh_at place names) (record { s = subject; p = property.0; o = property.1 }))
      (λ property both. record { subject = is; predicate = both.0; object = both.1 }) properties all)

  ended_kept : (so_far : OpenSubject) → IsOpenKept so_far → AreKept so_far.found.names (ended so_far).triples
  ended_kept so_far kept =
      All-append (IsPatternOf so_far.found.names (fresh_at place so_far.found.names)) so_far.found.triples (triples_about so_far.slot so_far.properties)
      kept.triples (about_kept so_far.found.names so_far.slot so_far.properties kept.slot kept.properties)

  linked_kept : (property : Slot) (slot : Option Slot) (outer : OpenSubject) → IsOpenKept outer → Stands place outer.found.names property
      → IfSome slot (Stands place outer.found.names) → IsOpenKept (linked_to property slot outer)
  linked_kept property None outer kept is some = kept
  linked_kept property (Some subject) outer kept is some = object_kept outer property subject kept is some

  linked_names : (property : Slot) (slot : Option Slot) (outer : OpenSubject) → (linked_to property slot outer).found.names ≡ outer.found.names
  linked_names property None outer = refl
  linked_names property (Some subject) outer = refl

  -- a subject within another becomes the object of a property
  links : (outer inner : OpenSubject) (property : Slot) → IsOpenKept outer → Stands place outer.found.names property → IsOpenKept inner
      → AreMetAt place outer.found.names inner.found.names → Leads outer (linked outer property inner)
  links outer inner property kept is within met =
      let names = inner.found.names in
      let now : OpenSubject = record outer { found = ended inner } in
      let now_kept : IsOpenKept now = record {
        triples = ended_kept inner within;
        slot = some_on outer.found.names names outer.slot met kept.slot;
        properties = both_on outer.found.names names outer.properties met kept.properties;
      } in
      record {
        kept = linked_kept property inner.slot now now_kept (stands_on outer.found.names names property met is) within.slot;
        met = subst (AreMetAt place outer.found.names) (sym (linked_names property inner.slot now)) met;
      }

  -- ---- where a subject begins

  record Begins (found : Found) (subject : OpenSubject) : Type 0 where
    kept : IsOpenKept subject
    met : AreMetAt place found.names subject.found.names

  begun_kept : (members : Members) (found : Found) (subject : OpenSubject) → AreKept found.names found.triples → begun place members found ≡ Ok subject → Begins found subject
  begun_kept members found subject kept reads =
      either_is (Begins found subject) (has_member (codes "@id") members) _ _ subject reads
      (λ h. subst (Begins found) (ok_same _ subject h) (record {
        kept = record { triples = kept; slot = tt; properties = All-nil (StandBoth found.names) };
        met = none_met place found.names;
      }))
      (λ h. made_is (Begins found) (meet_subject place found.names) _ subject h (λ met is.
      let new = subject_met place found.names met is in
      record {
        kept = record { triples = kept_on found.names met.0 found.triples new.names_met kept; slot = new.slot; properties = All-nil (StandBoth met.0) };
        met = new.names_met;
      }))

  entered_kept : (members : Members) (found : Found) (subject : OpenSubject) → AreKept found.names found.triples → entered place members found ≡ Ok subject → Begins found subject
  entered_kept members found subject kept reads =
      followed_is (Begins found subject) (begun place members found) (without_context members) subject reads
      (λ begins is next. either_is (Begins found subject) (has_member (codes "@context") members) _ _ subject next
      (λ h. absurd (no_fault subject (faults.Unsupported (codes "@context")) h))
      (λ h. subst (Begins found) (ok_same begins subject h) (begun_kept members found begins kept is)))

module _ (context : ContextValue) (place : Place) where
  -- ---- `@id` and `@type`

  key_met : (key : List ℕ) (names : NamesValue) (met : NamesValue × Slot) → property_of context key names ≡ Ok met → IsMet place names met
  key_met key names met reads =
      text_met place names key (made_of (expand_key context key) iri_slot) met (iri_is_term (expand_key context key)) reads

  id_leads : (value : Data) (so_far after : OpenSubject) → IsOpenKept place so_far → read_id context value so_far ≡ Ok after → Leads place so_far after
  id_leads (string text) so_far after kept reads =
      made_is (Leads place so_far) (slot_of so_far.found.names text (made_of (expand_id context text) iri_slot)) _ after reads (λ met is.
      let new = text_met place so_far.found.names text (made_of (expand_id context text) iri_slot) met (iri_is_term (expand_id context text)) is in
      let named = names_kept place so_far met.0 kept new.names_met in
      record { kept = record { triples = named.triples; slot = new.slot; properties = named.properties }; met = new.names_met })
  id_leads null so_far after kept reads = absurd (no_fault after (faults.BadSubject (codes "@id")) reads)
  id_leads (boolean value) so_far after kept reads = absurd (no_fault after (faults.BadSubject (codes "@id")) reads)
  id_leads (number value) so_far after kept reads = absurd (no_fault after (faults.BadSubject (codes "@id")) reads)
  id_leads (array items) so_far after kept reads = absurd (no_fault after (faults.BadSubject (codes "@id")) reads)
  id_leads (object _) so_far after kept reads = absurd (no_fault after (faults.BadSubject (codes "@id")) reads)

  type_leads : (value : Data) (so_far after : OpenSubject) → IsOpenKept place so_far → read_type context value so_far ≡ Ok after → Leads place so_far after
  type_leads (string text) so_far after kept reads =
      made_is (Leads place so_far) (slot_of so_far.found.names text (made_of (expand_key context text) iri_slot)) (object_met so_far (iri_slot rdf_type)) after reads
      (λ met is. meets place so_far (iri_slot rdf_type) met kept tt (key_met text so_far.found.names met is))
  type_leads null so_far after kept reads = absurd (no_fault after (faults.BadSubject (codes "@type")) reads)
  type_leads (boolean value) so_far after kept reads = absurd (no_fault after (faults.BadSubject (codes "@type")) reads)
  type_leads (number value) so_far after kept reads = absurd (no_fault after (faults.BadSubject (codes "@type")) reads)
  type_leads (array items) so_far after kept reads = absurd (no_fault after (faults.BadSubject (codes "@type")) reads)
  type_leads (object _) so_far after kept reads = absurd (no_fault after (faults.BadSubject (codes "@type")) reads)

  each_type_leads : (items : Items) (so_far after : OpenSubject) → IsOpenKept place so_far → read_each_type context items so_far ≡ Ok after → Leads place so_far after
  each_type_leads no_items so_far after kept reads = subst (Leads place so_far) (ok_same so_far after reads) (stays place so_far kept)
  each_type_leads (item value rest) so_far after kept reads =
      followed_is (Leads place so_far after) (read_type context value so_far) (read_each_type context rest) after reads (λ mid is next.
      let first = type_leads value so_far mid kept is in
      leads_on place so_far mid after first (each_type_leads rest mid after first.kept next))

  types_lead : (value : Data) (so_far after : OpenSubject) → IsOpenKept place so_far → read_types context value so_far ≡ Ok after → Leads place so_far after
  types_lead (array items) so_far after kept reads = each_type_leads items so_far after kept reads
  types_lead null so_far after kept reads = type_leads null so_far after kept reads
  types_lead (boolean value) so_far after kept reads = type_leads (boolean value) so_far after kept reads
  types_lead (number value) so_far after kept reads = type_leads (number value) so_far after kept reads
  types_lead (string text) so_far after kept reads = type_leads (string text) so_far after kept reads
  types_lead (object members) so_far after kept reads = type_leads (object members) so_far after kept reads

  -- ---- values

  plain_leads : (key : List ℕ) (kind : Option TermType) (property : Slot) (value : Data) (so_far after : OpenSubject) → IsOpenKept place so_far
      → Stands place so_far.found.names property → read_plain context key kind property value so_far ≡ Ok after → Leads place so_far after
  plain_leads key kind property null so_far after kept is reads = subst (Leads place so_far) (ok_same so_far after reads) (stays place so_far kept)
  plain_leads key kind property (boolean value) so_far after kept is reads =
      subst (Leads place so_far) (ok_same _ after reads) (puts place so_far property (boolean_object kind value) kept is tt)
  plain_leads key kind property (number value) so_far after kept is reads =
      made_is (Leads place so_far) (number_object key kind value) (with_object so_far property) after reads
      (λ slot h. puts place so_far property slot kept is (number_is_term key kind value slot h))
  plain_leads key kind property (string text) so_far after kept is reads =
      made_is (Leads place so_far) (slot_of so_far.found.names text (string_object context key kind text)) (object_met so_far property) after reads
      (λ met h. meets place so_far property met kept is
      (text_met place so_far.found.names text (string_object context key kind text) met (string_is_term context key kind text) h))
  plain_leads key kind property (array items) so_far after kept is reads = absurd (no_fault after (faults.Unsupported key) reads)
  plain_leads key kind property (object _) so_far after kept is reads = absurd (no_fault after (faults.Unsupported key) reads)

  -- what members lead to
  abbrev MembersLead : Members → Type 0
  MembersLead members = (so_far after : OpenSubject) → IsOpenKept place so_far → read_members context place members so_far ≡ Ok after → Leads place so_far after

  -- a subject from where it begins
  subject_leads : (members : Members) (found : Found) (subject : OpenSubject) → AreKept place found.names found.triples → MembersLead members
      → followed_by (entered place members found) (read_members context place members) ≡ Ok subject → Begins place found subject
  subject_leads members found subject kept inside reads =
      followed_is (Begins place found subject) (entered place members found) (read_members context place members) subject reads (λ begins is next.
      let first = entered_kept place members found begins kept is in
      let rest = inside begins subject first.kept next in
      record { kept = rest.kept; met = met_on place found.names begins.found.names subject.found.names first.met rest.met })

  object_leads : (members : Members) (property : Slot) (so_far after : OpenSubject) → IsOpenKept place so_far → Stands place so_far.found.names property
      → MembersLead members → read_object context place property members so_far ≡ Ok after → Leads place so_far after
  object_leads members property so_far after kept is inside reads =
      either_is (Leads place so_far after) (is_value_object members) _ _ after reads
      (λ h. made_is (Leads place so_far) (value_object context members) (with_object so_far property) after h
      (λ slot g. puts place so_far property slot kept is (value_is_term context members slot g)))
      (λ h. made_is (Leads place so_far) (followed_by (entered place members so_far.found) (read_members context place members)) (linked so_far property) after h
      (λ inner g.
      let begins = subject_leads members so_far.found inner kept.triples inside g in
      links place so_far inner property kept is begins.kept begins.met))

  member_leads : (key : List ℕ) (value : Data) (so_far after : OpenSubject) → IsOpenKept place so_far
      → ((kind : Option TermType) (property : Slot) (mid : OpenSubject) → IsOpenKept place mid → Stands place mid.found.names property
      → read_values context place key value kind property mid ≡ Ok after → Leads place mid after)
      → read_member context place key value so_far ≡ Ok after → Leads place so_far after
  member_leads key value so_far after kept inside reads =
      either_is (Leads place so_far after) (is_id_key key) _ _ after reads (id_leads value so_far after kept)
      (λ h. either_is (Leads place so_far after) (is_type_key key) _ _ after h (types_lead value so_far after kept)
      (λ g. either_is (Leads place so_far after) (begins_as_keyword key) _ _ after g (λ f. absurd (no_fault after (faults.Unsupported key) f))
      (λ f. followed_is (Leads place so_far after) (property_of context key so_far.found.names) _ after f (λ met is next.
      let new = key_met key so_far.found.names met is in
      let mid = with_names so_far met.0 in
      let first : Leads place so_far mid = record { kept = names_kept place so_far met.0 kept new.names_met; met = new.names_met } in
      leads_on place so_far mid after first (inside (type_of context.terms key) met.1 mid first.kept new.slot next)))))

  mutual
    single_leads : (key : List ℕ) (kind : Option TermType) (property : Slot) (value : Data) (so_far after : OpenSubject) → IsOpenKept place so_far
        → Stands place so_far.found.names property → read_single context place key kind property value so_far ≡ Ok after → Leads place so_far after
    single_leads key kind property (object members) so_far after kept is reads =
        object_leads members property so_far after kept is (members_lead members) reads
    single_leads key kind property null so_far after kept is reads = plain_leads key kind property null so_far after kept is reads
    single_leads key kind property (boolean value) so_far after kept is reads = plain_leads key kind property (boolean value) so_far after kept is reads
    single_leads key kind property (number value) so_far after kept is reads = plain_leads key kind property (number value) so_far after kept is reads
    single_leads key kind property (string text) so_far after kept is reads = plain_leads key kind property (string text) so_far after kept is reads
    single_leads key kind property (array items) so_far after kept is reads = plain_leads key kind property (array items) so_far after kept is reads

    each_leads : (key : List ℕ) (kind : Option TermType) (property : Slot) (items : Items) (so_far after : OpenSubject) → IsOpenKept place so_far
        → Stands place so_far.found.names property → read_each context place key kind property items so_far ≡ Ok after → Leads place so_far after
    each_leads key kind property no_items so_far after kept is reads = subst (Leads place so_far) (ok_same so_far after reads) (stays place so_far kept)
    each_leads key kind property (item value rest) so_far after kept is reads =
        followed_is (Leads place so_far after) (read_single context place key kind property value so_far) (read_each context place key kind property rest) after reads
        (λ mid one next.
        let first = single_leads key kind property value so_far mid kept is one in
        let still = stands_on place so_far.found.names mid.found.names property first.met is in
        leads_on place so_far mid after first (each_leads key kind property rest mid after first.kept still next))

    values_lead : (key : List ℕ) (value : Data) (kind : Option TermType) (property : Slot) (so_far after : OpenSubject) → IsOpenKept place so_far
        → Stands place so_far.found.names property → read_values context place key value kind property so_far ≡ Ok after → Leads place so_far after
    values_lead key (array items) kind property so_far after kept is reads = each_leads key kind property items so_far after kept is reads
    values_lead key (object members) kind property so_far after kept is reads =
        object_leads members property so_far after kept is (members_lead members) reads
    values_lead key null kind property so_far after kept is reads = plain_leads key kind property null so_far after kept is reads
    values_lead key (boolean value) kind property so_far after kept is reads = plain_leads key kind property (boolean value) so_far after kept is reads
    values_lead key (number value) kind property so_far after kept is reads = plain_leads key kind property (number value) so_far after kept is reads
    values_lead key (string text) kind property so_far after kept is reads = plain_leads key kind property (string text) so_far after kept is reads

    members_lead : (members : Members) (so_far after : OpenSubject) → IsOpenKept place so_far → read_members context place members so_far ≡ Ok after → Leads place so_far after
    members_lead no_members so_far after kept reads = subst (Leads place so_far) (ok_same so_far after reads) (stays place so_far kept)
    members_lead (member key value rest) so_far after kept reads =
        followed_is (Leads place so_far after) (read_member context place key value so_far) (read_members context place rest) after reads (λ mid one next.
        let first = member_leads key value so_far mid kept (λ kind property begins. values_lead key value kind property begins mid) one in
        leads_on place so_far mid after first (members_lead rest mid after first.kept next))

  -- ---- a text

  ends : (found : Found) (subject : OpenSubject) → Begins place found subject → Finds place found (ended subject)
  ends found subject begins = record { kept = ended_kept place subject begins.kept; met = begins.met }

  subject_finds : (value : Data) (found after : Found) → AreKept place found.names found.triples → read_subject context place value found ≡ Ok after → Finds place found after
  subject_finds (object members) found after kept reads =
      made_is (Finds place found) (followed_by (entered place members found) (read_members context place members)) ended after reads
      (λ subject is. ends found subject (subject_leads members found subject kept (members_lead members) is))
  subject_finds null found after kept reads = absurd (no_fault after (faults.BadSubject []) reads)
  subject_finds (boolean value) found after kept reads = absurd (no_fault after (faults.BadSubject []) reads)
  subject_finds (number value) found after kept reads = absurd (no_fault after (faults.BadSubject []) reads)
  subject_finds (string text) found after kept reads = absurd (no_fault after (faults.BadSubject []) reads)
  subject_finds (array items) found after kept reads = absurd (no_fault after (faults.BadSubject []) reads)

  each_finds : (items : Items) (found after : Found) → AreKept place found.names found.triples → read_each_subject context place items found ≡ Ok after → Finds place found after
  each_finds no_items found after kept reads = subst (Finds place found) (ok_same found after reads) (record { kept = kept; met = none_met place found.names })
  each_finds (item value rest) found after kept reads =
      followed_is (Finds place found after) (read_subject context place value found) (read_each_subject context place rest) after reads (λ mid one next.
      let first = subject_finds value found mid kept one in
      let others = each_finds rest mid after first.kept next in
      record { kept = others.kept; met = met_on place found.names mid.names after.names first.met others.met })

  any_finds : (value : Data) (found after : Found) → AreKept place found.names found.triples → read_any context place value found ≡ Ok after → Finds place found after
  any_finds (array items) found after kept reads = each_finds items found after kept reads
  any_finds null found after kept reads = subject_finds null found after kept reads
  any_finds (boolean value) found after kept reads = subject_finds (boolean value) found after kept reads
  any_finds (number value) found after kept reads = subject_finds (number value) found after kept reads
  any_finds (string text) found after kept reads = subject_finds (string text) found after kept reads
  any_finds (object members) found after kept reads = subject_finds (object members) found after kept reads

  abbrev nothing_found : NamesValue → Found
  nothing_found names = record { names = names; triples = [] }

  none_kept : (names : NamesValue) → AreKept place names []
  none_kept names = All-nil (IsPatternOf names (fresh_at place names))

  -- ---- a value that stands alone

  record Gives (found : Found) (read : ObjectFound) : Type 0 where
    finds : Finds place found read.found
    object : IfSome read.object (Stands place read.found.names)

  term_given : (found : Found) (slot : Slot) → AreKept place found.names found.triples → IsTerm slot → Gives found (object_of found slot)
  term_given found slot kept term = record {
    finds = record { kept = kept; met = none_met place found.names };
    object = term_stands place found.names slot term;
  }

  met_given : (found : Found) (met : NamesValue × Slot) → AreKept place found.names found.triples → IsMet place found.names met → Gives found (object_with found met)
  met_given found met kept new = record {
    finds = record { kept = kept_on place found.names met.0 found.triples new.names_met kept; met = new.names_met };
    object = new.slot;
  }

  alone_given : (value : Data) (found : Found) (read : ObjectFound) → AreKept place found.names found.triples → object_alone context place value found ≡ Ok read → Gives found read
  alone_given null found read kept reads =
      subst (Gives found) (ok_same _ read reads) (record { finds = record { kept = kept; met = none_met place found.names }; object = tt })
  alone_given (boolean value) found read kept reads =
      subst (Gives found) (ok_same _ read reads) (term_given found (boolean_object None value) kept tt)
  alone_given (number value) found read kept reads =
      made_is (Gives found) (number_object [] None value) (object_of found) read reads
      (λ slot h. term_given found slot kept (number_is_term [] None value slot h))
  alone_given (string text) found read kept reads =
      made_is (Gives found) (slot_of found.names text (string_object context [] None text)) (object_with found) read reads
      (λ met h. met_given found met kept (text_met place found.names text (string_object context [] None text) met (string_is_term context [] None text) h))
  alone_given (array items) found read kept reads = absurd (no_fault read (faults.Unsupported []) reads)
  alone_given (object members) found read kept reads =
      either_is (Gives found read) (is_value_object members) _ _ read reads
      (λ h. made_is (Gives found) (value_object context members) (object_of found) read h
      (λ slot g. term_given found slot kept (value_is_term context members slot g)))
      (λ h. made_is (Gives found) (followed_by (entered place members found) (read_members context place members)) subject_of read h
      (λ subject g.
      let begins = subject_leads members found subject kept (members_lead members) g in
      record { finds = ends found subject begins; object = begins.kept.slot }))

pub subjects_keep : (context : ContextValue) (place : Place) (names : NamesValue) (value : Data) (found : Found)
    → subjects_read context place names value ≡ Ok found → KeepsToNames place names found
unfolding subjects_read
subjects_keep context place names value found reads =
    let finds = any_finds context place value (nothing_found context place names) found (none_kept context place names) reads in
    record { met = finds.met; triples = finds.kept }

pub object_keeps : (context : ContextValue) (place : Place) (names : NamesValue) (value : Data) (read : ObjectFound)
    → object_read context place names value ≡ Ok read → ObjectKeepsToNames place names read
unfolding object_read
object_keeps context place names value read reads =
    let gives = alone_given context place value (nothing_found context place names) read (none_kept context place names) reads in
    record { found = record { met = gives.finds.met; triples = gives.finds.kept }; object = gives.object }
