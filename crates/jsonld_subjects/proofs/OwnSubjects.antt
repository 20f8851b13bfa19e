-- Each subject without an id that is read is one of its own.
use Rattle.std.proofs.Common.{◌≡◌, ◌∙◌, ℕ, ◌+◌, List, [], ◌∷◌, ◌++◌, Bool, true, false, nat_lt, Option, Some, None, Result, Ok, Err, Ordering, Less, Equal, Greater, nat_cmp, is_eq, true≢false, refl, sym, ap, subst, if◌then◌else◌, arith}
use Rattle.std.specs.Prelude.{codes}
use Rattle.std.specs.Cmp.Lexicographic.{slice_cmp}
use Rattle.std.specs.Option.{is_some}
use Rattle.std.specs.Ordering.{match_ordering}
use Rattle.std.proofs.lemmas.List.{append_assoc, append-nil}
use Rattle.std.proofs.lemmas.Map.Text.{is_eq-slice_cmp}
use Rattle.jrql_ast.specs.InForm.{variable_limit}
use Rattle.jrql_ast.specs.declared.patterns.PatternTriple.{PatternTriple}
use Rattle.jrql_ast.specs.declared.patterns.Slot.{Slot}
use Rattle.jrql_ast.specs.declared.patterns.Slot.TheVariants as slots
use Rattle.rdf_terms.specs.Literal.{is_same}
use Rattle.serde_json.specs.Data.{Data, null, boolean, number, string, array, object, Items, no_items, item, Members, no_members, member}
use Rattle.serde_json.specs.Find.{get_member}
use Rattle.jsonld_context.specs.Context.{ContextValue, type_of}
use Rattle.jsonld_context.specs.ContextReading.{is_id_key, is_type_key}
use Rattle.jsonld_context.specs.Expanding.{expand_key, expand_id}
use Rattle.jsonld_context.specs.Texts.{is_variable, begins_as_keyword}
use Rattle.jsonld_context.specs.declared.definitions.TermType.{TermType}
use Rattle.jsonld_context.specs.declared.faults.JsonFault.{JsonFault}
use Rattle.jsonld_context.specs.declared.faults.JsonFault.TheVariants as faults
use Rattle.jsonld_context.proofs.TextLaws.{same}
use Rattle.jsonld_values.specs.Literals.{followed_by, made_of, iri_slot, string_object, boolean_object, number_object}
use Rattle.jsonld_values.specs.Numbering.{IsSlotOf}
use Rattle.jsonld_values.specs.ValueObjects.{has_member, is_value_object, value_object}
use Rattle.jsonld_values.specs.VariableNames.{NamesValue, variables_met, meet_fresh}
use Rattle.jsonld_values.proofs.Meeting.{met_behind}
use Rattle.jsonld_subjects.specs.MemberReading.{read_member, read_object}
use Rattle.jsonld_subjects.specs.OwnSubjects.{one_missing, missing_in, missing_among, missing_under, missing_of, missing_of_each, missing_ids, own_number, numbers_in, numbers_among, numbers_under, numbers_of, numbers_of_each, numbers_of_subjects, Told, triples_told, without_id, slot_without_id, IsNotFresh, IsItsSlot, HaveTheirSlots, HasOwnSubjects}
use Rattle.jsonld_subjects.specs.SubjectReading.{Found, OpenSubject, rdf_type, with_names, with_object, slot_of, property_of, object_met, read_id, read_type, read_each_type, read_types, meet_subject, begun, without_context, triples_about, ended, linked_to, linked, entered, read_plain, read_single, read_each, read_values, read_members, read_subject, read_each_subject, read_any, subjects_read}
use Rattle.jsonld_subjects.specs.declared.places.Place.{Place}
use Rattle.jsonld_subjects.specs.declared.places.Place.TheVariants.{Pattern, Insert}
use Rattle.jsonld_subjects.proofs.KeptNames.{ok_same, no_fault, made_is, followed_is, either_is}
use Rattle.jsonld_subjects.proofs.OwnNumbers.{own_fresh}

-- one of two ways, and which it is
pub either_so : {X : Type 0} (P : Type 0) (b : Bool) (left right : Result X JsonFault) (x : X) → (if b then left else right) ≡ Ok x
    → (b ≡ true → left ≡ Ok x → P) → (b ≡ false → right ≡ Ok x → P) → P
either_so P true left right x reads first second = first refl reads
either_so P false left right x reads first second = second refl reads

-- ---- lists

told_append : (some more : List Told) → triples_told (some ++ more) ≡ triples_told some ++ triples_told more
told_append [] more = refl
told_append (told ∷ some) more =
    let about = triples_about told.subject told.properties in
    ap (λ (l : List PatternTriple). about ++ l) (told_append some more) ∙ sym (append_assoc about (triples_told some) (triples_told more))

slots_append : (place : Place) (numbers others : List (Option ℕ)) (some more : List Told) → HaveTheirSlots place numbers some → HaveTheirSlots place others more
    → HaveTheirSlots place (numbers ++ others) (some ++ more)
slots_append place [] others [] more one two = two
slots_append place [] others (told ∷ some) more one two = absurd one
slots_append place (first ∷ numbers) others [] more one two = absurd one
slots_append place (first ∷ numbers) others (told ∷ some) more one two = (one.0, slots_append place numbers others some more one.1 two)

-- ---- a key that isn't `@id`

no_id_key : (key : List ℕ) (is : Bool) → is_id_key key ≡ is → is_eq (slice_cmp nat_cmp (codes "@id") key) ≡ false → is_id_key key ≡ false
no_id_key key false is h = is
no_id_key key true is h =
    let differs : is_same (codes "@id") key ≡ false = sym (is_eq-slice_cmp (codes "@id") key) ∙ h in
    let alike : is_same (codes "@id") key ≡ true = ap (is_same (codes "@id")) (same key (codes "@id") is) in
    absurd (true≢false (sym alike ∙ differs))

lacks_at : (order : Ordering) (key : List ℕ) (value : Data) (rest : Option Data) → slice_cmp nat_cmp (codes "@id") key ≡ order
    → is_some (match_ordering order rest (Some value) rest) ≡ false → (is_id_key key ≡ false) × (is_some rest ≡ false)
lacks_at Less key value rest is h = (no_id_key key (is_id_key key) refl (ap is_eq is), h)
lacks_at Equal key value rest is h = absurd (true≢false h)
lacks_at Greater key value rest is h = (no_id_key key (is_id_key key) refl (ap is_eq is), h)

lacks_id : (key : List ℕ) (value : Data) (rest : Members) → has_member (codes "@id") (member key value rest) ≡ false
    → (is_id_key key ≡ false) × (has_member (codes "@id") rest ≡ false)
lacks_id key value rest h = lacks_at (slice_cmp nat_cmp (codes "@id") key) key value (get_member (codes "@id") rest) refl h

-- ---- slots

of_names : (names : NamesValue) (slot : Slot) → IsSlotOf names 0 slot → IsNotFresh (Some slot)
of_names names (slots.Term term) is = tt
of_names names (slots.Var variable) is = tt
of_names names (slots.Fresh subject) is = absurd (omega arith)

iri_not_fresh : (read : Result (List ℕ) JsonFault) (slot : Slot) → made_of read iri_slot ≡ Ok slot → IsNotFresh (Some slot)
iri_not_fresh read slot reads = made_is (λ (s : Slot). IsNotFresh (Some s)) read iri_slot slot reads (λ iri h. tt)

text_not_fresh : (names : NamesValue) (text : List ℕ) (read : Result (List ℕ) JsonFault) (met : NamesValue × Slot) → slot_of names text (made_of read iri_slot) ≡ Ok met
    → IsNotFresh (Some met.1)
text_not_fresh names text read met reads =
    either_is (IsNotFresh (Some met.1)) (is_variable text) _ _ met reads
    (λ h. of_names met.0 met.1 (met_behind names text met h).slot)
    (λ h. made_is (λ (m : NamesValue × Slot). IsNotFresh (Some m.1)) (made_of read iri_slot) (λ slot. (names, slot)) met h (λ slot is. iri_not_fresh read slot is))

by_place : (place : Place) (before after : NamesValue) → after.hidden ≡ before.hidden → after.fresh ≡ before.fresh → without_id place after ≡ without_id place before
by_place Pattern before after hidden fresh = hidden
by_place Insert before after hidden fresh = fresh

-- a subject that has no id is met
record IsOneMore (place : Place) (names : NamesValue) (met : NamesValue × Slot) : Type 0 where
  count : without_id place met.0 ≡ without_id place names + 1
  slot : met.1 ≡ slot_without_id place (without_id place names)

hidden_more : (names : NamesValue) (met : NamesValue × Slot) (room : Bool)
    → ◌≡◌ {A = Result (NamesValue × Slot) JsonFault}
    (if room then Ok (record names { hidden = names.hidden + 1 }, slots.Var (variable_limit + names.hidden)) else Err (faults.BadQuery (codes "@id"))) (Ok met)
    → IsOneMore Pattern names met
hidden_more names met true reads = subst (IsOneMore Pattern names) (ok_same _ met reads) (record { count = refl; slot = refl })
hidden_more names met false reads = absurd (no_fault met (faults.BadQuery (codes "@id")) reads)

one_more : (place : Place) (names : NamesValue) (met : NamesValue × Slot) → meet_subject place names ≡ Ok met → IsOneMore place names met
one_more Pattern names met reads = hidden_more names met (nat_lt (variables_met names) variable_limit) reads
one_more Insert names met reads = subst (IsOneMore Insert names) (ok_same (meet_fresh names) met reads) (record { count = refl; slot = refl })

module _ (place : Place) where
  -- ---- steps

  -- what is found next: subjects with these numbers, of which so many lack an id
  record Tells (before after : Found) (numbers : List (Option ℕ)) (more : ℕ) : Type 0 where
    count : without_id place after.names ≡ without_id place before.names + more
    told : List Told
    triples : after.triples ≡ before.triples ++ triples_told told
    have_slots : HaveTheirSlots place numbers told

  -- the same within a subject, whose slot stays
  record Steps (before after : OpenSubject) (numbers : List (Option ℕ)) (more : ℕ) : Type 0 where
    tells : Tells before.found after.found numbers more
    slot : after.slot ≡ before.slot

  tells_nothing : (before after : Found) → without_id place after.names ≡ without_id place before.names → after.triples ≡ before.triples → Tells before after [] 0
  tells_nothing before after names triples = record { count = omega arith; told = []; triples = triples ∙ sym (append-nil before.triples); have_slots = tt }

  tells_on : (first second third : Found) (ones others : List (Option ℕ)) (m n : ℕ) → Tells first second ones m → Tells second third others n
      → Tells first third (ones ++ others) (m + n)
  tells_on first second third ones others m n one two =
      let a = one.count in
      let b = two.count in
      record {
        count = omega arith;
        told = one.told ++ two.told;
        triples = two.triples ∙ ap (λ (l : List PatternTriple). l ++ triples_told two.told) one.triples
            ∙ append_assoc first.triples (triples_told one.told) (triples_told two.told)
            ∙ ap (λ (l : List PatternTriple). first.triples ++ l) (sym (told_append one.told two.told));
        have_slots = slots_append place ones others one.told two.told one.have_slots two.have_slots;
      }

  -- the numbers of what comes next are those behind
  tells_then : (first second third : Found) (ones : List (Option ℕ)) (others : ℕ → List (Option ℕ)) (m n : ℕ) → Tells first second ones m
      → Tells second third (others (without_id place second.names)) n → Tells first third (ones ++ others (without_id place first.names + m)) (m + n)
  tells_then first second third ones others m n one two =
      tells_on first second third ones (others (without_id place first.names + m)) m n one
      (subst (λ (k : ℕ). Tells second third (others k) n) one.count two)

  steps_then : (first second third : OpenSubject) (ones : List (Option ℕ)) (others : ℕ → List (Option ℕ)) (m n : ℕ) → Steps first second ones m
      → Steps second third (others (without_id place second.found.names)) n → Steps first third (ones ++ others (without_id place first.found.names + m)) (m + n)
  steps_then first second third ones others m n one two = record {
    tells = tells_then first.found second.found third.found ones others m n one.tells two.tells;
    slot = two.slot ∙ one.slot;
  }

  stays : (so_far : OpenSubject) → Steps so_far so_far [] 0
  stays so_far = record { tells = tells_nothing so_far.found so_far.found refl refl; slot = refl }

  puts : (so_far : OpenSubject) (property slot : Slot) → Steps so_far (with_object so_far property slot) [] 0
  puts so_far property slot = record { tells = tells_nothing so_far.found so_far.found refl refl; slot = refl }

  meets : (so_far : OpenSubject) (property : Slot) (met : NamesValue × Slot) → without_id place met.0 ≡ without_id place so_far.found.names
      → Steps so_far (object_met so_far property met) [] 0
  meets so_far property met names = record { tells = tells_nothing so_far.found (with_names so_far met.0).found names refl; slot = refl }

  text_same : (names : NamesValue) (text : List ℕ) (other : Result Slot JsonFault) (met : NamesValue × Slot) → slot_of names text other ≡ Ok met
      → without_id place met.0 ≡ without_id place names
  text_same names text other met reads =
      either_is (without_id place met.0 ≡ without_id place names) (is_variable text) _ _ met reads
      (λ h. let behind = met_behind names text met h in by_place place names met.0 behind.hidden behind.fresh)
      (λ h. made_is (λ (m : NamesValue × Slot). without_id place m.0 ≡ without_id place names) other (λ slot. (names, slot)) met h (λ slot is. refl))

  -- ---- where a subject begins and ends

  record Begins (members : Members) (found : Found) (subject : OpenSubject) : Type 0 where
    count : without_id place subject.found.names ≡ without_id place found.names + one_missing members
    triples : subject.found.triples ≡ found.triples
    slot : IsItsSlot place (own_number (without_id place found.names) members) subject.slot

  begins_with : (members : Members) (found : Found) (subject : OpenSubject) (has : Bool) → has_member (codes "@id") members ≡ has
      → without_id place subject.found.names ≡ without_id place found.names + (if has then 0 else 1) → subject.found.triples ≡ found.triples
      → IsItsSlot place (if has then None else Some (without_id place found.names)) subject.slot → Begins members found subject
  begins_with parts found subject has is count triples slot = record {
    count = subst (λ (b : Bool). without_id place subject.found.names ≡ without_id place found.names + (if b then 0 else 1)) (sym is) count;
    triples = triples;
    slot = subst (λ (b : Bool). IsItsSlot place (if b then None else Some (without_id place found.names)) subject.slot) (sym is) slot;
  }

  begun_own : (members : Members) (found : Found) (subject : OpenSubject) → begun place members found ≡ Ok subject → Begins members found subject
  begun_own members found subject reads =
      either_so (Begins members found subject) (has_member (codes "@id") members) _ _ subject reads
      (λ is h. subst (Begins members found) (ok_same (record { found = found; slot = None; properties = [] }) subject h)
      (begins_with members found (record { found = found; slot = None; properties = [] }) true is (omega arith) refl tt))
      (λ is h. made_is (Begins members found) (meet_subject place found.names) _ subject h
      (λ met more. let one = one_more place found.names met more in
      begins_with members found (record { found = record found { names = met.0 }; slot = Some met.1; properties = [] }) false is one.count refl (ap Some one.slot)))

  entered_own : (members : Members) (found : Found) (subject : OpenSubject) → entered place members found ≡ Ok subject → Begins members found subject
  entered_own members found subject reads =
      followed_is (Begins members found subject) (begun place members found) (without_context members) subject reads
      (λ begins is next. either_is (Begins members found subject) (has_member (codes "@context") members) _ _ subject next
      (λ h. absurd (no_fault subject (faults.Unsupported (codes "@context")) h))
      (λ h. subst (Begins members found) (ok_same begins subject h) (begun_own members found begins is)))

  -- its members are read
  record Reads (members : Members) (before after : OpenSubject) : Type 0 where
    tells : Tells before.found after.found (numbers_under (without_id place before.found.names) members) (missing_under members)
    with_id : IsNotFresh before.slot → IsNotFresh after.slot
    lacking : has_member (codes "@id") members ≡ false → after.slot ≡ before.slot

  slot_read : (members : Members) (next : ℕ) (before after : Option Slot) (has : Bool) → has_member (codes "@id") members ≡ has
      → (IsNotFresh before → IsNotFresh after) → (has_member (codes "@id") members ≡ false → after ≡ before)
      → IsItsSlot place (if has then None else Some next) before → IsItsSlot place (if has then None else Some next) after
  slot_read parts next before after true is with_id lacking own = with_id own
  slot_read parts next before after false is with_id lacking own = lacking is ∙ own

  ends : (members : Members) (found : Found) (begins subject : OpenSubject) → Begins members found begins → Reads members begins subject
      → Tells found (ended subject) (numbers_under (without_id place found.names + one_missing members) members ++ own_number (without_id place found.names) members ∷ [])
      (one_missing members + missing_under members)
  ends members found begins subject first reads =
      let next = without_id place found.names in
      let last : Told = record { subject = subject.slot; properties = subject.properties } in
      let about = triples_about subject.slot subject.properties in
      let inside = reads.tells in
      let a = first.count in
      let b = inside.count in
      record {
        count = omega arith;
        told = inside.told ++ last ∷ [];
        triples = ap (λ (l : List PatternTriple). l ++ about) (inside.triples ∙ ap (λ (l : List PatternTriple). l ++ triples_told inside.told) first.triples)
            ∙ append_assoc found.triples (triples_told inside.told) about
            ∙ ap (λ (l : List PatternTriple). found.triples ++ l)
            (sym (told_append inside.told (last ∷ []) ∙ ap (λ (l : List PatternTriple). triples_told inside.told ++ l) (append-nil about)));
        have_slots = slots_append place (numbers_under (next + one_missing members) members) (own_number next members ∷ []) inside.told (last ∷ [])
            (subst (λ (k : ℕ). HaveTheirSlots place (numbers_under k members) inside.told) first.count inside.have_slots)
            (slot_read members next begins.slot subject.slot (has_member (codes "@id") members) refl reads.with_id reads.lacking first.slot, tt);
      }

  linked_found : (property : Slot) (slot : Option Slot) (outer : OpenSubject) → (linked_to property slot outer).found ≡ outer.found
  linked_found property None outer = refl
  linked_found property (Some subject) outer = refl

  linked_slot : (property : Slot) (slot : Option Slot) (outer : OpenSubject) → (linked_to property slot outer).slot ≡ outer.slot
  linked_slot property None outer = refl
  linked_slot property (Some subject) outer = refl

  links : (outer inner : OpenSubject) (property : Slot) (numbers : List (Option ℕ)) (more : ℕ) → Tells outer.found (ended inner) numbers more
      → Steps outer (linked outer property inner) numbers more
  links outer inner property numbers more tells =
      let now : OpenSubject = record outer { found = ended inner } in
      record {
        tells = subst (λ (f : Found). Tells outer.found f numbers more) (sym (linked_found property inner.slot now)) tells;
        slot = linked_slot property inner.slot now;
      }

module _ (context : ContextValue) (place : Place) where
  -- ---- types and plain values

  -- a value was read from here
  abbrev Follows : Data → OpenSubject → OpenSubject → Type 0
  Follows value so_far after = Steps place so_far after (numbers_in (without_id place so_far.found.names) value) (missing_in value)

  type_own : (value : Data) (so_far after : OpenSubject) → read_type context value so_far ≡ Ok after → Follows value so_far after
  type_own (string text) so_far after reads =
      made_is (λ (a : OpenSubject). Steps place so_far a [] 0) (slot_of so_far.found.names text (made_of (expand_key context text) iri_slot))
      (object_met so_far (iri_slot rdf_type)) after reads
      (λ met is. meets place so_far (iri_slot rdf_type) met (text_same place so_far.found.names text (made_of (expand_key context text) iri_slot) met is))
  type_own null so_far after reads = absurd (no_fault after (faults.BadSubject (codes "@type")) reads)
  type_own (boolean value) so_far after reads = absurd (no_fault after (faults.BadSubject (codes "@type")) reads)
  type_own (number value) so_far after reads = absurd (no_fault after (faults.BadSubject (codes "@type")) reads)
  type_own (array items) so_far after reads = absurd (no_fault after (faults.BadSubject (codes "@type")) reads)
  type_own (object _) so_far after reads = absurd (no_fault after (faults.BadSubject (codes "@type")) reads)

  each_type_own : (items : Items) (so_far after : OpenSubject) → read_each_type context items so_far ≡ Ok after → Follows (array items) so_far after
  each_type_own no_items so_far after reads = subst (λ (a : OpenSubject). Steps place so_far a [] 0) (ok_same so_far after reads) (stays place so_far)
  each_type_own (item value rest) so_far after reads =
      followed_is (Follows (array (item value rest)) so_far after) (read_type context value so_far) (read_each_type context rest) after reads
      (λ mid is next. steps_then place so_far mid after (numbers_in (without_id place so_far.found.names) value) (λ (k : ℕ). numbers_among k rest) (missing_in value) (missing_among rest)
      (type_own value so_far mid is) (each_type_own rest mid after next))

  types_own : (value : Data) (so_far after : OpenSubject) → read_types context value so_far ≡ Ok after → Follows value so_far after
  types_own (array items) so_far after reads = each_type_own items so_far after reads
  types_own null so_far after reads = type_own null so_far after reads
  types_own (boolean value) so_far after reads = type_own (boolean value) so_far after reads
  types_own (number value) so_far after reads = type_own (number value) so_far after reads
  types_own (string text) so_far after reads = type_own (string text) so_far after reads
  types_own (object members) so_far after reads = type_own (object members) so_far after reads

  plain_own : (key : List ℕ) (kind : Option TermType) (property : Slot) (value : Data) (so_far after : OpenSubject)
      → read_plain context key kind property value so_far ≡ Ok after → Follows value so_far after
  plain_own key kind property null so_far after reads = subst (λ (a : OpenSubject). Steps place so_far a [] 0) (ok_same so_far after reads) (stays place so_far)
  plain_own key kind property (boolean value) so_far after reads =
      subst (λ (a : OpenSubject). Steps place so_far a [] 0) (ok_same _ after reads) (puts place so_far property (boolean_object kind value))
  plain_own key kind property (number value) so_far after reads =
      made_is (λ (a : OpenSubject). Steps place so_far a [] 0) (number_object key kind value) (with_object so_far property) after reads
      (λ slot h. puts place so_far property slot)
  plain_own key kind property (string text) so_far after reads =
      made_is (λ (a : OpenSubject). Steps place so_far a [] 0) (slot_of so_far.found.names text (string_object context key kind text)) (object_met so_far property) after reads
      (λ met h. meets place so_far property met (text_same place so_far.found.names text (string_object context key kind text) met h))
  plain_own key kind property (array items) so_far after reads = absurd (no_fault after (faults.Unsupported key) reads)
  plain_own key kind property (object _) so_far after reads = absurd (no_fault after (faults.Unsupported key) reads)

  -- ---- subjects within

  -- what reading members does
  abbrev MembersRead : Members → Type 0
  MembersRead members = (so_far after : OpenSubject) → read_members context place members so_far ≡ Ok after → Reads place members so_far after

  subject_own : (members : Members) (found : Found) (subject : OpenSubject) → MembersRead members
      → followed_by (entered place members found) (read_members context place members) ≡ Ok subject
      → Tells place found (ended subject) (numbers_under (without_id place found.names + one_missing members) members ++ own_number (without_id place found.names) members ∷ [])
      (one_missing members + missing_under members)
  subject_own members found subject inside reads =
      followed_is (Tells place found (ended subject) (numbers_under (without_id place found.names + one_missing members) members ++ own_number (without_id place found.names) members ∷ [])
      (one_missing members + missing_under members)) (entered place members found) (read_members context place members) subject reads
      (λ begins is next. ends place members found begins subject (entered_own place members found begins is) (inside begins subject next))

  object_own : (members : Members) (property : Slot) (so_far after : OpenSubject) → MembersRead members
      → read_object context place property members so_far ≡ Ok after → Follows (object members) so_far after
  object_own members property so_far after inside reads =
      let next = without_id place so_far.found.names in
      let numbers = numbers_under (next + one_missing members) members ++ own_number next members ∷ [] in
      let more = one_missing members + missing_under members in
      either_so (Follows (object members) so_far after) (is_value_object members) _ _ after reads
      (λ is h. subst (λ (b : Bool). Steps place so_far after (if b then [] else numbers) (if b then 0 else more)) (sym is)
      (made_is (λ (a : OpenSubject). Steps place so_far a [] 0) (value_object context members) (with_object so_far property) after h
      (λ slot g. puts place so_far property slot)))
      (λ is h. subst (λ (b : Bool). Steps place so_far after (if b then [] else numbers) (if b then 0 else more)) (sym is)
      (made_is (λ (a : OpenSubject). Steps place so_far a numbers more) (followed_by (entered place members so_far.found) (read_members context place members)) (linked so_far property) after h
      (λ inner g. links place so_far inner property numbers more (subject_own members so_far.found inner inside g))))

  -- ---- members

  -- a member was read
  record MemberReads (key : List ℕ) (value : Data) (before after : OpenSubject) : Type 0 where
    tells : Tells place before.found after.found (numbers_in (without_id place before.found.names) value) (missing_in value)
    with_id : IsNotFresh before.slot → IsNotFresh after.slot
    lacking : is_id_key key ≡ false → after.slot ≡ before.slot

  by_steps : (key : List ℕ) (value : Data) (before after : OpenSubject) → Follows value before after → MemberReads key value before after
  by_steps key value before after steps = record {
    tells = steps.tells;
    with_id = λ is. subst IsNotFresh (sym steps.slot) is;
    lacking = λ h. steps.slot;
  }

  id_own : (key : List ℕ) (value : Data) (so_far after : OpenSubject) → is_id_key key ≡ true → read_id context value so_far ≡ Ok after → MemberReads key value so_far after
  id_own key (string text) so_far after is reads =
      made_is (MemberReads key (string text) so_far) (slot_of so_far.found.names text (made_of (expand_id context text) iri_slot)) _ after reads
      (λ met h. record {
        tells = tells_nothing place so_far.found (with_names so_far met.0).found
            (text_same place so_far.found.names text (made_of (expand_id context text) iri_slot) met h) refl;
        with_id = λ other. text_not_fresh so_far.found.names text (expand_id context text) met h;
        lacking = λ other. absurd (true≢false (sym is ∙ other));
      })
  id_own key null so_far after is reads = absurd (no_fault after (faults.BadSubject (codes "@id")) reads)
  id_own key (boolean value) so_far after is reads = absurd (no_fault after (faults.BadSubject (codes "@id")) reads)
  id_own key (number value) so_far after is reads = absurd (no_fault after (faults.BadSubject (codes "@id")) reads)
  id_own key (array items) so_far after is reads = absurd (no_fault after (faults.BadSubject (codes "@id")) reads)
  id_own key (object _) so_far after is reads = absurd (no_fault after (faults.BadSubject (codes "@id")) reads)

  -- behind a property that was met
  behind_property : (value : Data) (so_far after : OpenSubject) (met : NamesValue × Slot) → without_id place met.0 ≡ without_id place so_far.found.names
      → Follows value (with_names so_far met.0) after → Follows value so_far after
  behind_property value so_far after met names steps =
      let a = steps.tells.count in
      record {
        tells = record {
          count = omega arith;
          told = steps.tells.told;
          triples = steps.tells.triples;
          have_slots = subst (λ (k : ℕ). HaveTheirSlots place (numbers_in k value) steps.tells.told) names steps.tells.have_slots;
        };
        slot = steps.slot;
      }

  member_own : (key : List ℕ) (value : Data) (so_far after : OpenSubject)
      → ((kind : Option TermType) (property : Slot) (mid : OpenSubject) → read_values context place key value kind property mid ≡ Ok after → Follows value mid after)
      → read_member context place key value so_far ≡ Ok after → MemberReads key value so_far after
  member_own key value so_far after inside reads =
      either_so (MemberReads key value so_far after) (is_id_key key) _ _ after reads (λ is h. id_own key value so_far after is h)
      (λ is h. either_is (MemberReads key value so_far after) (is_type_key key) _ _ after h (λ g. by_steps key value so_far after (types_own value so_far after g))
      (λ g. either_is (MemberReads key value so_far after) (begins_as_keyword key) _ _ after g (λ f. absurd (no_fault after (faults.Unsupported key) f))
      (λ f. followed_is (MemberReads key value so_far after) (property_of context key so_far.found.names) _ after f
      (λ met found next. by_steps key value so_far after
      (behind_property value so_far after met (text_same place so_far.found.names key (made_of (expand_key context key) iri_slot) met found)
      (inside (type_of context.terms key) met.1 (with_names so_far met.0) next))))))

  mutual
    single_own : (key : List ℕ) (kind : Option TermType) (property : Slot) (value : Data) (so_far after : OpenSubject)
        → read_single context place key kind property value so_far ≡ Ok after → Follows value so_far after
    single_own key kind property (object members) so_far after reads = object_own members property so_far after (members_own members) reads
    single_own key kind property null so_far after reads = plain_own key kind property null so_far after reads
    single_own key kind property (boolean value) so_far after reads = plain_own key kind property (boolean value) so_far after reads
    single_own key kind property (number value) so_far after reads = plain_own key kind property (number value) so_far after reads
    single_own key kind property (string text) so_far after reads = plain_own key kind property (string text) so_far after reads
    single_own key kind property (array items) so_far after reads = plain_own key kind property (array items) so_far after reads

    each_own : (key : List ℕ) (kind : Option TermType) (property : Slot) (items : Items) (so_far after : OpenSubject)
        → read_each context place key kind property items so_far ≡ Ok after → Follows (array items) so_far after
    each_own key kind property no_items so_far after reads = subst (λ (a : OpenSubject). Steps place so_far a [] 0) (ok_same so_far after reads) (stays place so_far)
    each_own key kind property (item value rest) so_far after reads =
        followed_is (Follows (array (item value rest)) so_far after) (read_single context place key kind property value so_far) (read_each context place key kind property rest) after reads
        (λ mid one next. steps_then place so_far mid after (numbers_in (without_id place so_far.found.names) value) (λ (k : ℕ). numbers_among k rest) (missing_in value) (missing_among rest)
        (single_own key kind property value so_far mid one) (each_own key kind property rest mid after next))

    values_own : (key : List ℕ) (value : Data) (kind : Option TermType) (property : Slot) (so_far after : OpenSubject)
        → read_values context place key value kind property so_far ≡ Ok after → Follows value so_far after
    values_own key (array items) kind property so_far after reads = each_own key kind property items so_far after reads
    values_own key (object members) kind property so_far after reads = object_own members property so_far after (members_own members) reads
    values_own key null kind property so_far after reads = plain_own key kind property null so_far after reads
    values_own key (boolean value) kind property so_far after reads = plain_own key kind property (boolean value) so_far after reads
    values_own key (number value) kind property so_far after reads = plain_own key kind property (number value) so_far after reads
    values_own key (string text) kind property so_far after reads = plain_own key kind property (string text) so_far after reads

    members_own : (members : Members) (so_far after : OpenSubject) → read_members context place members so_far ≡ Ok after → Reads place members so_far after
    members_own no_members so_far after reads =
        subst (Reads place no_members so_far) (ok_same so_far after reads)
        (record { tells = tells_nothing place so_far.found so_far.found refl refl; with_id = λ is. is; lacking = λ h. refl })
    members_own (member key value rest) so_far after reads =
        followed_is (Reads place (member key value rest) so_far after) (read_member context place key value so_far) (read_members context place rest) after reads
        (λ mid one next.
        let first = member_own key value so_far mid (λ kind property begins. values_own key value kind property begins mid) one in
        let others = members_own rest mid after next in
        record {
          tells = tells_then place so_far.found mid.found after.found (numbers_in (without_id place so_far.found.names) value) (λ (k : ℕ). numbers_under k rest) (missing_in value) (missing_under rest)
              first.tells others.tells;
          with_id = λ is. others.with_id (first.with_id is);
          lacking = λ h. let parts = lacks_id key value rest h in others.lacking parts.1 ∙ first.lacking parts.0;
        })

  -- ---- a text

  one_own : (value : Data) (found after : Found) → read_subject context place value found ≡ Ok after
      → Tells place found after (numbers_of (without_id place found.names) value) (missing_of value)
  one_own (object members) found after reads =
      made_is (λ (a : Found). Tells place found a (numbers_of (without_id place found.names) (object members)) (missing_of (object members)))
      (followed_by (entered place members found) (read_members context place members)) ended after reads
      (λ subject is. subject_own members found subject (members_own members) is)
  one_own null found after reads = absurd (no_fault after (faults.BadSubject []) reads)
  one_own (boolean value) found after reads = absurd (no_fault after (faults.BadSubject []) reads)
  one_own (number value) found after reads = absurd (no_fault after (faults.BadSubject []) reads)
  one_own (string text) found after reads = absurd (no_fault after (faults.BadSubject []) reads)
  one_own (array items) found after reads = absurd (no_fault after (faults.BadSubject []) reads)

  every_own : (items : Items) (found after : Found) → read_each_subject context place items found ≡ Ok after
      → Tells place found after (numbers_of_each (without_id place found.names) items) (missing_of_each items)
  every_own no_items found after reads = subst (λ (a : Found). Tells place found a [] 0) (ok_same found after reads) (tells_nothing place found found refl refl)
  every_own (item value rest) found after reads =
      followed_is (Tells place found after (numbers_of_each (without_id place found.names) (item value rest)) (missing_of_each (item value rest)))
      (read_subject context place value found) (read_each_subject context place rest) after reads
      (λ mid one next. tells_then place found mid after (numbers_of (without_id place found.names) value) (λ (k : ℕ). numbers_of_each k rest) (missing_of value) (missing_of_each rest)
      (one_own value found mid one) (every_own rest mid after next))

  any_own : (value : Data) (found after : Found) → read_any context place value found ≡ Ok after
      → Tells place found after (numbers_of_subjects (without_id place found.names) value) (missing_ids value)
  any_own (array items) found after reads = every_own items found after reads
  any_own null found after reads = one_own null found after reads
  any_own (boolean value) found after reads = one_own (boolean value) found after reads
  any_own (number value) found after reads = one_own (number value) found after reads
  any_own (string text) found after reads = one_own (string text) found after reads
  any_own (object members) found after reads = one_own (object members) found after reads

pub subjects_own : (context : ContextValue) (place : Place) (names : NamesValue) (value : Data) (found : Found)
    → subjects_read context place names value ≡ Ok found → HasOwnSubjects place names value found
unfolding subjects_read
subjects_own context place names value found reads =
    let tells = any_own context place value (record { names = names; triples = [] }) found reads in
    record {
      count = tells.count;
      told = tells.told;
      triples = tells.triples;
      have_slots = tells.have_slots;
      differ = own_fresh place (without_id place names) value tells.told tells.have_slots;
    }
