-- Compacted keys and ids: none has the form of a keyword or of a variable, and no key has a type.
use Rattle.std.proofs.Common.{◌≡◌, ◌∙◌, ℕ, List, [], ◌∷◌, ◌++◌, Bool, true, false, cond, not, ◌&&◌, ◌==◌, Option, Some, None, Ok, Err, IsTrue, nat_le, length, refl, ap, subst, arith}
use Rattle.std.specs.List.{AllByRecursion, find, filter_map, cons_option, list_all, list_any}
use Rattle.std.specs.Option.{option_and_then, is_none}
use Rattle.std.proofs.lemmas.Bool.{and_parts, and_left, or_from, not-true, false_from_ne_true, both_ways}
use Rattle.std.proofs.lemmas.Bool.Decides.{nat_tests}
use Rattle.text_rules.specs.Iri.{is_letter, has_scheme, ends_scheme, is_excluded, is_iri, is_absolute, iri_limit}
use Rattle.text_rules.specs.References.{is_colon, is_slash}
use Rattle.text_rules.specs.Resolution.{is_empty, resolved}
use Rattle.rdf_terms.specs.Literal.{is_same}
use Rattle.jsonld_context.specs.ShortForms.{rest_behind, if_passes, term_for, plain_key, plain_id, is_rest, compact_by, compact_key, compact_id, least_compact, key_form, id_form}
use Rattle.jsonld_context.specs.Context.{ContextValue, IsContext, find_term, prefix_iri, type_of}
use Rattle.jsonld_context.specs.Expanding.{expand_key, expand_id, key_meant, key_iri}
use Rattle.jsonld_context.specs.Texts.{has_colon, begins_as_keyword, is_name_byte, is_name, is_variable, is_term_name, is_plain_letter, is_plain, plain_end}
use Rattle.jsonld_context.specs.declared.definitions.Definition.{Definition}
use Rattle.jsonld_context.specs.declared.definitions.TermType.{TermType}
use Rattle.jsonld_context.specs.declared.faults.JsonFault.TheVariants as faults
use Rattle.jsonld_context.proofs.GivenBack.{mapped, followed, passing, pick, found_has, no_term, IsFoundIn, all_found, least_has, keys_given_back, ids_given_back}
use Rattle.jsonld_context.proofs.TermNames.{AreTerms}
use Rattle.jsonld_context.proofs.TextLaws.{joined_colon, absolute_colon}
use Rattle.jsonld_subjects.specs.GivingBack.{IsGivenBack}

-- ---- forms of texts

-- a text in the form neither of a keyword nor of a variable
pub record IsBare (text : List ℕ) : Type 0 where
  pub keyword : begins_as_keyword text ≡ false
  pub variable : is_variable text ≡ false

not_colon : (byte : ℕ) → is_name_byte byte ≡ true → is_colon byte ≡ false
not_colon byte h = grind (arith, nat_tests)

letter_no_colon : (byte : ℕ) → is_letter byte ≡ true → is_colon byte ≡ false
letter_no_colon byte h = grind (arith, nat_tests)

mark_no_colon : (byte : ℕ) → (byte == 63) ≡ true → is_colon byte ≡ false
mark_no_colon byte h = grind (arith, nat_tests)

names_no_colon : (bytes : List ℕ) → list_all is_name_byte bytes ≡ true → has_colon bytes ≡ false
names_no_colon [] h = refl
names_no_colon (byte ∷ bytes) h =
    let parts = and_parts (is_name_byte byte) (list_all is_name_byte bytes) h in
    or_from (is_colon byte) (has_colon bytes) (not_colon byte parts.0) (names_no_colon bytes parts.1)

name_no_colon : (text : List ℕ) → is_name text ≡ true → has_colon text ≡ false
name_no_colon [] h = refl
name_no_colon (byte ∷ bytes) h =
    let parts = and_parts (is_letter byte) (list_all is_name_byte bytes) h in
    or_from (is_colon byte) (has_colon bytes) (letter_no_colon byte parts.0) (names_no_colon bytes parts.1)

variable_no_colon : (text : List ℕ) → is_variable text ≡ true → has_colon text ≡ false
variable_no_colon [] h = refl
variable_no_colon (byte ∷ bytes) h =
    let parts = and_parts (byte == 63) (is_name bytes) h in
    or_from (is_colon byte) (has_colon bytes) (mark_no_colon byte parts.0) (name_no_colon bytes parts.1)

-- a text with a colon is no variable
colon_no_variable : (text : List ℕ) → has_colon text ≡ true → is_variable text ≡ false
colon_no_variable text colon = false_from_ne_true (is_variable text) (λ h. both_ways (has_colon text) (variable_no_colon text h) colon)

plain_no_at : (byte : ℕ) → is_plain_letter byte ≡ true → (byte == 64) ≡ false
plain_no_at byte h = grind (arith, nat_tests)

plain_no_mark : (byte : ℕ) → is_plain_letter byte ≡ true → (byte == 63) ≡ false
plain_no_mark byte h = grind (arith, nat_tests)

letter_no_at : (byte : ℕ) → is_letter byte ≡ true → (byte == 64) ≡ false
letter_no_at byte h = grind (arith, nat_tests)

plain_bare : (text : List ℕ) → is_plain text ≡ true → IsBare text
plain_bare [] h = record { keyword = refl; variable = refl }
plain_bare (byte ∷ bytes) h =
    let parts = and_parts (is_plain_letter byte) (list_all is_plain_letter bytes) h in
    record { keyword = plain_no_at byte parts.0; variable = and_left (byte == 63) (is_name bytes) (plain_no_mark byte parts.0) }

scheme_no_keyword : (text : List ℕ) → has_scheme text ≡ true → begins_as_keyword text ≡ false
scheme_no_keyword [] h = refl
scheme_no_keyword (byte ∷ bytes) h = letter_no_at byte (and_parts (is_letter byte) (ends_scheme bytes) h).0

absolute_no_keyword : (iri : List ℕ) → IsTrue (is_absolute iri) → begins_as_keyword iri ≡ false
unfolding is_iri
absolute_no_keyword iri h =
    let parts = and_parts (nat_le (length iri) iri_limit) (has_scheme iri && list_all (λ byte. not (is_excluded byte)) iri) h in
    scheme_no_keyword iri (and_parts (has_scheme iri) (list_all (λ byte. not (is_excluded byte)) iri) parts.1).0

-- the name of a term
term_bare : (name : List ℕ) → is_term_name name ≡ true → IsBare name
unfolding is_term_name
term_bare name h =
    let a = and_parts (not (is_empty name) && not (has_colon name) && not (list_any is_slash name) && not (begins_as_keyword name)) (not (is_variable name)) h in
    let b = and_parts (not (is_empty name) && not (has_colon name) && not (list_any is_slash name)) (not (begins_as_keyword name)) a.0 in
    record { keyword = not-true (begins_as_keyword name) b.1; variable = not-true (is_variable name) a.1 }

joined_no_keyword : (name rest : List ℕ) → begins_as_keyword name ≡ false → begins_as_keyword (name ++ 58 ∷ rest) ≡ false
joined_no_keyword [] rest h = refl
joined_no_keyword (byte ∷ bytes) rest h = h

-- a text that is no keyword is none of these
pub other_than : (key rest : List ℕ) → begins_as_keyword key ≡ false → is_same key (64 ∷ rest) ≡ false
other_than [] rest h = refl
other_than (byte ∷ bytes) rest h = and_left (byte == 64) (is_same bytes rest) h

-- ---- compact IRIs

-- a text with a colon that is no keyword
record IsColoned (text : List ℕ) : Type 0 where
  colon : has_colon text ≡ true
  keyword : begins_as_keyword text ≡ false

coloned_bare : (text : List ℕ) → IsColoned text → IsBare text
coloned_bare text is = record { keyword = is.keyword; variable = colon_no_variable text is.colon }

module _ (iri : List ℕ) (absolute : IsTrue (is_absolute iri)) where
  whole_coloned : IsColoned iri
  whole_coloned = record { colon = absolute_colon iri absolute; keyword = absolute_no_keyword iri absolute }

  compact_coloned : (term : Definition) → IsTrue (is_term_name term.name) → (text : List ℕ) → compact_by iri term ≡ Some text → IsColoned text
  compact_coloned term named text h =
      let made = mapped (λ rest. term.name ++ 58 ∷ rest) (option_and_then (λ front. option_and_then (if_passes is_rest) (rest_behind front iri)) (prefix_iri term)) text h in
      subst IsColoned made.2
      (record { colon = joined_colon term.name made.0; keyword = joined_no_keyword term.name made.0 (term_bare term.name named).keyword })

  with_option : (text : Option (List ℕ)) (rest : List (List ℕ)) → ((t : List ℕ) → text ≡ Some t → IsColoned t) → AllByRecursion IsColoned rest
      → AllByRecursion IsColoned (cons_option text rest)
  with_option None rest here later = later
  with_option (Some text) rest here later = (here text refl, later)

  filtered_coloned : (some : List Definition) → AreTerms some → AllByRecursion IsColoned (filter_map (compact_by iri) some)
  filtered_coloned [] named = tt
  filtered_coloned (term ∷ some) named =
      with_option (compact_by iri term) (filter_map (compact_by iri) some) (compact_coloned term named.0) (filtered_coloned some named.1)

  least_coloned : (terms : List Definition) → AreTerms terms → (text : List ℕ) → least_compact terms iri ≡ Some text → IsColoned text
  least_coloned terms are text h = least_has IsColoned (filter_map (compact_by iri) terms) text (filtered_coloned terms are) h

-- ---- keys

-- a key as a property: bare, and without a type
pub record IsKey (terms : List Definition) (text : List ℕ) : Type 0 where
  pub bare : IsBare text
  pub untyped : type_of terms text ≡ None

untyped_at : (found : Option Definition) → found ≡ None → option_and_then (λ (term : Definition). term.coercion) found ≡ None
untyped_at None h = refl
untyped_at (Some term) h = cc h

none_found : (found : Option Definition) → is_none found ≡ true → found ≡ None
none_found None h = refl
none_found (Some term) h = cc h

none_typed : (kind : Option TermType) → is_none kind ≡ true → kind ≡ None
none_typed None h = refl
none_typed (Some kind) h = cc h

coloned_key : (terms : List Definition) → AreTerms terms → (text : List ℕ) → IsColoned text → IsKey terms text
coloned_key terms are text is =
    record { bare = coloned_bare text is; untyped = untyped_at (find_term terms text) (no_term terms text are is.colon) }

-- what a term is, and that it is found by its name
record IsGoodTerm (terms : List Definition) (term : Definition) : Type 0 where
  named : IsTrue (is_term_name term.name)
  found : IsFoundIn terms term

all_good : (terms some : List Definition) → AreTerms some → AllByRecursion (IsFoundIn terms) some → AllByRecursion (IsGoodTerm terms) some
all_good terms [] named found = tt
all_good terms (term ∷ some) named found = (record { named = named.0; found = found.0 }, all_good terms some named.1 found.1)

module _ (terms : List Definition) (good : AllByRecursion (IsGoodTerm terms) terms) (iri : List ℕ) where
  term_key : (text : List ℕ) → term_for terms iri ≡ Some text → IsKey terms text
  term_key text h =
      let test = λ (term : Definition). is_none term.coercion && is_same term.iri iri in
      let made = mapped (λ (term : Definition). term.name) (find test terms) text h in
      let has = found_has (IsGoodTerm terms) test terms made.0 good made.1 in
      let kind : made.0.coercion ≡ None = none_typed made.0.coercion (and_parts (is_none made.0.coercion) (is_same made.0.iri iri) has.1).0 in
      subst (IsKey terms) made.2
      (record {
        bare = term_bare made.0.name has.0.named;
        untyped = ap (option_and_then (λ (term : Definition). term.coercion)) has.0.found ∙ kind;
      })

  plain_text_key : (vocabulary text : List ℕ) → plain_key vocabulary terms iri ≡ Some text → IsKey terms text
  plain_text_key vocabulary text h =
      let test = λ (t : List ℕ). is_plain t && is_none (find_term terms t) in
      let rested = followed (if_passes test) (rest_behind vocabulary iri) text h in
      let passed = passing test rested.0 text rested.2 in
      let tests = and_parts (is_plain rested.0) (is_none (find_term terms rested.0)) passed.0 in
      subst (IsKey terms) passed.1
      (record { bare = plain_bare rested.0 tests.0; untyped = untyped_at (find_term terms rested.0) (none_found (find_term terms rested.0) tests.1) })

key_kept : (vocabulary : List ℕ) (terms : List Definition) (iri : List ℕ) → AreTerms terms → AllByRecursion (IsGoodTerm terms) terms
    → IsTrue (is_absolute iri) → IsKey terms (key_form vocabulary terms iri)
unfolding key_form
key_kept vocabulary terms iri are good absolute =
    pick (IsKey terms) (term_for terms iri) (plain_key vocabulary terms iri) (least_compact terms iri) iri
    (term_key terms good iri) (plain_text_key terms good iri vocabulary)
    (λ text h. coloned_key terms are text (least_coloned iri absolute terms are text h)) (coloned_key terms are iri (whole_coloned iri absolute))

-- ---- ids

plain_id_bare : (base iri text : List ℕ) → plain_id base iri ≡ Some text → IsBare text
plain_id_bare base iri text h =
    let test = λ (t : List ℕ). is_plain t && is_same (resolved base t) iri in
    let passed = passing test (plain_end iri) text h in
    let tests = and_parts (is_plain (plain_end iri)) (is_same (resolved base (plain_end iri)) iri) passed.0 in
    subst IsBare passed.1 (plain_bare (plain_end iri) tests.0)

id_kept : (base : List ℕ) (terms : List Definition) (iri : List ℕ) → AreTerms terms → IsTrue (is_absolute iri) → IsBare (id_form base terms iri)
unfolding id_form
id_kept base terms iri are absolute =
    pick IsBare None (plain_id base iri) (least_compact terms iri) iri (λ text h. cc h) (plain_id_bare base iri)
    (λ text h. coloned_bare text (least_coloned iri absolute terms are text h)) (coloned_bare iri (whole_coloned iri absolute))

-- ---- under a context

meant_at : (passes : Bool) (text iri meant : List ℕ) → cond passes (Ok meant) (Err (faults.BadIri text)) ≡ Ok iri → meant ≡ iri
meant_at true text iri meant h = cc h
meant_at false text iri meant h = cc h

meant_is : (vocabulary : List ℕ) (terms : List Definition) (text iri : List ℕ) → key_iri vocabulary terms text ≡ Ok iri → key_meant vocabulary terms text ≡ iri
unfolding key_iri
meant_is vocabulary terms text iri h = meant_at (is_absolute (key_meant vocabulary terms text)) text iri (key_meant vocabulary terms text) h

-- a text that is read as a key, and stands for an IRI
pub record IsKeyOf (context : ContextValue) (iri text : List ℕ) : Type 0 where
  pub bare : IsBare text
  pub untyped : type_of context.terms text ≡ None
  pub expands : expand_key context text ≡ Ok iri
  pub meant : key_meant context.vocabulary context.terms text ≡ iri

-- one that is read as an id
pub record IsIdOf (context : ContextValue) (iri text : List ℕ) : Type 0 where
  pub bare : IsBare text
  pub expands : expand_id context text ≡ Ok iri

pub compact_is_key : (context : ContextValue) (iri : List ℕ) → IsContext context → IsGivenBack context iri → IsKeyOf context iri (compact_key context iri)
compact_is_key context iri kept back =
    let good = all_good context.terms context.terms kept.names (all_found context.terms kept.ascending) in
    let key = key_kept context.vocabulary context.terms iri kept.names good back.absolute in
    let expands = keys_given_back context iri kept back.absolute back.scheme in
    record {
      bare = key.bare;
      untyped = key.untyped;
      expands = expands;
      meant = meant_is context.vocabulary context.terms (compact_key context iri) iri expands;
    }

pub compact_is_id : (context : ContextValue) (iri : List ℕ) → IsContext context → IsGivenBack context iri → IsIdOf context iri (compact_id context iri)
compact_is_id context iri kept back =
    record { bare = id_kept context.base context.terms iri kept.names back.absolute; expands = ids_given_back context iri kept back.absolute back.scheme }
