-- The names of the terms that members define.
use Rattle.std.proofs.Common.{◌≡◌, ℕ, List, [], ◌∷◌, ◌++◌, append-nil, map, Bool, true, false, cond, not, ◌&&◌, ◌||◌, Option, Some, None, IsTrue, string_bytes, Less, nat_cmp, refl, sym, ap, ◌∙◌, subst}
use Rattle.std.specs.Cmp.Lexicographic.{slice_cmp}
use Rattle.std.specs.List.{AllByRecursion}
use Rattle.std.specs.List.Sorted.{IsStrictlySortedBy}
use Rattle.std.specs.Map.{keys_of}
use Rattle.std.specs.Option.{option_map_or, is_some}
use Rattle.std.specs.String.{string_cmp}
use Rattle.text_rules.specs.Iri.{is_absolute}
use Rattle.serde_json.specs.Data.{Data, null, boolean, number, string, array, object, Members, no_members, member}
use Rattle.serde_json.specs.View.{view, members_view}
use Rattle.serde_json.proofs.Views.{Entry}
use Rattle.jsonld_context.specs.ContextReading.{is_base_key, is_vocabulary_key, prefix_among, meant, definition, definitions, first_fault, fault_of_iri, fault_of_string, fault_of_value, fault_of_member}
use Rattle.jsonld_context.specs.FormsFound.{IsDelimited}
use Rattle.jsonld_context.specs.Prefixes.{prefix_at}
use Rattle.text_rules.specs.TextForms.{has_colon, behind_colon, ends_in_delimiter, is_term_name}
use Rattle.jsonld_context.specs.declared.definitions.Definition.{Definition}
use Rattle.jsonld_context.specs.declared.faults.JsonFault.{JsonFault}
use Rattle.jsonld_context.specs.declared.faults.JsonFault.TheVariants as faults
use Rattle.jsonld_context.proofs.FirstFaults.{none_first}

abbrev is_keyword : List ℕ → Bool
is_keyword key = is_base_key key || is_vocabulary_key key

abbrev pub AreTerms : List Definition → Type 0
AreTerms terms = AllByRecursion (λ term. IsTrue (is_term_name term.name)) terms

abbrev pub names : List Definition → List (List ℕ)
names terms = map (λ term. term.name) terms

module _ (vocabulary : List ℕ) (all : Members) where
  -- a term is named by its key
  pub is_named : (key : List ℕ) (value : Data) → (definition vocabulary all key value).name ≡ key
  is_named key null = refl
  is_named key (boolean b) = refl
  is_named key (number n) = refl
  is_named key (string text) = refl
  is_named key (array items) = refl
  is_named key (object parts) = refl

  term_at : (keyword term : Bool) (one other : Option JsonFault) (fault : JsonFault) → keyword ≡ false
      → cond keyword one (cond term other (Some fault)) ≡ None → term ≡ true
  term_at keyword true one other fault off none = refl
  term_at true false one other fault off none = cc
  term_at false false one other fault off none = cc

  terms_at : (keyword : Bool) (key : List ℕ) (value : Data) (rest : List Definition) → (keyword ≡ false → is_term_name key ≡ true) → AreTerms rest
      → AreTerms (cond keyword rest (definition vocabulary all key value ∷ rest))
  terms_at true key value rest is good = good
  terms_at false key value rest is good = (subst (λ (name : List ℕ). IsTrue (is_term_name name)) (sym (is_named key value)) (is refl), good)

  -- where there is no fault, these are terms
  pub are_terms : (rest : Members) → first_fault (fault_of_member (Some vocabulary) all) rest ≡ None → AreTerms (definitions vocabulary all rest)
  are_terms no_members none = tt
  are_terms (member key value rest) none =
      let parts = none_first (fault_of_member (Some vocabulary) all) key value rest none in
      terms_at (is_keyword key) key value (definitions vocabulary all rest) (λ off. term_at (is_keyword key) (is_term_name key) _ _ _ off parts.0) (are_terms rest parts.1)

  -- the IRI of a string that makes its term a prefix is the string, where it has no fault
  string_at_prefix : (ends colon : Bool) (text : List ℕ) (found : Option (List ℕ)) (term : List ℕ) → ends ≡ true
      → cond (colon && not (ends && is_some found)) (fault_of_iri text (option_map_or (λ iri. iri ++ behind_colon text) found text)) (Some (faults.BadContext term)) ≡ None
      → option_map_or (λ iri. iri ++ behind_colon text) found text ≡ text
  string_at_prefix ends colon text None term on none = refl
  string_at_prefix true true text (Some iri) term on none = cc none
  string_at_prefix true false text (Some iri) term on none = cc none
  string_at_prefix false colon text (Some iri) term on none = cc on

  delimited_string : (key text : List ℕ) (absolute ends : Bool) → ends ≡ ends_in_delimiter text → fault_of_string all key text ≡ None
      → IsTrue (not (absolute && ends) || ends_in_delimiter (meant all text))
  delimited_string key text false ends is none = refl
  delimited_string key text true false is none = refl
  delimited_string key text true true is none =
      let whole = string_at_prefix (ends_in_delimiter text) (has_colon text) text (prefix_at (prefix_among all) text) key (sym is) none in
      subst (λ (iri : List ℕ). IsTrue (ends_in_delimiter iri)) (sym whole) (sym is)

  is_delimited : (key : List ℕ) (value : Data) → fault_of_value (Some vocabulary) all key value ≡ None → IsDelimited (definition vocabulary all key value)
  is_delimited key null none = refl
  is_delimited key (boolean b) none = refl
  is_delimited key (number n) none = refl
  is_delimited key (string text) none = delimited_string key text (is_absolute text) (ends_in_delimiter text) refl none
  is_delimited key (array items) none = refl
  is_delimited key (object parts) none = refl

  value_at : (keyword term : Bool) (one other : Option JsonFault) (fault : JsonFault) → keyword ≡ false
      → cond keyword one (cond term other (Some fault)) ≡ None → other ≡ None
  value_at true term one other fault off none = cc off
  value_at false true one other fault off none = none
  value_at false false one other fault off none = cc none

  delimited_at : (keyword : Bool) (key : List ℕ) (value : Data) (rest : List Definition)
      → (keyword ≡ false → IsDelimited (definition vocabulary all key value)) → AllByRecursion IsDelimited rest
      → AllByRecursion IsDelimited (cond keyword rest (definition vocabulary all key value ∷ rest))
  delimited_at true key value rest is good = good
  delimited_at false key value rest is good = (is refl, good)

  -- the IRIs of prefixes end as they have to
  pub are_delimited : (rest : Members) → first_fault (fault_of_member (Some vocabulary) all) rest ≡ None → AllByRecursion IsDelimited (definitions vocabulary all rest)
  are_delimited no_members none = tt
  are_delimited (member key value rest) none =
      let parts = none_first (fault_of_member (Some vocabulary) all) key value rest none in
      delimited_at (is_keyword key) key value (definitions vocabulary all rest)
      (λ off. is_delimited key value (value_at (is_keyword key) (is_term_name key) _ _ _ off parts.0)) (are_delimited rest parts.1)

  AreBelow : List ℕ → List Definition → Type 0
  AreBelow first terms = AllByRecursion (λ name. slice_cmp nat_cmp first name ≡ Less) (names terms)

  below_at : (keyword : Bool) (first key : List ℕ) (value : Data) (rest : List Definition) → slice_cmp nat_cmp first key ≡ Less
      → AllByRecursion (λ name. slice_cmp nat_cmp first name ≡ Less) (names rest)
      → AllByRecursion (λ name. slice_cmp nat_cmp first name ≡ Less) (names (cond keyword rest (definition vocabulary all key value ∷ rest)))
  below_at true first key value rest here later = later
  below_at false first key value rest here later =
      (subst (λ (name : List ℕ). slice_cmp nat_cmp first name ≡ Less) (sym (is_named key value)) here, later)

  below : (first : List ℕ) (entries : List Entry) → AllByRecursion (λ key. slice_cmp nat_cmp first (string_bytes key) ≡ Less) (keys_of entries)
      → AllByRecursion (λ name. slice_cmp nat_cmp first name ≡ Less) (names (definitions vocabulary all (members_view entries)))
  below first [] h = tt
  below first (e ∷ entries) h =
      below_at (is_keyword (string_bytes e.0)) first (string_bytes e.0) (view e.1) (definitions vocabulary all (members_view entries)) h.0 (below first entries h.1)

  ascending_at : (keyword : Bool) (key : List ℕ) (value : Data) (rest : List Definition) → AllByRecursion (λ name. slice_cmp nat_cmp key name ≡ Less) (names rest)
      → IsStrictlySortedBy (slice_cmp nat_cmp) (names rest)
      → IsStrictlySortedBy (slice_cmp nat_cmp) (names (cond keyword rest (definition vocabulary all key value ∷ rest)))
  unfolding IsStrictlySortedBy
  ascending_at true key value rest first later = later
  ascending_at false key value rest first later =
      (subst (λ (name : List ℕ). AllByRecursion (λ other. slice_cmp nat_cmp name other ≡ Less) (names rest)) (sym (is_named key value)) first, later)

  -- they stand in the order of the members' keys
  pub are_ascending : (entries : List Entry) → IsStrictlySortedBy string_cmp (keys_of entries)
      → IsStrictlySortedBy (slice_cmp nat_cmp) (names (definitions vocabulary all (members_view entries)))
  unfolding IsStrictlySortedBy
  are_ascending [] h = tt
  are_ascending (e ∷ entries) h =
      ascending_at (is_keyword (string_bytes e.0)) (string_bytes e.0) (view e.1) (definitions vocabulary all (members_view entries))
      (below (string_bytes e.0) entries h.0) (are_ascending entries h.1)

  -- at the end of the members
  pub ended : (terms : List Definition) (left : List Entry) → left ≡ []
      → first_fault (fault_of_member (Some vocabulary) all) all ≡ first_fault (fault_of_member (Some vocabulary) all) (members_view left)
      → definitions vocabulary all all ≡ terms ++ definitions vocabulary all (members_view left)
      → (first_fault (fault_of_member (Some vocabulary) all) all ≡ None) × (definitions vocabulary all all ≡ terms)
  ended terms left none faults said = (
    faults ∙ ap (λ entries. first_fault (fault_of_member (Some vocabulary) all) (members_view entries)) none,
    said ∙ (ap (λ entries. terms ++ definitions vocabulary all (members_view entries)) none ∙ append-nil terms),
  )
