-- What the parts of a value object say, once they are without a fault.
use Rattle.std.proofs.Common.{◌≡◌, ℕ, ◌≤◌, List, Bool, true, false, ◌||◌, not, cond, nat_le, IsTrue, length, codes, Option, None, Some, Result, Ok, Err, refl, sym, ap, subst, ◌∙◌, true≢false, leb-true}
use Rattle.std.proofs.lemmas.Slice.Eq.{bytes_eq-Decides}
use Rattle.text_rules.specs.Iri.{is_absolute}
use Rattle.text_rules.specs.Tags.{is_language_tag}
use Rattle.rdf_terms.specs.Literal.{is_same, rdf_lang_string, lexical_limit}
use Rattle.serde_json.specs.Data.{Data, string, Members}
use Rattle.serde_json.specs.Find.{get_member}
use Rattle.jsonld_context.specs.Context.{ContextValue}
use Rattle.jsonld_context.specs.ContextReading.{string_at, first_fault}
use Rattle.jsonld_context.specs.Expanding.{key_meant, key_iri, expand_key}
use Rattle.jsonld_context.specs.Texts.{is_variable}
use Rattle.jsonld_context.specs.declared.faults.JsonFault.{JsonFault}
use Rattle.jsonld_context.specs.declared.faults.JsonFault.TheVariants as faults
use Rattle.jsonld_context.proofs.FirstFaults.{none_at, none_at_string}
use Rattle.jsonld_values.specs.Literals.{xsd_double}
use Rattle.jsonld_values.specs.ValueObjects.{has_member, fault_of_datatype, fault_of_value_part, fault_of_value_object}
use Rattle.jsonld_values.proofs.KnownTypes.{double_absolute}

-- a test that finds no fault
passed : (b : Bool) (fault : JsonFault) → cond b None (Some fault) ≡ None → b ≡ true
passed true fault none = refl
passed false fault none = cc

-- no fault behind a test
behind : (b : Bool) (fault : JsonFault) (rest : Option JsonFault) → cond b (Some fault) rest ≡ None → rest ≡ None
behind true fault rest none = cc
behind false fault rest none = none

module _ (context : ContextValue) (parts : Members) (none : fault_of_value_object context parts ≡ None) where
  abbrev fault : List ℕ → Data → Option JsonFault
  fault = fault_of_value_part context parts

  no_part : first_fault fault parts ≡ None
  no_part = behind (has_member (codes "@context") parts) (faults.BadSubject (codes "@context")) (first_fault fault parts) none

  -- a language is a language tag
  pub tag_said : (tag : List ℕ) → string_at (codes "@language") parts ≡ Some tag → IsTrue (is_language_tag tag)
  tag_said tag got =
      passed (is_language_tag tag) (faults.BadSubject (codes "@language")) (none_at_string fault parts (codes "@language") tag no_part got)

  -- a type is a datatype
  pub type_said : (text : List ℕ) → string_at (codes "@type") parts ≡ Some text → fault_of_datatype (expand_key context text) ≡ None
  type_said text got =
      behind (has_member (codes "@language") parts || is_variable text) (faults.BadSubject (codes "@type")) (fault_of_datatype (expand_key context text))
      (none_at_string fault parts (codes "@type") text no_part got)

  -- a string is not too long
  pub string_said : (text : List ℕ) → get_member (codes "@value") parts ≡ Some (string text) → length text ≤ lexical_limit
  string_said text got =
      leb-true (length text) lexical_limit
      (passed (nat_le (length text) lexical_limit) (faults.BadSubject (codes "@value")) (none_at fault parts (codes "@value") (string text) no_part got))

allowed_at : (b : Bool) (fault : JsonFault) → cond b (Some fault) None ≡ None → not b ≡ true
allowed_at true fault none = cc
allowed_at false fault none = refl

-- a datatype without a fault isn't rdf:langString
pub datatype_allowed : (reading : Result (List ℕ) JsonFault) (iri : List ℕ) → fault_of_datatype reading ≡ None → reading ≡ Ok iri
    → IsTrue (not (is_same iri rdf_lang_string))
datatype_allowed (Ok other) iri none is =
    let same : other ≡ iri = cc in
    subst (λ (i : List ℕ). IsTrue (not (is_same i rdf_lang_string))) same
    (allowed_at (is_same other rdf_lang_string) (faults.BadSubject (codes "@type")) none)
datatype_allowed (Err fault) iri none is = cc

-- and has none in its reading
pub datatype_read : (reading : Result (List ℕ) JsonFault) (fault : JsonFault) → fault_of_datatype reading ≡ None → reading ≡ Err fault → ⊥
datatype_read (Ok iri) fault none is = cc
datatype_read (Err other) fault none is = cc

read_at : (absolute : Bool) (written meant iri : List ℕ) → cond absolute (Ok meant) (Err (faults.BadIri written)) ≡ Ok iri → meant ≡ iri
read_at true written meant iri is = cc
read_at false written meant iri is = cc

-- an IRI that was read is what its text means
pub key_read : (context : ContextValue) (text iri : List ℕ) → expand_key context text ≡ Ok iri → key_meant context.vocabulary context.terms text ≡ iri
unfolding key_iri
key_read context text iri is = read_at (is_absolute (key_meant context.vocabulary context.terms text)) text (key_meant context.vocabulary context.terms text) iri is

refused_at : (absolute : Bool) (written meant : List ℕ) (fault : JsonFault) → cond absolute (Ok meant) (Err (faults.BadIri written)) ≡ Err fault → absolute ≡ false
refused_at true written meant fault is = cc
refused_at false written meant fault is = refl

apart_at : (same : Bool) (iri : List ℕ) → is_same iri xsd_double ≡ same → is_absolute iri ≡ false → same ≡ false
apart_at false iri is relative = refl
apart_at true iri is relative =
    let equal : iri ≡ xsd_double = (bytes_eq-Decides iri xsd_double).0 is in
    absurd (true≢false (sym double_absolute ∙ (ap is_absolute (sym equal) ∙ relative)))

-- a text that means no absolute IRI doesn't mean xsd:double
pub not_double : (context : ContextValue) (text : List ℕ) (fault : JsonFault) → expand_key context text ≡ Err fault
    → is_same (key_meant context.vocabulary context.terms text) xsd_double ≡ false
unfolding key_iri
not_double context text fault is =
    let meant = key_meant context.vocabulary context.terms text in
    apart_at (is_same meant xsd_double) meant refl (refused_at (is_absolute meant) text meant fault is)
