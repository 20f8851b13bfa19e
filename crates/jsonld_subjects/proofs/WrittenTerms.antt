-- What was written of a term is read as that term, under a key without a type.
use Rattle.std.proofs.Common.{◌≡◌, ◌∙◌, ℕ, List, append-nil, Bool, true, false, cond, Option, Some, None, Ok, nat_le, length, refl, sym, ap, subst}
use Rattle.std.specs.Prelude.{codes}
use Rattle.std.specs.Option.{option_map_or}
use Rattle.std.specs.Str.{str_to_ascii_lowercase}
use Rattle.std.proofs.lemmas.Bool.{not-true}
use Rattle.jrql_ast.specs.declared.patterns.Slot.{Slot}
use Rattle.jrql_ast.specs.declared.patterns.Slot.TheVariants as slots
use Rattle.text_rules.specs.Tags.{is_language_tag}
use Rattle.rdf_terms.specs.Literal.{LiteralValue, Typed, Tagged, xsd_string, xsd_integer, rdf_lang_string, is_same, lexical_limit}
use Rattle.rdf_terms.specs.declared.terms.Term.{Term}
use Rattle.rdf_terms.specs.declared.terms.Term.TheVariants as terms
use Rattle.serde_json.specs.Data.{Data, boolean, number, string, Num, no_members, member}
use Rattle.jsonld_context.specs.Context.{ContextValue, IsContext}
use Rattle.jsonld_context.specs.ShortForms.{compact_key, compact_id}
use Rattle.jsonld_context.specs.Texts.{is_variable}
use Rattle.jsonld_context.proofs.TextLaws.{same}
use Rattle.jsonld_values.specs.Literals.{xsd_boolean, xsd_double, literal_slot, number_of_text, made_of}
use Rattle.jsonld_values.specs.TermWriting.{plain_number, one_member, two_members, typed_data, string_data, boolean_data, integer_data, literal_data, term_data}
use Rattle.jsonld_values.specs.ValueObjects.{value_object}
use Rattle.jsonld_values.proofs.Numbers.{plain_number_reads}
use Rattle.jsonld_subjects.specs.GivingBack.{IsLiteralGivenBack, IsTermGivenBack}
use Rattle.jsonld_subjects.specs.SubjectReading.{OpenSubject, with_object, read_single}
use Rattle.jsonld_subjects.specs.declared.places.Place.{Place}
use Rattle.jsonld_subjects.proofs.ShortKeys.{IsKeyOf, IsIdOf, compact_is_key, compact_is_id}

abbrev Short : List ℕ → Type 0
Short lexical = nat_le (length lexical) lexical_limit ≡ true

-- ---- value objects

-- `{"@value": S}`
bare_value : (context : ContextValue) (lexical : List ℕ) → Short lexical
    → value_object context (member (codes "@value") (string lexical) no_members) ≡ Ok (literal_slot (Typed lexical xsd_string))
unfolding value_object
bare_value context lexical short = rw short

-- `{"@language": L, "@value": S}`
tagged_value : (context : ContextValue) (lexical tag : List ℕ) → Short lexical → is_language_tag tag ≡ true → str_to_ascii_lowercase tag ≡ tag
    → value_object context (member (codes "@language") (string tag) (member (codes "@value") (string lexical) no_members)) ≡ Ok (literal_slot (Tagged lexical tag))
unfolding value_object
tagged_value context lexical tag short is lower = rw (is, short, lower)

-- `{"@type": T, "@value": S}`
typed_value : (context : ContextValue) (lexical datatype text : List ℕ) → Short lexical → is_same datatype rdf_lang_string ≡ false → IsKeyOf context datatype text
    → value_object context (member (codes "@type") (string text) (member (codes "@value") (string lexical) no_members)) ≡ Ok (literal_slot (Typed lexical datatype))
unfolding value_object
typed_value context lexical datatype text short other key = rw (key.bare.variable, key.expands, other, short, key.meant)

-- ---- values

-- a value under a key without a type is one more object of its property, and no name is met
abbrev pub ReadsAs : ContextValue → Data → Term → Type 0
ReadsAs context value term = (place : Place) (key : List ℕ) (property : Slot) (so_far : OpenSubject)
    → read_single context place key None property value so_far ≡ Ok (with_object so_far property (slots.Term term))

-- `{"@id": I}`: a subject of its own, without properties
id_reads : (context : ContextValue) (iri text : List ℕ) → IsIdOf context iri text → ReadsAs context (one_member (codes "@id") (string text)) (terms.Iri iri)
id_reads context iri text id place key property so_far = rw (id.bare.variable, id.expands, append-nil so_far.found.triples)

tagged_reads : (context : ContextValue) (lexical tag : List ℕ) → Short lexical → is_language_tag tag ≡ true → str_to_ascii_lowercase tag ≡ tag
    → ReadsAs context (two_members (codes "@language") (string tag) (codes "@value") (string lexical)) (terms.Literal (Tagged lexical tag))
tagged_reads context lexical tag short is lower place key property so_far =
    ap (λ r. made_of r (with_object so_far property)) (tagged_value context lexical tag short is lower)

typed_reads : (context : ContextValue) (lexical datatype : List ℕ) → Short lexical → is_same datatype rdf_lang_string ≡ false
    → IsKeyOf context datatype (compact_key context datatype) → ReadsAs context (typed_data context lexical datatype) (terms.Literal (Typed lexical datatype))
typed_reads context lexical datatype short other as_key place key property so_far =
    ap (λ r. made_of r (with_object so_far property)) (typed_value context lexical datatype (compact_key context datatype) short other as_key)

-- ---- strings, booleans and whole numbers

string_at : (context : ContextValue) (lexical : List ℕ) (variable : Bool) → is_variable lexical ≡ variable → Short lexical
    → ReadsAs context (cond variable (one_member (codes "@value") (string lexical)) (string lexical)) (terms.Literal (Typed lexical xsd_string))
string_at context lexical true is short place key property so_far = ap (λ r. made_of r (with_object so_far property)) (bare_value context lexical short)
string_at context lexical false is short place key property so_far = rw (is, short)

string_reads : (context : ContextValue) (lexical : List ℕ) → Short lexical → ReadsAs context (string_data lexical) (terms.Literal (Typed lexical xsd_string))
string_reads context lexical short = string_at context lexical (is_variable lexical) refl short

boolean_at : (context : ContextValue) (lexical : List ℕ) (truth untruth : Bool) → (truth ≡ true → lexical ≡ codes "true") → (untruth ≡ true → lexical ≡ codes "false")
    → ReadsAs context (typed_data context lexical xsd_boolean) (terms.Literal (Typed lexical xsd_boolean))
    → ReadsAs context (cond truth (boolean true) (cond untruth (boolean false) (typed_data context lexical xsd_boolean))) (terms.Literal (Typed lexical xsd_boolean))
boolean_at context lexical true untruth is other typed place key property so_far =
    ap (λ text. Ok (with_object so_far property (literal_slot (Typed text xsd_boolean)))) (sym (is refl))
boolean_at context lexical false true is other typed place key property so_far =
    ap (λ text. Ok (with_object so_far property (literal_slot (Typed text xsd_boolean)))) (sym (other refl))
boolean_at context lexical false false is other typed place key property so_far = typed place key property so_far

boolean_reads : (context : ContextValue) (lexical : List ℕ) → ReadsAs context (typed_data context lexical xsd_boolean) (terms.Literal (Typed lexical xsd_boolean))
    → ReadsAs context (boolean_data context lexical) (terms.Literal (Typed lexical xsd_boolean))
boolean_reads context lexical typed =
    boolean_at context lexical (is_same lexical (codes "true")) (is_same lexical (codes "false")) (same lexical (codes "true")) (same lexical (codes "false")) typed

no_double : is_same xsd_integer xsd_double ≡ false
unfolding xsd_integer xsd_double
no_double = refl

integer_at : (context : ContextValue) (lexical : List ℕ) (found : Option Num) → plain_number lexical ≡ found
    → ReadsAs context (typed_data context lexical xsd_integer) (terms.Literal (Typed lexical xsd_integer))
    → ReadsAs context (option_map_or (λ value. number value) found (typed_data context lexical xsd_integer)) (terms.Literal (Typed lexical xsd_integer))
integer_at context lexical None is typed place key property so_far = typed place key property so_far
integer_at context lexical (Some value) is typed place key property so_far =
    ap (λ text. made_of (number_of_text key xsd_integer text) (with_object so_far property)) (plain_number_reads lexical value is) ∙ rw no_double

integer_reads : (context : ContextValue) (lexical : List ℕ) → ReadsAs context (typed_data context lexical xsd_integer) (terms.Literal (Typed lexical xsd_integer))
    → ReadsAs context (integer_data context lexical) (terms.Literal (Typed lexical xsd_integer))
integer_reads context lexical typed = integer_at context lexical (plain_number lexical) refl typed

-- ---- literals and terms

literal_at : (context : ContextValue) (lexical datatype : List ℕ) (text truth whole : Bool) → (text ≡ true → datatype ≡ xsd_string)
    → (truth ≡ true → datatype ≡ xsd_boolean) → (whole ≡ true → datatype ≡ xsd_integer) → Short lexical
    → ReadsAs context (typed_data context lexical datatype) (terms.Literal (Typed lexical datatype))
    → ReadsAs context
    (cond text (string_data lexical) (cond truth (boolean_data context lexical) (cond whole (integer_data context lexical) (typed_data context lexical datatype))))
    (terms.Literal (Typed lexical datatype))
literal_at context lexical datatype true truth whole is second third short typed =
    subst (λ (d : List ℕ). ReadsAs context (string_data lexical) (terms.Literal (Typed lexical d))) (sym (is refl)) (string_reads context lexical short)
literal_at context lexical datatype false true whole is second third short typed =
    subst (λ (d : List ℕ). ReadsAs context (boolean_data context lexical) (terms.Literal (Typed lexical d))) (sym (second refl))
    (boolean_reads context lexical (subst (λ (d : List ℕ). ReadsAs context (typed_data context lexical d) (terms.Literal (Typed lexical d))) (second refl) typed))
literal_at context lexical datatype false false true is second third short typed =
    subst (λ (d : List ℕ). ReadsAs context (integer_data context lexical) (terms.Literal (Typed lexical d))) (sym (third refl))
    (integer_reads context lexical (subst (λ (d : List ℕ). ReadsAs context (typed_data context lexical d) (terms.Literal (Typed lexical d))) (third refl) typed))
literal_at context lexical datatype false false false is second third short typed = typed

literal_reads : (context : ContextValue) (literal : LiteralValue) → IsContext context → IsLiteralGivenBack context literal
    → ReadsAs context (literal_data context literal) (terms.Literal literal)
literal_reads context (Typed lexical datatype) kept back =
    literal_at context lexical datatype (is_same datatype xsd_string) (is_same datatype xsd_boolean) (is_same datatype xsd_integer)
    (same datatype xsd_string) (same datatype xsd_boolean) (same datatype xsd_integer) back.0.0
    (typed_reads context lexical datatype back.0.0 (not-true (is_same datatype rdf_lang_string) back.0.2) (compact_is_key context datatype kept back.1))
literal_reads context (Tagged lexical tag) kept back = tagged_reads context lexical tag back.0 back.1 back.2

pub term_reads : (context : ContextValue) (term : Term) → IsContext context → IsTermGivenBack context term → ReadsAs context (term_data context term) term
unfolding term_data
term_reads context (terms.Iri iri) kept back = id_reads context iri (compact_id context iri) (compact_is_id context iri kept back)
term_reads context (terms.Literal literal) kept back = literal_reads context literal kept back
