-- What is written for datatypes and literals, compared.
use Rattle.std.proofs.Common.{◌≡◌, ℕ, List, [], ◌∷◌, refl, ap}
use Rattle.std.proofs.Common.{◌++◌, true, false}
use Rattle.std.specs.Cmp.Lexicographic.{slice_cmp, nat_list_cmp_total}
use Rattle.std.specs.Ordering.{nat_cmp, ordering_reverse}
use Rattle.std.specs.declared.cmp.Ordering.TheVariants.{Less, Equal, Greater}
use Rattle.rdf_terms.specs.declared.terms.Kind.{Kind}
use Rattle.rdf_terms.specs.declared.terms.Kind.TheVariants.{Plain, Datatype, Language}
use Rattle.rdf_terms.specs.Literal.{LiteralValue, Typed, Tagged, xsd_string, is_same}
use Rattle.rdf_terms.specs.LiteralView.{literal_of}
use Rattle.text_rules.specs.Escaped.{escaped}
use Rattle.rdf_terms.specs.Spelling.{iri_text, datatype_text, literal_text, suffix_text}
use Rattle.rdf_terms.proofs.Plain.{xsd_string_unwritten}

-- what is written for two datatypes, by whether each is xsd:string
pub both_plain : (a b : List ℕ) → is_same a xsd_string ≡ true → is_same b xsd_string ≡ true → slice_cmp nat_cmp (datatype_text a) (datatype_text b) ≡ Equal
both_plain a b h g = rw (h, g) refl

pub first_plain : (a b : List ℕ) → is_same a xsd_string ≡ true → is_same b xsd_string ≡ false → slice_cmp nat_cmp (datatype_text a) (datatype_text b) ≡ Less
first_plain a b h g = rw (h, g) refl

pub second_plain : (a b : List ℕ) → is_same a xsd_string ≡ false → is_same b xsd_string ≡ true → slice_cmp nat_cmp (datatype_text a) (datatype_text b) ≡ Greater
second_plain a b h g = rw (h, g) refl

pub none_plain : (a b : List ℕ) → is_same a xsd_string ≡ false → is_same b xsd_string ≡ false → slice_cmp nat_cmp (datatype_text a) (datatype_text b) ≡ slice_cmp nat_cmp (iri_text a) (iri_text b)
none_plain a b h g = rw (h, g) refl

-- what is written for a datatype beside what is written for a tag
pub plain_tag : (a tag : List ℕ) → is_same a xsd_string ≡ true → slice_cmp nat_cmp (datatype_text a) (64 ∷ tag) ≡ Less
plain_tag a tag h = rw h refl

pub other_tag : (a tag : List ℕ) → is_same a xsd_string ≡ false → slice_cmp nat_cmp (datatype_text a) (64 ∷ tag) ≡ Greater
other_tag a tag h = rw h refl

pub tag_turned : (a tag : List ℕ) → slice_cmp nat_cmp (64 ∷ tag) (datatype_text a) ≡ ordering_reverse (slice_cmp nat_cmp (datatype_text a) (64 ∷ tag))
tag_turned a tag = nat_list_cmp_total.antisymm (64 ∷ tag) (datatype_text a)

-- what is written for a datatype beside nothing, which is written for xsd:string
pub plain_nothing : (a : List ℕ) → is_same a xsd_string ≡ true → slice_cmp nat_cmp (datatype_text a) [] ≡ Equal
plain_nothing a h = rw h refl

pub other_nothing : (a : List ℕ) → is_same a xsd_string ≡ false → slice_cmp nat_cmp (datatype_text a) [] ≡ Greater
other_nothing a h = rw h refl

pub plain_turned : (a : List ℕ) → slice_cmp nat_cmp [] (datatype_text a) ≡ ordering_reverse (slice_cmp nat_cmp (datatype_text a) [])
plain_turned a = nat_list_cmp_total.antisymm [] (datatype_text a)

-- a literal is written as its lexical form and what is behind its quotes
pub literal_parts : (a : List ℕ) (k : Kind) → literal_text (literal_of a k) ≡ 34 ∷ (escaped a ++ 34 ∷ suffix_text k)
literal_parts a Plain = ap (λ (l : List ℕ). 34 ∷ (escaped a ++ 34 ∷ l)) xsd_string_unwritten
literal_parts a (Datatype i) = refl
literal_parts a (Language t) = refl

pub literals_cmp : (a b : List ℕ) (k l : Kind) → slice_cmp nat_cmp (literal_text (literal_of a k)) (literal_text (literal_of b l)) ≡ slice_cmp nat_cmp (escaped a ++ 34 ∷ suffix_text k) (escaped b ++ 34 ∷ suffix_text l)
literals_cmp a b k l = rw (literal_parts a k, literal_parts b l) refl

-- a literal comes before an IRI
pub literal_first : (l : LiteralValue) (iri : List ℕ) → slice_cmp nat_cmp (literal_text l) (iri_text iri) ≡ Less
literal_first (Typed a d) iri = refl
literal_first (Tagged a t) iri = refl

pub iri_last : (iri : List ℕ) (l : LiteralValue) → slice_cmp nat_cmp (iri_text iri) (literal_text l) ≡ Greater
iri_last iri (Typed a d) = refl
iri_last iri (Tagged a t) = refl
