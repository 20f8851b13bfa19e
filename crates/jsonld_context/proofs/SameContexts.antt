-- The test of contexts tells whether they are the same.
use Rattle.std.proofs.Common.{◌≡◌, ℕ, List, ◌&&◌, Option, Some, None, nat_eq, refl, ap}
use Rattle.std.proofs.lemmas.Bool.{and_parts, and_from}
use Rattle.std.specs.Bool.{Decides, beq}
use Rattle.std.specs.Cmp.{booleans_Decides}
use Rattle.std.specs.Cmp.Lexicographic.{pointwise, pointwise_decides, bytes_decides}
use Rattle.std.specs.Option.{option_eq}
use Rattle.jsonld_context.specs.Context.{ContextValue}
use Rattle.jsonld_context.specs.ContextEquality.{same_type, same_definition, same_context}
use Rattle.jsonld_context.specs.declared.definitions.Definition.{Definition}
use Rattle.jsonld_context.specs.declared.definitions.TermType.{TermType}
use Rattle.jsonld_context.specs.declared.definitions.TermType.TheVariants as types

datatype_is : (a b : List ℕ) → ◌≡◌ {A = TermType} (types.Datatype a) (types.Datatype b) → a ≡ b
datatype_is a b e = cc e

types_decide : (a b : TermType) → Decides (same_type a b) (a ≡ b)
types_decide types.Id types.Id = (λ h. refl, λ e. refl)
types_decide types.Id (types.Datatype b) = (λ h. cc h, λ e. cc e)
types_decide (types.Datatype a) types.Id = (λ h. cc h, λ e. cc e)
types_decide (types.Datatype a) (types.Datatype b) =
    (λ h. ap types.Datatype ((bytes_decides a b).0 h), λ e. (bytes_decides a b).1 (datatype_is a b e))

coercion_is : (a b : TermType) → Some a ≡ Some b → a ≡ b
coercion_is a b e = cc e

coercions_decide : (a b : Option TermType) → Decides (option_eq same_type a b) (a ≡ b)
coercions_decide None None = (λ h. refl, λ e. refl)
coercions_decide None (Some b) = (λ h. cc h, λ e. cc e)
coercions_decide (Some a) None = (λ h. cc h, λ e. cc e)
coercions_decide (Some a) (Some b) = (λ h. ap Some ((types_decide a b).0 h), λ e. (types_decide a b).1 (coercion_is a b e))

definitions_decide : (a b : Definition) → Decides (same_definition a b) (a ≡ b)
definitions_decide a b =
    let coercions = option_eq same_type a.coercion b.coercion in
    let prefixes = beq a.is_prefix b.is_prefix in
    let iris = pointwise nat_eq a.iri b.iri in
    let names = pointwise nat_eq a.name b.name in (
      λ h.
          let one = and_parts names (iris && (coercions && prefixes)) h in
          let two = and_parts iris (coercions && prefixes) one.1 in
          let three = and_parts coercions prefixes two.1 in
          let name : a.name ≡ b.name = (bytes_decides a.name b.name).0 one.0 in
          let iri : a.iri ≡ b.iri = (bytes_decides a.iri b.iri).0 two.0 in
          let coercion : a.coercion ≡ b.coercion = (coercions_decide a.coercion b.coercion).0 three.0 in
          let prefix : a.is_prefix ≡ b.is_prefix = (booleans_Decides a.is_prefix b.is_prefix).0 three.1 in
          λ i. record { name = name i; iri = iri i; coercion = coercion i; is_prefix = prefix i },
      λ e.
          and_from names (iris && (coercions && prefixes)) ((bytes_decides a.name b.name).1 (ap (λ (d : Definition). d.name) e))
          (and_from iris (coercions && prefixes) ((bytes_decides a.iri b.iri).1 (ap (λ (d : Definition). d.iri) e))
          (and_from coercions prefixes ((coercions_decide a.coercion b.coercion).1 (ap (λ (d : Definition). d.coercion) e))
          ((booleans_Decides a.is_prefix b.is_prefix).1 (ap (λ (d : Definition). d.is_prefix) e)))),
    )

pub contexts_decide : (context other : ContextValue) → Decides (same_context context other) (context ≡ other)
contexts_decide context other =
    let bases = pointwise nat_eq context.base other.base in
    let vocabularies = pointwise nat_eq context.vocabulary other.vocabulary in
    let lists = pointwise same_definition context.terms other.terms in (
      λ h.
          let one = and_parts bases (vocabularies && lists) h in
          let two = and_parts vocabularies lists one.1 in
          let base : context.base ≡ other.base = (bytes_decides context.base other.base).0 one.0 in
          let vocabulary : context.vocabulary ≡ other.vocabulary = (bytes_decides context.vocabulary other.vocabulary).0 two.0 in
          let terms : context.terms ≡ other.terms = (pointwise_decides {E = same_definition} definitions_decide context.terms other.terms).0 two.1 in
          λ i. record { base = base i; vocabulary = vocabulary i; terms = terms i },
      λ e.
          and_from bases (vocabularies && lists) ((bytes_decides context.base other.base).1 (ap (λ (c : ContextValue). c.base) e))
          (and_from vocabularies lists ((bytes_decides context.vocabulary other.vocabulary).1 (ap (λ (c : ContextValue). c.vocabulary) e))
          ((pointwise_decides {E = same_definition} definitions_decide context.terms other.terms).1 (ap (λ (c : ContextValue). c.terms) e))),
    )
