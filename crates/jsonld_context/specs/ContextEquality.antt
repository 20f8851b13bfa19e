-- The test whether two contexts are the same.
use Rattle.std.specs.Prelude.{ℕ, List, Bool, ◌&&◌, Option, Some, None, nat_eq}
use Rattle.std.specs.Bool.{beq}
use Rattle.std.specs.Cmp.{IsEquivalence, and_equiv, on_equiv, bool_eq_equiv}
use Rattle.std.specs.Cmp.Lexicographic.{pointwise, lists_equiv, options_equiv, nat_list_eq_equiv}
use Rattle.std.specs.Option.{option_eq}
use Rattle.jsonld_context.specs.Context.{ContextValue}
use Rattle.jsonld_context.specs.declared.definitions.Definition.{Definition}
use Rattle.jsonld_context.specs.declared.definitions.TermType.{TermType}
use Rattle.jsonld_context.specs.declared.definitions.TermType.TheVariants as types

-- the datatype of a type, where it isn't `@id`
abbrev pub datatype_in : TermType → Option (List ℕ)
datatype_in types.Id = None
datatype_in (types.Datatype iri) = Some iri

-- two types are both `@id`, or one datatype
abbrev pub same_type : TermType → TermType → Bool
same_type a b = option_eq (pointwise nat_eq) (datatype_in a) (datatype_in b)

-- two terms have one name, IRI and type, and both or neither are prefixes
abbrev pub same_definition : Definition → Definition → Bool
same_definition a b =
    pointwise nat_eq a.name b.name && (pointwise nat_eq a.iri b.iri && (option_eq same_type a.coercion b.coercion && beq a.is_prefix b.is_prefix))

-- two contexts have one base, one vocabulary and the same terms
abbrev pub same_context : ContextValue → ContextValue → Bool
same_context a b = pointwise nat_eq a.base b.base && (pointwise nat_eq a.vocabulary b.vocabulary && pointwise same_definition a.terms b.terms)

pub same_type_equiv : IsEquivalence same_type
same_type_equiv = on_equiv datatype_in (options_equiv nat_list_eq_equiv)

pub same_definition_equiv : IsEquivalence same_definition
same_definition_equiv =
    and_equiv (on_equiv (λ (term : Definition). term.name) nat_list_eq_equiv)
    (and_equiv (on_equiv (λ (term : Definition). term.iri) nat_list_eq_equiv)
    (and_equiv (on_equiv (λ (term : Definition). term.coercion) (options_equiv same_type_equiv)) (on_equiv (λ (term : Definition). term.is_prefix) bool_eq_equiv)))

pub same_context_equiv : IsEquivalence same_context
same_context_equiv =
    and_equiv (on_equiv (λ (context : ContextValue). context.base) nat_list_eq_equiv)
    (and_equiv (on_equiv (λ (context : ContextValue). context.vocabulary) nat_list_eq_equiv)
    (on_equiv (λ (context : ContextValue). context.terms) (lists_equiv same_definition_equiv)))
