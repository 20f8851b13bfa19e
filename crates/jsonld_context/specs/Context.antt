-- A context as a value: how keys and ids are read (JSON-LD 1.1 sections 3.1 and 4.1).
use Rattle.std.specs.Prelude.{ℕ, List, Option, Some, None, IsTrue, if◌then◌else◌, map}
use Rattle.std.specs.Cmp.Lexicographic.{slice_cmp}
use Rattle.std.specs.List.{AllByRecursion, find}
use Rattle.std.specs.List.Sorted.{IsStrictlySortedBy}
use Rattle.std.specs.Option.{option_and_then}
use Rattle.std.specs.Ordering.{nat_cmp}
use Rattle.text_rules.specs.Iri.{is_absolute}
use Rattle.rdf_terms.specs.Literal.{is_same}
use Rattle.text_rules.specs.TextForms.{is_term_name}
use Rattle.jsonld_context.specs.declared.definitions.Definition.{Definition}
use Rattle.jsonld_context.specs.declared.definitions.TermType.{TermType}

-- the IRI against which ids are resolved (JSON-LD 1.1 section 4.1.3), the one that stands before plain keys (JSON-LD 1.1 section 4.1.2),
-- and the terms, in the order of their names
pub record ContextValue : Type 0 where
  pub base : List ℕ
  pub vocabulary : List ℕ
  pub terms : List Definition

-- terms that ascend by their names, so that a name stands for one of them at most
abbrev pub AscendByName : List Definition → Type 0
AscendByName terms = IsStrictlySortedBy (slice_cmp nat_cmp) (map (λ term. term.name) terms)

-- the term of a name
abbrev pub find_term : List Definition → List ℕ → Option Definition
find_term terms name = find (λ term. is_same term.name name) terms

-- the IRI of a term that is a prefix (JSON-LD 1.1 section 4.1.5)
abbrev pub prefix_iri : Definition → Option (List ℕ)
prefix_iri term = if term.is_prefix then Some term.iri else None

-- the IRI of the prefix of a name
abbrev pub prefix_of : List Definition → List ℕ → Option (List ℕ)
prefix_of terms name = option_and_then prefix_iri (find_term terms name)

-- the type of a key's values, where it is a term that has one (JSON-LD 1.1 section 4.2.3)
abbrev pub type_of : List Definition → List ℕ → Option TermType
type_of terms key = option_and_then (λ term. term.coercion) (find_term terms key)

-- what every context keeps
pub record IsContext (context : ContextValue) : Type 0 where
  pub base : IsTrue (is_absolute context.base)
  pub vocabulary : IsTrue (is_absolute context.vocabulary)
  pub names : AllByRecursion (λ term. IsTrue (is_term_name term.name)) context.terms
  pub ascending : AscendByName context.terms
