-- What keys and ids stand for (JSON-LD 1.1 API section 5.2, IRI Expansion; JSON-LD 1.1 sections 4.1.2, 4.1.3 and 4.1.5).
use Rattle.std.specs.Prelude.{ℕ, List, ◌++◌, Result, Ok, Err, if◌then◌else◌}
use Rattle.std.specs.Option.{option_map_or}
use Rattle.text_rules.specs.Iri.{is_absolute}
use Rattle.text_rules.specs.Resolution.{resolved}
use Rattle.jsonld_context.specs.Context.{ContextValue, find_term, prefix_of}
use Rattle.jsonld_context.specs.Prefixes.{expanded}
use Rattle.text_rules.specs.TextForms.{has_colon}
use Rattle.jsonld_context.specs.declared.definitions.Definition.{Definition}
use Rattle.jsonld_context.specs.declared.faults.JsonFault.{JsonFault}
use Rattle.jsonld_context.specs.declared.faults.JsonFault.TheVariants as faults

-- a key that is no term: with a `:` a compact IRI or an IRI, else it stands behind the vocabulary
abbrev pub key_without_term : List ℕ → List Definition → List ℕ → List ℕ
key_without_term vocabulary terms text = if has_colon text then expanded (prefix_of terms) text else vocabulary ++ text

-- the text that a key, or a value of `@type`, stands for
abbrev pub key_meant : List ℕ → List Definition → List ℕ → List ℕ
key_meant vocabulary terms text = option_map_or (λ term. term.iri) (find_term terms text) (key_without_term vocabulary terms text)

-- the text that an id stands for: with a `:` a compact IRI or an IRI, else it is resolved against the base
abbrev pub id_meant : List ℕ → List Definition → List ℕ → List ℕ
id_meant base terms text = if has_colon text then expanded (prefix_of terms) text else resolved base text

-- an absolute IRI, or the fault of what was written for it
abbrev pub absolute_or_fault : List ℕ → List ℕ → Result (List ℕ) JsonFault
absolute_or_fault written iri = if is_absolute iri then Ok iri else Err (faults.BadIri written)

-- the IRI of a key, or of a value of `@type`
unfoldable pub key_iri : List ℕ → List Definition → List ℕ → Result (List ℕ) JsonFault
key_iri vocabulary terms text = absolute_or_fault text (key_meant vocabulary terms text)

-- the IRI of an id
unfoldable pub id_iri : List ℕ → List Definition → List ℕ → Result (List ℕ) JsonFault
id_iri base terms text = absolute_or_fault text (id_meant base terms text)

-- both under a context
abbrev pub expand_key : ContextValue → List ℕ → Result (List ℕ) JsonFault
expand_key context text = key_iri context.vocabulary context.terms text

abbrev pub expand_id : ContextValue → List ℕ → Result (List ℕ) JsonFault
expand_id context text = id_iri context.base context.terms text
