-- The shortest forms of IRIs as keys and as ids (JSON-LD 1.1 API section 6.2, IRI Compaction; this profile's own choice among them).
use Rattle.std.specs.Prelude.{ℕ, List, ◌∷◌, ◌++◌, Bool, ◌&&◌, not, Option, Some, None, length, drop, nat_eq, if◌then◌else◌}
use Rattle.std.specs.Cmp.Lexicographic.{slice_cmp}
use Rattle.std.specs.List.{starts_with, find, filter_map, reduce}
use Rattle.std.specs.Option.{is_none, option_map, option_and_then, option_or, unwrap_or}
use Rattle.std.specs.Ordering.{nat_cmp, is_lt}
use Rattle.text_rules.specs.References.{begins_authority}
use Rattle.text_rules.specs.Resolution.{is_empty, resolved}
use Rattle.rdf_terms.specs.Literal.{is_same}
use Rattle.jsonld_context.specs.Context.{ContextValue, find_term, prefix_iri}
use Rattle.text_rules.specs.TextForms.{is_plain, plain_end}
use Rattle.jsonld_context.specs.declared.definitions.Definition.{Definition}

-- what stands in a text behind a front
abbrev pub rest_behind : List ℕ → List ℕ → Option (List ℕ)
rest_behind front text = if starts_with nat_eq text front then Some (drop (length front) text) else None

-- a text that passes, or none
abbrev pub if_passes : (List ℕ → Bool) → List ℕ → Option (List ℕ)
if_passes test text = if test text then Some text else None

-- the least term without a type whose IRI it is: terms stand in order
abbrev pub term_for : List Definition → List ℕ → Option (List ℕ)
term_for terms iri = option_map (λ term. term.name) (find (λ term. is_none term.coercion && is_same term.iri iri) terms)

-- the plain text behind the vocabulary, which is no term
abbrev pub plain_key : List ℕ → List Definition → List ℕ → Option (List ℕ)
plain_key vocabulary terms iri =
    option_and_then (if_passes (λ text. is_plain text && is_none (find_term terms text))) (rest_behind vocabulary iri)

-- the plain text that the base resolves to the IRI: it can only be the IRI's plain end
abbrev pub plain_id : List ℕ → List ℕ → Option (List ℕ)
plain_id base iri = if_passes (λ text. is_plain text && is_same (resolved base text) iri) (plain_end iri)

-- what may stand behind a prefix
abbrev pub is_rest : List ℕ → Bool
is_rest text = not (is_empty text) && not (begins_authority text)

-- a compact IRI with a term as its prefix, where it is one
abbrev pub compact_by : List ℕ → Definition → Option (List ℕ)
compact_by iri term =
    option_map (λ rest. term.name ++ 58 ∷ rest)
    (option_and_then (λ front. option_and_then (if_passes is_rest) (rest_behind front iri)) (prefix_iri term))

-- the lesser of two texts, by their bytes
abbrev pub lesser : List ℕ → List ℕ → List ℕ
lesser text other = if is_lt (slice_cmp nat_cmp other text) then other else text

-- the least of some texts and of one more, each of which may be missing
abbrev pub least_with : Option (List ℕ) → Option (List ℕ) → Option (List ℕ)
least_with None text = text
least_with (Some least) None = Some least
least_with (Some least) (Some text) = Some (lesser least text)

-- the least compact IRI
abbrev pub least_compact : List Definition → List ℕ → Option (List ℕ)
least_compact terms iri = reduce lesser (filter_map (compact_by iri) terms)

-- the key of an IRI: a term, else a plain text, else a compact IRI, else the IRI
unfoldable pub key_form : List ℕ → List Definition → List ℕ → List ℕ
key_form vocabulary terms iri =
    unwrap_or (option_or (term_for terms iri) (option_or (plain_key vocabulary terms iri) (least_compact terms iri))) iri

-- the id of an IRI: a plain text, else a compact IRI, else the IRI
unfoldable pub id_form : List ℕ → List Definition → List ℕ → List ℕ
id_form base terms iri = unwrap_or (option_or (plain_id base iri) (least_compact terms iri)) iri

-- both under a context
abbrev pub compact_key : ContextValue → List ℕ → List ℕ
compact_key context iri = key_form context.vocabulary context.terms iri

abbrev pub compact_id : ContextValue → List ℕ → List ℕ
compact_id context iri = id_form context.base context.terms iri
