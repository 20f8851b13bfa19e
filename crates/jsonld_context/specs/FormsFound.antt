-- Short forms found by the IRI: what a context keeps beside its terms. Words of private contracts.
use Rattle.std.specs.Prelude.{◌≡◌, ℕ, zero, suc, ◌+◌, List, [], ◌∷◌, ◌++◌, ◌&&◌, ◌||◌, not, Bool, true, Option, Some, None, length, take, drop, IsTrue, if◌then◌else◌}
use Rattle.std.specs.Cmp.Lexicographic.{slice_cmp}
use Rattle.std.specs.BTreeMap.{get_by_text}
use Rattle.std.specs.List.{AllByRecursion, filter_map, reduce}
use Rattle.std.specs.Option.{is_none, option_map, option_and_then}
use Rattle.std.specs.Ordering.{nat_cmp, is_lt}
use Rattle.text_rules.specs.Resolution.{folder_of}
use Rattle.rdf_terms.specs.Literal.{is_same}
use Rattle.jsonld_context.specs.Context.{ContextValue, IsContext}
use Rattle.jsonld_context.specs.ShortForms.{rest_behind, if_passes, term_for, is_rest, lesser, least_with, least_compact}
use Rattle.text_rules.specs.TextForms.{ends_in_delimiter, is_plain}
use Rattle.jsonld_context.specs.declared.by_iri.FormsByIri.{FormsByIri}
use Rattle.jsonld_context.specs.declared.definitions.Definition.{Definition}

-- a term without a type, where this is its IRI
abbrev pub name_for : List ℕ → Definition → Option (List ℕ)
name_for iri term = if is_none term.coercion && is_same term.iri iri then Some term.name else None

-- a prefix and its colon, where this is its IRI
abbrev pub label_for : List ℕ → Definition → Option (List ℕ)
label_for front term = if term.is_prefix && is_same term.iri front then Some (term.name ++ 58 ∷ []) else None

-- the least of them
abbrev pub least_label : List Definition → List ℕ → Option (List ℕ)
least_label terms front = reduce lesser (filter_map (label_for front) terms)

-- the plain text behind the folder of a base
abbrev pub plain_behind : List ℕ → List ℕ → Option (List ℕ)
plain_behind folder iri = option_and_then (if_passes is_plain) (rest_behind folder iri)

-- the compact IRI whose prefix's IRI has so many bytes, where prefixes are found so; such an IRI ends as those of prefixes do
abbrev pub compact_behind : (List ℕ → Option (List ℕ)) → List ℕ → ℕ → Option (List ℕ)
compact_behind label iri size =
    if ends_in_delimiter (take size iri) && is_rest (drop size iri) then option_map (λ text. text ++ drop size iri) (label (take size iri)) else None

-- the least of those with at most so many bytes
abbrev pub least_behind : (List ℕ → Option (List ℕ)) → List ℕ → ℕ → Option (List ℕ)
least_behind label iri zero = None
least_behind label iri (suc size) = least_with (least_behind label iri size) (compact_behind label iri (size + 1))

-- the IRI of a prefix ends as those of prefixes do
abbrev pub IsDelimited : Definition → Type 0
IsDelimited term = IsTrue (not term.is_prefix || ends_in_delimiter term.iri)

-- what is found by the IRI is what the terms give
pub record AreFormsOf (list : List Definition) (forms : FormsByIri) : Type 0 where
  pub names : (iri : List ℕ) → get_by_text forms.terms iri ≡ term_for list iri
  pub prefixed : (iri : List ℕ) → least_behind (get_by_text forms.prefixes) iri (length iri) ≡ least_compact list iri

-- whether a text is less than another, or there is no other
abbrev pub is_lesser : Option (List ℕ) → List ℕ → Bool
is_lesser None text = true
is_lesser (Some other) text = is_lt (slice_cmp nat_cmp text other)

-- what every context keeps, what is found beside its terms and the folder of its base included
pub record IsContextWith (value : ContextValue) (folder : List ℕ) (forms : FormsByIri) : Type 0 where
  pub context : IsContext value
  pub folder_is : folder ≡ folder_of value.base
  pub delimited : AllByRecursion IsDelimited value.terms
  pub found : AreFormsOf value.terms forms
