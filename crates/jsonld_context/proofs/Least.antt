-- What the terms so far give, with one term more: the least of some texts, and the first name.
use Rattle.std.proofs.Common.{◌≡◌, ℕ, ◌+◌, ◌<◌, List, [], ◌∷◌, ◌++◌, append-nil, length, get_or, take, Bool, true, false, cond, ◌&&◌, Option, Some, None, refl, sym, ap, ◌∙◌}
use Rattle.std.specs.List.{find, reduce, filter_map, cons_option}
use Rattle.std.specs.Option.{is_none, option_map, option_or}
use Rattle.std.proofs.lemmas.List.{take_more}
use Rattle.std.proofs.lemmas.List.Elements.{filter_map-append}
use Rattle.std.proofs.lemmas.List.Sums.{fold-append}
use Rattle.rdf_terms.specs.Literal.{is_same}
use Rattle.jsonld_context.specs.FormsFound.{name_for, label_for, least_label}
use Rattle.jsonld_context.specs.ShortForms.{term_for, lesser, least_with}
use Rattle.jsonld_context.specs.declared.definitions.Definition.{Definition}

reduced : (texts : List (List ℕ)) (text : List ℕ) → reduce lesser (texts ++ text ∷ []) ≡ least_with (reduce lesser texts) (Some text)
reduced [] text = refl
reduced (first ∷ texts) text = ap Some (fold-append lesser first texts (text ∷ []))

without : (least : Option (List ℕ)) → least ≡ least_with least None
without None = refl
without (Some least) = refl

one_more : (texts : List (List ℕ)) (text : Option (List ℕ)) → reduce lesser (texts ++ cons_option text []) ≡ least_with (reduce lesser texts) text
one_more texts None = ap (reduce lesser) (append-nil texts) ∙ without (reduce lesser texts)
one_more texts (Some text) = reduced texts text

name_at : (term : Definition) (b : Bool) → option_map (λ t. t.name) (cond b (Some term) None) ≡ cond b (Some term.name) None
name_at term true = refl
name_at term false = refl

name_later : (iri : List ℕ) (first : Definition) (b : Bool) (terms : List Definition) (term : Definition)
    → term_for (terms ++ term ∷ []) iri ≡ option_or (term_for terms iri) (name_for iri term)
    → option_map (λ t. t.name) (cond b (Some first) (find (λ t. is_none t.coercion && is_same t.iri iri) (terms ++ term ∷ [])))
    ≡ option_or (option_map (λ t. t.name) (cond b (Some first) (find (λ t. is_none t.coercion && is_same t.iri iri) terms))) (name_for iri term)
name_later iri first true terms term rest = refl
name_later iri first false terms term rest = rest

name_behind : (iri : List ℕ) (terms : List Definition) (term : Definition) → term_for (terms ++ term ∷ []) iri ≡ option_or (term_for terms iri) (name_for iri term)
name_behind iri [] term = name_at term (is_none term.coercion && is_same term.iri iri)
name_behind iri (first ∷ terms) term = name_later iri first (is_none first.coercion && is_same first.iri iri) terms term (name_behind iri terms term)

module _ (terms : List Definition) (i : ℕ) (term : Definition) (within : i < length terms) (is : term ≡ get_or terms i term) where
  split : take (i + 1) terms ≡ take i terms ++ term ∷ []
  split = take_more terms i term within ∙ ap (λ t. take i terms ++ t ∷ []) (sym is)

  -- the least label of one term more
  pub label_more : (front : List ℕ) → least_label (take (i + 1) terms) front ≡ least_with (least_label (take i terms) front) (label_for front term)
  label_more front =
      ap (λ l. reduce lesser (filter_map (label_for front) l)) split
      ∙ (ap (reduce lesser) (filter_map-append (label_for front) (take i terms) (term ∷ []))
      ∙ one_more (filter_map (label_for front) (take i terms)) (label_for front term))

  -- and the least name
  pub name_more : (iri : List ℕ) → term_for (take (i + 1) terms) iri ≡ option_or (term_for (take i terms) iri) (name_for iri term)
  name_more iri = ap (λ l. term_for l iri) split ∙ name_behind iri (take i terms) term
