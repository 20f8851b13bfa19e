-- One key more is kept.
use Rattle.std.proofs.Common.{◌≡◌, ◌∙◌, ℕ, List, Bool, cond, Option, Some, sym, ap, inl, inr}
use Rattle.std.proofs.lemmas.Bool.{cases_Bool}
use Rattle.std.proofs.lemmas.Option.{same_Some}
use Rattle.rdf_terms.specs.Literal.{is_same}
use Rattle.jsonld_context.specs.Context.{ContextValue}
use Rattle.jsonld_context.specs.ShortForms.{compact_key}
use Rattle.jsonld_context.proofs.TextLaws.{same}
use Rattle.jsonld_subjects.specs.KeysKept.{AreKeysUnder}

module _ (context : ContextValue) (old new : List ℕ → Option (List ℕ)) (iri key : List ℕ) where
  pub one_more_key : key ≡ compact_key context iri → AreKeysUnder context old → ((other : List ℕ) → new other ≡ cond (is_same iri other) (Some key) (old other))
      → AreKeysUnder context new
  one_more_key is kept update other found h = elim (cases_Bool (is_same iri other)) [
    | inl met ↦
        let here : new other ≡ Some key = update other ∙ ap (λ (b : Bool). cond b (Some key) (old other)) met in
        same_Some found key (sym h ∙ here) ∙ is ∙ ap (compact_key context) (same iri other met)
    | inr apart ↦ kept other found (sym (update other ∙ ap (λ (b : Bool). cond b (Some key) (old other)) apart) ∙ h)
  ]
