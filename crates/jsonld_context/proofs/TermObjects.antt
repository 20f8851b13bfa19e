-- What a term's object says, once its parts are without a fault.
use Rattle.std.proofs.Common.{◌≡◌, ℕ, List, codes, Option, Some, None, refl, sym, ap, ◌∙◌}
use Rattle.std.specs.Option.{option_or}
use Rattle.serde_json.specs.Data.{Members}
use Rattle.jsonld_context.specs.ContextReading.{string_at, first_fault, fault_of_id, fault_of_type, fault_of_part, fault_without_id, fault_of_object_iri, fault_of_object_type}
use Rattle.jsonld_context.proofs.FirstFaults.{none_at_string}

module _ (vocabulary : List ℕ) (all : Members) (term : List ℕ) (parts : Members) (none : first_fault (fault_of_part all term) parts ≡ None) where
  abbrev id : Option (List ℕ)
  id = string_at (codes "@id") parts

  abbrev kind : Option (List ℕ)
  kind = string_at (codes "@type") parts

  iri_at : (found : Option (List ℕ)) → ((text : List ℕ) → found ≡ Some text → fault_of_id all term text ≡ None)
      → fault_without_id (Some vocabulary) term found ≡ fault_of_object_iri vocabulary all term found
  iri_at None good = refl
  iri_at (Some text) good = sym (good text refl)

  -- the fault of the whole object is that of its IRI
  pub object_fault : option_or (first_fault (fault_of_part all term) parts) (fault_without_id (Some vocabulary) term id) ≡ fault_of_object_iri vocabulary all term id
  object_fault =
      ap (λ o. option_or o (fault_without_id (Some vocabulary) term id)) none
      ∙ iri_at id (λ text got. none_at_string (fault_of_part all term) parts (codes "@id") text none got)

  type_at : (found : Option (List ℕ)) → ((text : List ℕ) → found ≡ Some text → fault_of_type all term text ≡ None)
      → fault_of_object_type all term found ≡ None
  type_at None good = refl
  type_at (Some text) good = good text refl

  -- its type has none
  pub no_type_fault : fault_of_object_type all term kind ≡ None
  no_type_fault = type_at kind (λ text got. none_at_string (fault_of_part all term) parts (codes "@type") text none got)
