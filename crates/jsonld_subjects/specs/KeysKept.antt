-- Keys that were made under a context and are kept.
use Rattle.std.specs.Prelude.{◌≡◌, ℕ, List, Option, Some}
use Rattle.jsonld_context.specs.Context.{ContextValue}
use Rattle.jsonld_context.specs.ShortForms.{compact_key}

-- what is kept of an IRI is its key
abbrev pub AreKeysUnder : ContextValue → (List ℕ → Option (List ℕ)) → Type 0
AreKeysUnder context kept = (iri key : List ℕ) → kept iri ≡ Some key → key ≡ compact_key context iri
