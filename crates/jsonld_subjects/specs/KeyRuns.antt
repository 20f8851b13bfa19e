-- Runs of values that stand under one key.
use Rattle.std.specs.Prelude.{◌≡◌, ◌≢◌, ℕ, ◌<◌, ◌≤◌, List, [], ◌∷◌, length, slice_index_or}
use Rattle.serde_json.specs.Data.{Data, array, no_items}
use Rattle.serde_json.specs.View.{items_of}
use Rattle.jsonld_context.specs.Context.{ContextValue}
use Rattle.jsonld_subjects.specs.SubjectWriting.{KeyedTerm, data_under}

-- a keyed value as JSON
abbrev pub data_of_keyed : ContextValue → KeyedTerm → Data
data_of_keyed context keyed = data_under context keyed.key keyed.term

-- the values of one key: one stands alone, several stand in an array
abbrev pub data_of_run : List Data → Data
data_of_run [] = array no_items
data_of_run (value ∷ []) = value
data_of_run (value ∷ other ∷ more) = array (items_of (value ∷ other ∷ more))

-- the first values of a list, up to a place, are those of a key
pub record EndsFirstRun (values : List KeyedTerm) (key : List ℕ) (place : ℕ) : Type 0 where
  pub within : place ≤ length values
  pub same : (at : ℕ) (other : KeyedTerm) → at < place → (slice_index_or values at other).key ≡ key
  pub others : (other : KeyedTerm) → place < length values → (slice_index_or values place other).key ≢ key
