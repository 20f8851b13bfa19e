-- A text that is read as JSON, and one that isn't.
use Rattle.std.proofs.Common.{◌≡◌, ◌∙◌, ℕ, List, Bool, true, false, Option, Some, None, Result, Ok, Err, refl, ap, if◌then◌else◌}
use Rattle.std.specs.Option.{option_map_or}
use Rattle.std.specs.Str.{IsUtf8, is_utf8}
use Rattle.std.proofs.lemmas.Str.{IsUtf8-from_is_utf8, is_utf8-from_IsUtf8}
use Rattle.serde_json.specs.Data.{Data}
use Rattle.serde_json.specs.Read.{read}
use Rattle.jsonld_context.specs.declared.faults.JsonFault.{JsonFault}
use Rattle.jsonld_context.specs.declared.faults.JsonFault.TheVariants as faults
use Rattle.jrql_patterns.specs.QueryReading.{json_of}

abbrev told : Option Data → Result Data JsonFault
told found = option_map_or (λ value. Ok value) found (Err faults.NotJson)

pub json_read : (bytes : List ℕ) (value : Data) → IsUtf8 bytes → read bytes ≡ Some value → json_of bytes ≡ Ok value
json_read bytes value utf8 is = ap (λ b. told (if b then read bytes else None)) (is_utf8-from_IsUtf8 bytes utf8) ∙ ap told is

pub json_refused : (bytes : List ℕ) → (IsUtf8 bytes → read bytes ≡ None) → json_of bytes ≡ Err faults.NotJson
json_refused bytes none = by (is_utf8 bytes) refl
  where
    by : (b : Bool) → is_utf8 bytes ≡ b → json_of bytes ≡ Err faults.NotJson
    by true is = ap (λ b. told (if b then read bytes else None)) is ∙ ap told (none (IsUtf8-from_is_utf8 bytes is))
    by false is = ap (λ b. told (if b then read bytes else None)) is
