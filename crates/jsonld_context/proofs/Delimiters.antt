-- Where a front of a text ends in a delimiter.
use Rattle.std.proofs.Common.{◌≡◌, ◌∙◌, ℕ, zero, suc, ◌+◌, ◌-◌, ◌<◌, List, [], ◌∷◌, length, get_or, take, true, false, Some, refl, ap, arith}
use Rattle.std.specs.List.{slice_get}
use Rattle.std.specs.Option.{option_map_or}
use Rattle.std.proofs.lemmas.List.{length-take-le}
use Rattle.std.proofs.lemmas.Bool.Decides.{nat_tests}
use Rattle.text_rules.specs.TextForms.{is_delimiter, ends_in_delimiter}

last_taken : (text : List ℕ) (place d : ℕ) → place < length text → slice_get (take (suc place) text) place ≡ Some (get_or text place d)
last_taken [] place d within = absurd (omega arith)
last_taken (byte ∷ bytes) zero d within = refl
last_taken (byte ∷ bytes) (suc place) d within = last_taken bytes place d (omega arith)

-- the front that ends with a byte
pub front_ends : (text : List ℕ) (place d : ℕ) → place < length text → ends_in_delimiter (take (place + 1) text) ≡ is_delimiter (get_or text place d)
front_ends text place d within =
    let step : place + 1 ≡ suc place = omega arith in
    let size : length (take (suc place) text) - 1 ≡ place = ap (λ n. n - 1) (length-take-le (suc place) text (omega arith)) ∙ omega arith in
    rw step (ap (λ n. option_map_or is_delimiter (slice_get (take (suc place) text) n) false) size ∙ ap (λ o. option_map_or is_delimiter o false) (last_taken text place d within))

-- a delimiter is a byte of ASCII
pub delimiter_ascii : (byte : ℕ) → is_delimiter byte ≡ true → byte < 128
delimiter_ascii byte h = grind (arith, nat_tests)
