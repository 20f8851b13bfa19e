-- Language tags (N-Triples 1.1, LANGTAG).
use Rattle.std.specs.Prelude.{ℕ, List, [], ◌∷◌, Bool, true, false, ◌&&◌, ◌||◌, ◌==◌, if◌then◌else◌}
use Rattle.text_rules.specs.Iri.{is_letter, is_digit}
use Rattle.text_rules.specs.Marks.{dash}

-- letters and digits, and `-` where letters or digits follow it
abbrev pub is_subtags : Bool → List ℕ → Bool
is_subtags full [] = full
is_subtags full (byte ∷ bytes) =
    if byte == dash then (full && is_subtags false bytes) else ((is_letter byte || is_digit byte) && is_subtags true bytes)

-- letters first, then subtags: the first part of a language tag has letters alone
abbrev pub is_primary : Bool → List ℕ → Bool
is_primary full [] = full
is_primary full (byte ∷ bytes) =
    if byte == dash then (full && is_subtags false bytes) else (is_letter byte && is_primary true bytes)

-- a language tag: letters, then any number of times `-` with letters or digits (N-Triples 1.1, LANGTAG)
unfoldable pub is_language_tag : List ℕ → Bool
is_language_tag text = is_primary false text
