-- How the path without dot segments grows as text. Public clauses name `Dots` alone.
use Rattle.std.specs.Prelude.{ℕ, List, [], ◌∷◌, ◌++◌, if◌then◌else◌}
use Rattle.std.specs.List.{list_any}
use Rattle.text_rules.specs.References.{slash, is_slash}
use Rattle.text_rules.specs.Dots.{is_dot, is_two_dots, is_dots}

-- what stands before the last `/`, or nothing: a byte stays where a later one is `/`
abbrev pub without_last : List ℕ → List ℕ
without_last [] = []
without_last (byte ∷ bytes) = if list_any is_slash bytes then byte ∷ without_last bytes else []

-- a segment behind a slash, or what a dot segment does
abbrev pub add_segment : List ℕ → List ℕ → List ℕ
add_segment output segment = if is_dot segment then output else (if is_two_dots segment then without_last output else output ++ slash ∷ segment)

-- the last segment
abbrev pub add_last : List ℕ → List ℕ → List ℕ
add_last output segment = if is_dots segment then add_segment output segment ++ slash ∷ [] else add_segment output segment

-- the segments in turn
abbrev pub add_segments : List ℕ → List (List ℕ) → List ℕ
add_segments output [] = output
add_segments output (segment ∷ []) = add_last output segment
add_segments output (segment ∷ next ∷ others) = add_segments (add_segment output segment) (next ∷ others)
