-- Paths without dot segments (RFC 3986 section 5.2.4), by the list of the path's segments.
use Rattle.std.specs.Prelude.{ℕ, List, [], ◌∷◌, Bool, ◌||◌, if◌then◌else◌, codes, drop, reverse}
use Rattle.std.specs.List.{slice_split, concat}
use Rattle.std.specs.Str.{bytes_eq}
use Rattle.text_rules.specs.References.{slash, is_slash}

-- RFC 3986 section 3.3: the segments of a path stand between its slashes
abbrev pub segments : List ℕ → List (List ℕ)
segments path = slice_split is_slash path

-- RFC 3986 section 3.3: the first of the dot segments, `.` and `..`
abbrev pub is_dot : List ℕ → Bool
is_dot segment = bytes_eq segment (codes ".")

-- the second
abbrev pub is_two_dots : List ℕ → Bool
is_two_dots segment = bytes_eq segment (codes "..")

-- either
abbrev pub is_dots : List ℕ → Bool
is_dots segment = is_dot segment || is_two_dots segment

-- rules A and D of RFC 3986 section 5.2.4: dot segments in front go
abbrev pub without_front : List (List ℕ) → List (List ℕ)
without_front [] = []
without_front (segment ∷ others) = if is_dots segment then without_front others else segment ∷ others

-- a segment after those that are kept, the last kept one first: `.` goes (rule B), `..` goes with the last kept one
-- (rule C), and any other is kept with the slash in front of it (rule E)
abbrev pub keep : List (List ℕ) → List ℕ → List (List ℕ)
keep kept segment = if is_dot segment then kept else (if is_two_dots segment then drop 1 kept else (slash ∷ segment) ∷ kept)

-- the segments in turn; where the last one is a dot segment, a slash stays (rules B and C)
abbrev pub keep_all : List (List ℕ) → List (List ℕ) → List (List ℕ)
keep_all kept [] = kept
keep_all kept (segment ∷ []) = if is_dots segment then (slash ∷ []) ∷ keep kept segment else keep kept segment
keep_all kept (segment ∷ next ∷ others) = keep_all (keep kept segment) (next ∷ others)

-- the text of what is kept: the first segment has no slash in front of it
abbrev pub kept_text : List (List ℕ) → List ℕ
kept_text [] = []
kept_text (first ∷ others) = concat (reverse (keep_all (first ∷ []) others))

-- RFC 3986 section 5.2.4
unfoldable pub remove_dot_segments : List ℕ → List ℕ
remove_dot_segments path = kept_text (without_front (segments path))
