-- What a reference means against a base (RFC 3986 section 5.2).
use Rattle.std.specs.Prelude.{ℕ, List, [], ◌∷◌, ◌++◌, Bool, true, false, ◌&&◌, if◌then◌else◌, codes}
use Rattle.std.specs.List.{list_any}
use Rattle.std.specs.Option.{is_some, option_or}
use Rattle.text_rules.specs.References.{Parts, slash, is_slash, split, recomposed}
use Rattle.text_rules.specs.Dots.{remove_dot_segments}

-- whether a path is empty
abbrev pub is_empty : List ℕ → Bool
is_empty [] = true
is_empty (byte ∷ bytes) = false

-- whether a path begins with `/`
abbrev pub is_rooted : List ℕ → Bool
is_rooted [] = false
is_rooted (byte ∷ bytes) = is_slash byte

-- a path up to its last `/`, with it: a byte stays where it or a later one is `/`
abbrev pub directory : List ℕ → List ℕ
directory [] = []
directory (byte ∷ bytes) = if list_any is_slash (byte ∷ bytes) then byte ∷ directory bytes else []

-- RFC 3986 section 5.2.3: a path in place of the last segment of the base's
abbrev pub merged : Parts → List ℕ → List ℕ
merged base path = if is_some base.authority && is_empty base.path then slash ∷ path else directory base.path ++ path

-- the path of a reference that has one, but neither scheme nor authority
abbrev pub full_path : Parts → List ℕ → List ℕ
full_path base path = if is_rooted path then path else merged base path

-- RFC 3986 section 5.2.2, strict: what a reference leaves out comes from the base
unfoldable pub transformed : Parts → Parts → Parts
transformed base reference =
    if is_some reference.scheme then record reference { path = remove_dot_segments reference.path }
    else (if is_some reference.authority then record reference { scheme = base.scheme; path = remove_dot_segments reference.path }
    else (if is_empty reference.path then record base { query = option_or reference.query base.query; fragment = reference.fragment }
    else record base { path = remove_dot_segments (full_path base reference.path); query = reference.query; fragment = reference.fragment }))

-- the text that a reference stands for
abbrev pub resolved : List ℕ → List ℕ → List ℕ
resolved base reference = recomposed (transformed (split base) (split reference))

-- the folder of a base: what `.` stands for against it (RFC 3986 section 5.4.1)
abbrev pub folder_of : List ℕ → List ℕ
folder_of base = resolved base (codes ".")
