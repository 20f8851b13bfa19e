-- IRIs as bytes of UTF-8 (RDF 1.1 Concepts section 3.2; RFC 3986 section 3.1; N-Triples 1.1, IRIREF).
use Rattle.std.specs.Prelude.{ℕ, List, [], ◌∷◌, Bool, true, false, ◌&&◌, ◌||◌, not, nat_le, ◌==◌, length, if◌then◌else◌}
use Rattle.std.specs.List.{list_all}

-- a letter of ASCII
abbrev pub is_letter : ℕ → Bool
is_letter byte = (nat_le 65 byte && nat_le byte 90) || (nat_le 97 byte && nat_le byte 122)

-- a digit of ASCII
abbrev pub is_digit : ℕ → Bool
is_digit byte = nat_le 48 byte && nat_le byte 57

-- what a scheme has after its first letter: letters, digits, `+`, `-` and `.`
abbrev pub is_scheme_byte : ℕ → Bool
is_scheme_byte byte = is_letter byte || is_digit byte || byte == 43 || byte == 45 || byte == 46

-- what no IRI has: U+0000 to U+0020, and `"`, `<`, `>`, `\`, `^`, backquote, `{`, `|` and `}`
abbrev pub is_excluded : ℕ → Bool
is_excluded byte = nat_le byte 32 || byte == 34 || byte == 60 || byte == 62 || byte == 92 || byte == 94 || byte == 96 || byte == 123 || byte == 124 || byte == 125

-- scheme bytes, then a colon, then anything
abbrev pub ends_scheme : List ℕ → Bool
ends_scheme [] = false
ends_scheme (byte ∷ bytes) = if byte == 58 then true else (is_scheme_byte byte && ends_scheme bytes)

-- a scheme and a colon come first
abbrev pub has_scheme : List ℕ → Bool
has_scheme [] = false
has_scheme (byte ∷ bytes) = is_letter byte && ends_scheme bytes

-- a scheme first, and nothing excluded: an absolute IRI of any length
unfoldable pub is_iri : List ℕ → Bool
is_iri text = has_scheme text && list_all (λ byte. not (is_excluded byte)) text

-- how many bytes an IRI has at most
abbrev pub iri_limit : ℕ
iri_limit = 2048

-- an absolute IRI within the limit
abbrev pub is_absolute : List ℕ → Bool
is_absolute text = nat_le (length text) iri_limit && is_iri text
