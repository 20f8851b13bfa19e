-- The forms of texts in JSON-LD: terms, variables, plain texts, and what may end a prefix's IRI
-- (JSON-LD 1.1 sections 4.1.5, 9.1 and 9.15; RFC 3986 section 2.2).
use Rattle.std.specs.Prelude.{ℕ, List, [], ◌∷◌, Bool, false, ◌&&◌, ◌||◌, not, ◌==◌, ◌-◌, length, drop}
use Rattle.std.specs.List.{list_any, list_all, before_first, after_first, slice_get, suffix_len}
use Rattle.std.specs.Option.{option_map_or}
use Rattle.text_rules.specs.Iri.{is_letter, is_digit}
use Rattle.text_rules.specs.References.{is_colon, is_slash}
use Rattle.text_rules.specs.Resolution.{is_empty}

-- whether a text has a `:`
abbrev pub has_colon : List ℕ → Bool
has_colon text = list_any is_colon text

-- what stands before the first `:`
abbrev pub before_colon : List ℕ → List ℕ
before_colon text = before_first is_colon text

-- what stands behind it
abbrev pub behind_colon : List ℕ → List ℕ
behind_colon text = after_first is_colon text

-- `:`, `/`, `?`, `#`, `[`, `]` and `@` (RFC 3986 section 2.2, gen-delims), with which the IRI of a prefix ends
abbrev pub is_delimiter : ℕ → Bool
is_delimiter byte = byte == 58 || byte == 47 || byte == 63 || byte == 35 || byte == 91 || byte == 93 || byte == 64

-- a text whose last byte is one of these
abbrev pub ends_in_delimiter : List ℕ → Bool
ends_in_delimiter text = option_map_or is_delimiter (slice_get text (length text - 1)) false

-- a text in the form of a keyword, which begins with `@`
abbrev pub begins_as_keyword : List ℕ → Bool
begins_as_keyword [] = false
begins_as_keyword (byte ∷ bytes) = byte == 64

-- what a variable's name has after its first letter: letters, digits and `_`
abbrev pub is_name_byte : ℕ → Bool
is_name_byte byte = is_letter byte || is_digit byte || byte == 95

-- the name of a variable, without its question mark
abbrev pub is_name : List ℕ → Bool
is_name [] = false
is_name (byte ∷ bytes) = is_letter byte && list_all is_name_byte bytes

-- a text in the form of a variable: `?` and a name
abbrev pub is_variable : List ℕ → Bool
is_variable [] = false
is_variable (byte ∷ bytes) = byte == 63 && is_name bytes

-- a text that a context may define: not empty, without `:` and `/`, and in the form neither of a keyword nor of a variable
unfoldable pub is_term_name : List ℕ → Bool
is_term_name text = not (is_empty text) && not (has_colon text) && not (list_any is_slash text) && not (begins_as_keyword text) && not (is_variable text)

-- what a plain text is made of: letters, digits, `_` and `-`
abbrev pub is_plain_letter : ℕ → Bool
is_plain_letter byte = is_letter byte || is_digit byte || byte == 95 || byte == 45

-- a text of one such byte or more
abbrev pub is_plain : List ℕ → Bool
is_plain text = not (is_empty text) && list_all is_plain_letter text

-- the longest end of a text that is made of such bytes
abbrev pub plain_end : List ℕ → List ℕ
plain_end text = drop (length text - suffix_len is_plain_letter text) text
