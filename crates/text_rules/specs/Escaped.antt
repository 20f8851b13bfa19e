-- Lexical forms as they are written between their quotes (N-Triples 1.1, canonical form), and what a buffer keeps to which they are appended.
use Rattle.std.specs.Prelude.{◌≡◌, ℕ, List, [], ◌∷◌, ◌++◌, ◌==◌, if◌then◌else◌, Bool, ◌||◌, length, take}
use Rattle.text_rules.specs.Marks.{line_feed, carriage_return, quote, backslash, small_n, small_r, apostrophe, small_b, small_f, small_t}

-- a byte of a lexical form as it is written: `"`, `\`, LF and CR behind a backslash
abbrev pub escaped_byte : ℕ → List ℕ
escaped_byte byte =
    if byte == quote then backslash ∷ quote ∷ []
    else (if byte == backslash then backslash ∷ backslash ∷ []
    else (if byte == line_feed then backslash ∷ small_n ∷ []
    else (if byte == carriage_return then backslash ∷ small_r ∷ [] else byte ∷ [])))

-- a lexical form as it is written between its quotes
abbrev pub escaped : List ℕ → List ℕ
escaped [] = []
escaped (byte ∷ bytes) = escaped_byte byte ++ escaped bytes

-- one of `t b n r f " ' \`
abbrev pub is_escape_letter : ℕ → Bool
is_escape_letter letter =
    letter == small_t || letter == small_b || letter == small_n || letter == small_r || letter == small_f
    || letter == quote || letter == apostrophe || letter == backslash

-- what a letter behind a backslash stands for: a tab, BS, LF, CR, FF, or itself
abbrev pub letter_value : ℕ → ℕ
letter_value letter =
    if letter == small_t then 9
    else (if letter == small_b then 8
    else (if letter == small_n then 10
    else (if letter == small_r then 13
    else (if letter == small_f then 12 else letter))))

-- the new list begins with the old one
abbrev pub KeepsStart : List ℕ → List ℕ → Type 0
KeepsStart old new = take (length old) new ≡ old
