-- How written forms are compared without being written: the first place where two texts differ decides.
use Rattle.std.specs.Prelude.{ℕ, suc, zero, List, [], ◌∷◌, ◌*◌, ◌==◌, if◌then◌else◌}
use Rattle.text_rules.specs.Marks.{line_feed, carriage_return, quote, backslash}

-- how many bytes two texts have in common from their starts
abbrev pub common : List ℕ → List ℕ → ℕ
common [] ys = 0
common (x ∷ xs) [] = 0
common (x ∷ xs) (y ∷ ys) = if x == y then suc (common xs ys) else 0

-- where a byte of a lexical form stands among all bytes, as it is written: by its first written byte, then by its second
abbrev pub rank : ℕ → ℕ
rank byte =
    if byte == quote then 23586
    else (if byte == backslash then 23644
    else (if byte == line_feed then 23662
    else (if byte == carriage_return then 23666 else byte * 256)))

-- the rank of the byte at a place, or of the quote that ends the lexical form
abbrev pub rank_at : List ℕ → ℕ → ℕ
rank_at [] place = 8704
rank_at (byte ∷ bytes) zero = rank byte
rank_at (byte ∷ bytes) (suc place) = rank_at bytes place
