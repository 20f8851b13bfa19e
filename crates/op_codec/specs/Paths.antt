-- Paths as bytes: the count of letters in one byte, then the letters as bits from the highest, and the bits that are left in
-- the last byte are 0. A path is one field: whatever is wrong with it, the fault is where it begins.
use Rattle.std.specs.Prelude.{ℕ, ◌+◌, ◌-◌, ◌*◌, ◌/◌, ◌%◌, ◌^◌, ◌==◌, ◌&&◌, Bool, List, [], ◌∷◌, nat_le, length, drop, if◌then◌else◌}
use Rattle.mld_bytes.specs.Bytes.{number_bytes, number_in}
use Rattle.tree_clock.specs.Letters.{number_of}
use Rattle.tree_clock.specs.Limits.{path_limit}
use Rattle.tree_clock.specs.Path.{letters}
use Rattle.op_codec.specs.Reading.{Reading, Found, Fault}

-- how many bytes so many letters take
abbrev pub letter_bytes : ℕ → ℕ
letter_bytes count = (count + 7) / 8

-- how many bits are left behind so many letters
abbrev pub spare_bits : ℕ → ℕ
spare_bits count = 8 * letter_bytes count - count

-- a path as it is written
unfoldable pub path_bytes : List ℕ → List ℕ
path_bytes path =
    length path ∷ number_bytes (letter_bytes (length path)) (number_of path * 2 ^ spare_bits (length path))

-- a path may have so many letters, their bytes are there, and the bits behind them are 0
abbrev pub is_path : ℕ → List ℕ → Bool
is_path count bytes =
    nat_le count path_limit && nat_le (letter_bytes count) (length bytes)
    && number_in (letter_bytes count) bytes % 2 ^ spare_bits count == 0

-- a path
unfoldable pub read_path : ℕ → List ℕ → Reading (List ℕ)
read_path place [] = Fault place
read_path place (count ∷ bytes) =
    if is_path count bytes
    then Found (letters count (number_in (letter_bytes count) bytes / 2 ^ spare_bits count)) (place + 1 + letter_bytes count) (drop (letter_bytes count) bytes)
    else Fault place
