-- Two numbers as a text, by which elements that have them are ordered first. `numbers_hint` cites it.
use Rattle.std.specs.Prelude.{ℕ, zero, suc, ◌*◌, ◌/◌, ◌%◌, ◌^◌, List, [], ◌∷◌, ◌++◌}

-- the lowest bytes of a number, so many, the highest of them first
abbrev pub bytes_from_top : ℕ → ℕ → List ℕ
bytes_from_top zero number = []
bytes_from_top (suc n) number = number / 2 ^ (8 * n) % 256 ∷ bytes_from_top n number

-- a number of 32 bits as a text: its four bytes; what a greater one has above them is in the first
abbrev pub number_text : ℕ → List ℕ
number_text number = number / 2 ^ 24 ∷ bytes_from_top 3 number

-- two numbers, one behind the other
abbrev pub numbers_text : ℕ → ℕ → List ℕ
numbers_text first second = number_text first ++ number_text second
