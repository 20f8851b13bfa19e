-- The first bytes of a text as a number, which stands in the order of the texts.
use Rattle.std.specs.Prelude.{ℕ, suc, zero, List, [], ◌∷◌, ◌+◌, ◌-◌, ◌*◌, ◌^◌, nat_lt, if◌then◌else◌}

-- the number whose digits are the first bytes of a text, to the base of 256; where the text ends they count 0, and from what is no
-- byte on they count as the greatest that can come
abbrev pub leading : ℕ → List ℕ → ℕ
leading zero text = 0
leading (suc n) [] = 0
leading (suc n) (b ∷ bs) = if nat_lt b 256 then b * 256 ^ n + leading n bs else 256 ^ suc n - 1
