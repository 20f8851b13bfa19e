-- Paths: the leaves of a binary tree that forks (interval tree clocks, Almeida, Baquero and Fonte 2008).
-- A path is the list of its letters, each the byte of `0` or of `1`.
use Rattle.std.specs.Prelude.{◌≡◌, ◌≢◌, ℕ, zero, suc, ◌+◌, ◌/◌, ◌%◌, List, [], ◌∷◌, ◌++◌, codes}
use Rattle.std.specs.Cmp.Lexicographic.{slice_cmp}
use Rattle.std.specs.Ordering.{nat_cmp}
use Rattle.std.specs.declared.cmp.Ordering.{Ordering}

-- the letter `0`
abbrev pub zero_letter : ℕ
zero_letter = 48

-- the letter `1`
abbrev pub one_letter : ℕ
one_letter = 49

-- the letters that the lowest bits of a number spell, the highest of them first
abbrev pub letters : ℕ → ℕ → List ℕ
letters zero bits = []
letters (suc n) bits = letters n (bits / 2) ++ (zero_letter + bits % 2) ∷ []

-- the text of a path: `r` and its letters
abbrev pub path_text : List ℕ → List ℕ
path_text path = codes "r" ++ path

-- paths are ordered by their text
abbrev pub path_cmp : List ℕ → List ℕ → Ordering
path_cmp = slice_cmp nat_cmp

-- the second path is the first, or goes on from it
abbrev pub IsPrefix : List ℕ → List ℕ → Type 0
IsPrefix path other = (rest : List ℕ) × (other ≡ path ++ rest)

-- the second path goes on from the first
abbrev pub IsProperPrefix : List ℕ → List ℕ → Type 0
IsProperPrefix path other = (rest : List ℕ) × (rest ≢ []) × (other ≡ path ++ rest)

-- neither path is a prefix of the other
pub record AreApart (path other : List ℕ) : Type 0 where
  pub not_below : ¬ IsPrefix path other
  pub not_above : ¬ IsPrefix other path
