-- The lines of an input that were taken so far. `next_line` cites `WhereTold`, `TakesLine`, `TellsEnd` and `Advances`; the loops over lines
-- (`replay` of `mld_replay`, `do_lines` of `shell_run`) keep `IsLeft` and `KnowsEnd`, and the ends of their runs say `ReadsLines`.
use Rattle.std.specs.Prelude.{◌≡◌, ◌≢◌, ◌↔◌, ℕ, ◌+◌, ◌<◌, ◌≤◌, Bool, false, IsTrue, List, [], ◌++◌, Option, None, Some}
use Rattle.mld_io.specs.Lines.{lines_of, ended_lines, first_line, after_line, line_size, HasNoEnd}
use Rattle.input_lines.specs.TooLarge.{input_limit, left_after, size_of_lines, BreaksLimits, IsTooLargeLine}

-- this holds of the bytes that are left, where the source tells them
abbrev pub WhereTold : Option (List ℕ) → (List ℕ → Type 0) → Type 0
WhereTold left P = (bytes : List ℕ) → left ≡ Some bytes → P bytes

-- there was no line, and nothing was taken; or the first was taken, which keeps the limits, and its bytes were counted
abbrev pub TakesLine : ℕ → List ℕ → Option (List ℕ) → ℕ → Option (List ℕ) → Type 0
TakesLine size bytes left grown None = left ≡ Some bytes
TakesLine size bytes left grown (Some line) = (bytes ≢ []) × (line ≡ first_line bytes) × (left ≡ Some (after_line bytes)) × (grown ≡ size + line_size bytes) × (¬ BreaksLimits size bytes)

-- where there was a line, the source has told its end just where the first of these bytes' lines lacks its LF
abbrev pub TellsEnd : Bool → List ℕ → Option (List ℕ) → Type 0
TellsEnd ended bytes None = Unit {0}
TellsEnd ended bytes (Some line) = IsTrue ended ↔ HasNoEnd bytes

-- a line took at least a byte, and kept to the input's limit; where there was none, none was taken
abbrev pub Advances : ℕ → ℕ → Option (List ℕ) → Type 0
Advances old new None = new ≡ old
Advances old new (Some line) = (old < new) × (new ≤ input_limit)

-- so many lines end within the bytes that were read; the others are left
pub record ReadsLines (bytes : List ℕ) (left : Option (List ℕ)) (lines : ℕ) : Type 0 where
  pub read : List ℕ
  pub rest : List ℕ
  pub whole : bytes ≡ read ++ rest
  pub ends : ended_lines read ≡ lines
  pub left_is : left ≡ Some rest

-- so many lines of so many bytes are done, none of them too large, and this is left of the bytes that were given
pub record IsLeft (bytes : List ℕ) (left : Option (List ℕ)) (size done : ℕ) (lines : List (List ℕ)) : Type 0 where
  pub rest : List ℕ
  pub is : left ≡ Some rest
  pub behind : rest ≡ left_after done bytes
  pub counted : size ≡ size_of_lines done bytes
  pub fits : (lines : ℕ) → lines < done → ¬ IsTooLargeLine bytes lines
  pub whole : lines_of bytes ≡ lines ++ lines_of rest

-- what is known of the end of the input while so many lines are done: once the source has told it, nothing is left, and before
-- that each of the lines had its LF
pub record KnowsEnd (ended : Bool) (given left : Option (List ℕ)) (done : ℕ) : Type 0 where
  pub none_left : IsTrue ended → (bytes : List ℕ) → given ≡ Some bytes → left ≡ Some []
  pub reads : ended ≡ false → (bytes : List ℕ) → given ≡ Some bytes → ReadsLines bytes left done
