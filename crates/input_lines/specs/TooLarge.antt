-- Which line of an input is too large. `next_line` cites `IsUnderLimits` and `BreaksLimits`, and the ends of runs say `IsTooLargeLine`.
use Rattle.std.specs.Prelude.{◌≡◌, ◌≢◌, ℕ, zero, suc, ◌+◌, ◌≤◌, List, [], length}
use Rattle.mld_io.specs.Lines.{LinesValue, first_line, after_line, line_size}

-- how many bytes a line has at most, without its LF
abbrev pub line_limit : ℕ
line_limit = 1048576

-- how many bytes the input has at most, each LF counted
abbrev pub input_limit : ℕ
input_limit = 16777216

-- a reader of lines keeps both limits
pub record IsUnderLimits (lines : LinesValue) : Type 0 where
  pub in_line : lines.line ≡ line_limit
  pub in_all : lines.all ≡ input_limit

-- the bytes behind so many lines
abbrev pub left_after : ℕ → List ℕ → List ℕ
left_after zero bytes = bytes
left_after (suc lines) bytes = left_after lines (after_line bytes)

-- how many bytes so many lines take, each LF counted
abbrev pub size_of_lines : ℕ → List ℕ → ℕ
size_of_lines zero bytes = 0
size_of_lines (suc lines) bytes = line_size bytes + size_of_lines lines (after_line bytes)

-- the first line of these bytes, where so many come before it: it has more bytes before its LF than a line may, or it
-- ends, its LF counted, past the last byte that an input may have
pub record BreaksLimits (size : ℕ) (bytes : List ℕ) : Type 0 where
  pub some : bytes ≢ []
  pub too_large : ¬ ((length (first_line bytes) ≤ line_limit) × (size + line_size bytes ≤ input_limit))

-- the line behind so many lines is too large
abbrev pub IsTooLargeLine : List ℕ → ℕ → Type 0
IsTooLargeLine bytes before = BreaksLimits (size_of_lines before bytes) (left_after before bytes)
