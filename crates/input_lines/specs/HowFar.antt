-- How far a source was read, by what is left of it. `next_line` cites `IsBrokenOff`; the ends of runs over lines (`ReplayEnds` of `mld_replay`,
-- `IsReadSo` of `shell_run`) say the others, and their laws `IsReadWithin`.
use Rattle.std.specs.Prelude.{◌≡◌, ◌⊎◌, ℕ, ◌+◌, ◌-◌, ◌<◌, List, Option, Some}
use Rattle.mld_io.specs.Lines.{IsCutShort, IsCutAtByte, TakesAtMost}
use Rattle.input_lines.specs.declared.faults.InputFault.{InputFault}
use Rattle.input_lines.specs.declared.faults.InputFault.TheVariants as faults
use Rattle.input_lines.specs.TooLarge.{line_limit, input_limit, left_after, size_of_lines, IsTooLargeLine}
use Rattle.input_lines.specs.Taken.{ReadsLines}

-- of a line behind so many bytes a part was taken, without its LF, which keeps both limits
abbrev pub IsCutWithin : ℕ → List ℕ → Option (List ℕ) → Type 0
IsCutWithin size bytes left = IsCutShort line_limit (input_limit - size) bytes left

-- such a part was taken, and one byte more; and nothing behind that byte
abbrev pub IsCutPast : ℕ → List ℕ → Option (List ℕ) → Type 0
IsCutPast size bytes left = IsCutAtByte line_limit (input_limit - size) bytes left

-- what was taken where no line could be given, behind so many bytes
abbrev pub IsBrokenOff : ℕ → InputFault → List ℕ → Option (List ℕ) → Type 0
IsBrokenOff size faults.ReadFault bytes left = IsCutWithin size bytes left
IsBrokenOff size faults.NoMemory bytes left = IsCutWithin size bytes left
IsBrokenOff size (faults.TooLarge line) bytes left = IsCutPast size bytes left

-- just so many lines were read, or all where there are fewer: none of them is too large, and nothing behind them was read
pub record ReadsJust (bytes : List ℕ) (left : Option (List ℕ)) (lines : ℕ) : Type 0 where
  pub fits : (line : ℕ) → line < lines → ¬ IsTooLargeLine bytes line
  pub left_is : left ≡ Some (left_after lines bytes)

-- the lines whose LF was read are so many, and none of them is too large; of the bytes behind them a part of one line was read, which isn't too
-- large so far
pub record ReadsInto (bytes : List ℕ) (left : Option (List ℕ)) (lines : ℕ) : Type 0 where
  pub fits : (line : ℕ) → line < lines → ¬ IsTooLargeLine bytes line
  pub reads : ReadsLines bytes left lines
  pub cut : IsCutWithin (size_of_lines lines bytes) (left_after lines bytes) left

-- behind so many lines a part of the next was read, or all of it, or there was none; and nothing behind that
abbrev pub ReadsToNext : List ℕ → Option (List ℕ) → ℕ → Type 0
ReadsToNext bytes left lines = ReadsInto bytes left lines ⊎ ReadsJust bytes left (lines + 1)

-- the line behind so many is the first that is too large, and it was read up to a byte before which it wasn't too large so far
pub record MeetsTooLarge (bytes : List ℕ) (left : Option (List ℕ)) (lines : ℕ) : Type 0 where
  pub fits : (line : ℕ) → line < lines → ¬ IsTooLargeLine bytes line
  pub large : IsTooLargeLine bytes lines
  pub cut : IsCutPast (size_of_lines lines bytes) (left_after lines bytes) left

-- no more was read than an input may have, and one byte
abbrev pub IsReadWithin : List ℕ → Option (List ℕ) → Type 0
IsReadWithin bytes left = TakesAtMost bytes left (input_limit + 1)
