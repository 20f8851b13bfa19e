-- Which lines of an input are those that a shell did: the words of `ShellEnds.antt` say these, and so do `shell` and `do_lines` by them.
use Rattle.std.specs.Prelude.{◌≡◌, ◌≢◌, ◌⊎◌, ℕ, ◌+◌, ◌<◌, List, [], ◌∷◌, ◌++◌, length, Option, None, Some}
use Rattle.mld_io.specs.Lines.{lines_of}
use Rattle.input_lines.specs.TooLarge.{left_after, IsTooLargeLine}
use Rattle.input_lines.specs.Taken.{IsLeft}
use Rattle.input_lines.specs.HowFar.{ReadsJust, ReadsInto, MeetsTooLarge}
use Rattle.shell_run.specs.declared.run.ShellFault.{ShellFault}
use Rattle.shell_run.specs.declared.run.ShellFault.TheVariants as faults

-- the first of the input's, of which none is too large
pub record AreFirstLines (bytes : List ℕ) (lines : List (List ℕ)) : Type 0 where
  pub rest : List (List ℕ)
  pub whole : lines_of bytes ≡ lines ++ rest
  pub fits : (before : ℕ) → before < length lines → ¬ IsTooLargeLine bytes before

-- all of the input's: the source is at its end, and none is too large
pub record AreAllLines (left : Option (List ℕ)) (bytes : List ℕ) (lines : List (List ℕ)) : Type 0 where
  pub whole : lines_of bytes ≡ lines
  pub all : left ≡ Some []
  pub fits : (before : ℕ) → ¬ IsTooLargeLine bytes before

-- those whose LF was read; of the bytes behind them a part of one line was, which isn't too large so far
pub record AreReadLines (left : Option (List ℕ)) (bytes : List ℕ) (lines : List (List ℕ)) : Type 0 where
  pub first : AreFirstLines bytes lines
  pub read : ReadsInto bytes left (length lines)

-- those before the line of the number, which is the first that is too large
pub record AreLinesBefore (number : ℕ) (bytes : List ℕ) (lines : List (List ℕ)) : Type 0 where
  pub first : AreFirstLines bytes lines
  pub counted : number ≡ length lines + 1
  pub large : IsTooLargeLine bytes (length lines)

-- those before this one, which was taken and is not too large; what is behind it is left
pub record AreLinesUpTo (line : List ℕ) (left : Option (List ℕ)) (bytes : List ℕ) (lines : List (List ℕ)) : Type 0 where
  pub first : AreFirstLines bytes (lines ++ line ∷ [])
  pub left_is : left ≡ Some (left_after (length lines + 1) bytes)

-- this holds of the lines where the source tells its bytes
abbrev pub IfTold : Option (List ℕ) → (List ℕ → List (List ℕ) → Type 0) → List (List ℕ) → Type 0
IfTold given Lines lines = (bytes : List ℕ) → given ≡ Some bytes → Lines bytes lines

-- ---- how far the source was read, whatever the banks tell

-- all was: none of the bytes is left, and no line is too large
pub record IsReadWhole (left : Option (List ℕ)) (bytes : List ℕ) : Type 0 where
  pub all : left ≡ Some []
  pub fits : (before : ℕ) → ¬ IsTooLargeLine bytes before

-- the lines whose LF was read are not too large; of the bytes behind them a part of one line was, which isn't too large so far
abbrev pub IsReadInPart : Option (List ℕ) → List ℕ → Type 0
IsReadInPart left bytes = (lines : ℕ) × ReadsInto bytes left lines

-- the line behind so many was read, which isn't too large, nor is one before it; and nothing behind it was read
pub record IsReadUpToLine (left : Option (List ℕ)) (bytes : List ℕ) : Type 0 where
  pub before : ℕ
  pub some : left_after before bytes ≢ []
  pub read : ReadsJust bytes left (before + 1)

-- the line of the number is too large, and none before it is; nothing was read behind the byte that makes it too large
pub record IsFirstTooLarge (number : ℕ) (left : Option (List ℕ)) (bytes : List ℕ) : Type 0 where
  pub before : ℕ
  pub counted : number ≡ before + 1
  pub meets : MeetsTooLarge bytes left before

-- by why the run ended
abbrev pub IsReadSo : Option ShellFault → Option (List ℕ) → List ℕ → Type 0
IsReadSo None left bytes = IsReadWhole left bytes
IsReadSo (Some faults.Usage) left bytes = left ≡ Some bytes
IsReadSo (Some faults.ReadFault) left bytes = IsReadInPart left bytes
IsReadSo (Some faults.WriteFault) left bytes = IsReadUpToLine left bytes
IsReadSo (Some faults.NoMemory) left bytes = IsReadInPart left bytes ⊎ IsReadUpToLine left bytes
IsReadSo (Some faults.Device) left bytes = IsReadUpToLine left bytes
IsReadSo (Some (faults.TooLarge number)) left bytes = IsFirstTooLarge number left bytes

-- so many lines were taken so far, none of them too large, and this is left
pub record AreTakenSoFar (given left : Option (List ℕ)) (size done : ℕ) : Type 0 where
  pub lines : List (List ℕ)
  pub left_of : (bytes : List ℕ) → given ≡ Some bytes → IsLeft bytes left size done lines
