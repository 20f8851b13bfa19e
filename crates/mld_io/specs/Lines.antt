-- Lines of an input, and the limits that they are read under.
use Rattle.std.specs.Prelude.{◌≡◌, ◌≢◌, ◌↔◌, ℕ, ◌+◌, ◌-◌, ◌<◌, ◌≤◌, Bool, IsTrue, List, [], ◌∷◌, ◌++◌, length, ◌==◌, if◌then◌else◌, All, Option, None, Some, Result, Ok, Err}
use Rattle.mld_io.specs.declared.faults.LineFault.{LineFault}
use Rattle.mld_io.specs.declared.faults.LineFault.TheVariants.{ReadFault, TooLarge, NoMemory}

-- LF, the byte that ends a line
abbrev pub line_break : ℕ
line_break = 10

-- a byte at the front of the first of these lines
abbrev pub onto_first : ℕ → List (List ℕ) → List (List ℕ)
onto_first b [] = (b ∷ []) ∷ []
onto_first b (l ∷ ls) = (b ∷ l) ∷ ls

-- the lines of an input: a line ends with LF, which is no part of it; the last may lack it
abbrev pub lines_of : List ℕ → List (List ℕ)
lines_of [] = []
lines_of (b ∷ bs) = if b == line_break then [] ∷ lines_of bs else onto_first b (lines_of bs)

-- the bytes before the first LF, or all of them
abbrev pub first_line : List ℕ → List ℕ
first_line [] = []
first_line (b ∷ bs) = if b == line_break then [] else b ∷ first_line bs

-- the bytes after the first LF, or none
abbrev pub after_line : List ℕ → List ℕ
after_line [] = []
after_line (b ∷ bs) = if b == line_break then bs else after_line bs

-- the first of the lines, and then the lines of what follows it
abbrev pub FirstOfLines : Type 0
FirstOfLines = (bytes : List ℕ) → bytes ≢ [] → lines_of bytes ≡ first_line bytes ∷ lines_of (after_line bytes)

-- how many bytes the first line takes, its LF included
abbrev pub line_size : List ℕ → ℕ
line_size [] = 0
line_size (b ∷ bs) = if b == line_break then 1 else 1 + line_size bs

-- none of these bytes is an LF
abbrev pub HasNoEnd : List ℕ → Type 0
HasNoEnd bytes = All (λ b. b ≢ line_break) bytes

-- how many lines end within these bytes, which is how many of them are LFs
abbrev pub ended_lines : List ℕ → ℕ
ended_lines [] = 0
ended_lines (b ∷ bs) = if b == line_break then 1 + ended_lines bs else ended_lines bs

-- what a reader of lines is: the limit of a line, the limit of the input, the bytes taken so far, whether it is good, and
-- whether the source has told its end
pub record LinesValue : Type 0 where
  pub line : ℕ
  pub all : ℕ
  pub taken : ℕ
  pub good : Bool
  pub ended : Bool

-- the next line keeps both limits
pub record FitsLine (lines : LinesValue) (bytes : List ℕ) : Type 0 where
  pub in_line : length (first_line bytes) ≤ lines.line
  pub in_all : lines.taken + line_size bytes ≤ lines.all

-- there was no byte, and there is none
pub record IsEnd (bytes : List ℕ) (left : Option (List ℕ)) : Type 0 where
  pub empty : bytes ≡ []
  pub none_left : left ≡ Some []

-- the first line was taken, and the rest is left; the source told its end where the line lacks its LF, and only there
pub record IsLine (lines : LinesValue) (bytes piece : List ℕ) (taken : ℕ) (ended : Bool) (left : Option (List ℕ)) : Type 0 where
  pub some : bytes ≢ []
  pub fits : FitsLine lines bytes
  pub piece_is : piece ≡ first_line bytes
  pub taken_is : taken ≡ lines.taken + line_size bytes
  pub ended_is : IsTrue ended ↔ HasNoEnd bytes
  pub left_is : left ≡ Some (after_line bytes)

-- a part of the first line was taken, and no LF: no more bytes than a line may have, and than the input has room for
pub record IsCutShort (line room : ℕ) (bytes : List ℕ) (left : Option (List ℕ)) : Type 0 where
  pub front : List ℕ
  pub rest : List ℕ
  pub front_of : bytes ≡ front ++ rest
  pub no_end : HasNoEnd front
  pub in_line : length front ≤ line
  pub in_room : length front ≤ room
  pub left_is : left ≡ Some rest

-- such a part of the first line was taken, and one byte more, which may be its LF; and nothing behind that byte
pub record IsCutAtByte (line room : ℕ) (bytes : List ℕ) (left : Option (List ℕ)) : Type 0 where
  pub front : List ℕ
  pub byte : ℕ
  pub rest : List ℕ
  pub front_of : bytes ≡ front ++ byte ∷ rest
  pub no_end : HasNoEnd front
  pub in_line : length front ≤ line
  pub in_room : length front ≤ room
  pub left_is : left ≡ Some rest

-- how many bytes the input has room for
abbrev pub room_left : LinesValue → ℕ
room_left lines = lines.all - lines.taken

-- there is a line, and it does not fit; it was taken up to a byte before which it kept both limits
pub record IsTooLarge (lines : LinesValue) (bytes : List ℕ) (left : Option (List ℕ)) : Type 0 where
  pub some : bytes ≢ []
  pub too_large : ¬ FitsLine lines bytes
  pub cut : IsCutAtByte lines.line (room_left lines) bytes left

-- some of the bytes were taken, and no more than this many
pub record TakesAtMost (bytes : List ℕ) (left : Option (List ℕ)) (most : ℕ) : Type 0 where
  pub front : List ℕ
  pub rest : List ℕ
  pub front_of : bytes ≡ front ++ rest
  pub left_is : left ≡ Some rest
  pub few : length front ≤ most

-- the answer to a call for the next line, at a source that had these bytes and had not told its end
abbrev pub NextLine : LinesValue → List ℕ → Result (Option (List ℕ)) LineFault → ℕ → Bool → Option (List ℕ) → Type 0
NextLine lines bytes (Ok None) taken ended left = IsEnd bytes left
NextLine lines bytes (Ok (Some piece)) taken ended left = IsLine lines bytes piece taken ended left
NextLine lines bytes (Err TooLarge) taken ended left = IsTooLarge lines bytes left
NextLine lines bytes (Err ReadFault) taken ended left = IsCutShort lines.line (room_left lines) bytes left
NextLine lines bytes (Err NoMemory) taken ended left = IsCutShort lines.line (room_left lines) bytes left

-- at the end none was taken; a line took at least a byte, and kept to the input's limit
abbrev pub Progresses : Result (Option (List ℕ)) LineFault → ℕ → ℕ → ℕ → Type 0
Progresses (Ok None) old new all = new ≡ old
Progresses (Ok (Some piece)) old new all = (old < new) × (new ≤ all)
Progresses (Err fault) old new all = new ≡ old
