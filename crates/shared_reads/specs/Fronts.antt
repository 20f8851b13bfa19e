-- Lists of published changes: which one begins another, and which a history tells.
use Rattle.std.specs.Prelude.{◌≡◌, true, false, ◌⊎◌, List, [], ◌∷◌, ◌++◌}
use mathlib.Core.List.{IsPrefix}
use Rattle.logbook.specs.Pages.{Book}
use Rattle.shared_reads.specs.declared.marks.Change.{Change}
use Rattle.shared_reads.specs.declared.marks.Front.{Front}
use Rattle.shared_reads.specs.declared.marks.Mark.{Mark}
use Rattle.shared_reads.specs.declared.marks.Mark.TheVariants.{Changed, Ended}

-- nothing is published yet
abbrev pub nothing : Front
nothing = record { changes = []; finished = false }

-- the front is a beginning of the whole, and all of it where it is finished
pub record IsFrontOf (whole front : Front) : Type 0 where
  pub begins : IsPrefix front.changes whole.changes
  pub ends : front.finished ≡ true → front ≡ whole

-- the list with one mark more
abbrev pub onwards : Front → Mark → Front
onwards front (Changed change) = record { changes = front.changes ++ change ∷ []; finished = front.finished }
onwards front Ended = record { changes = front.changes; finished = true }

-- the list with more changes
abbrev pub adds : Front → List Change → Front
adds front changes = record { changes = front.changes ++ changes; finished = front.finished }

-- the list, finished
abbrev pub finished : Front → Front
finished front = record { changes = front.changes; finished = true }

-- the longer of two lists, which the other begins
pub record IsLonger (one other longer : Front) : Type 0 where
  pub one_begins : IsFrontOf longer one
  pub other_begins : IsFrontOf longer other
  pub either : (longer ≡ one) ⊎ (longer ≡ other)

-- ---- histories

-- what was reached of a history: which one it is, and the list then
pub record Reach : Type 0 where
  pub book : Book
  pub list : Front

-- a history: nothing follows an end mark
abbrev pub IsHistory : List Mark → Type 0
IsHistory [] = Unit {0}
IsHistory (Changed change ∷ marks) = IsHistory marks
IsHistory (Ended ∷ marks) = marks ≡ []

-- the list that a history tells
abbrev pub list_told : List Mark → Front
list_told [] = nothing
list_told (Changed change ∷ marks) = record { changes = change ∷ (list_told marks).changes; finished = (list_told marks).finished }
list_told (Ended ∷ marks) = finished nothing
