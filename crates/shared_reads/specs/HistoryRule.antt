-- The rule of a history, and what a step of it tells. `History` and `Reached` cite it, which are private.
use Rattle.std.specs.Prelude.{ℕ, ◌≡◌, ◌==◌, true, List, [], ◌∷◌, ◌++◌, length, MatchBool}
use Rattle.logbook.specs.Pages.{Cell, Step, View, Book, Named}
use Rattle.mld_ops.specs.declared.cuts.Cut.{Cut}
use Rattle.shared_reads.specs.declared.deeds.Deed.{Deed}
use Rattle.shared_reads.specs.declared.deeds.Deed.TheVariants as deeds
use Rattle.shared_reads.specs.declared.marks.Change.{Change}
use Rattle.shared_reads.specs.declared.marks.Mark.{Mark}
use Rattle.shared_reads.specs.declared.marks.Mark.TheVariants.{Changed, Ended}
use Rattle.shared_reads.specs.Fronts.{IsHistory}

-- the first word is the length of the history. A book has two words, of which this one leaves the second at 0
pub record IsKeptHistory (cells : List Cell) (log : List Mark) : Type 0 where
  pub words : cells ≡ (length log, true) ∷ (0, true) ∷ []
  pub history : IsHistory log

abbrev pub word_of : Book → Named
word_of book = record { tracked = true; key = 0; book = book }

-- the mark was added to all that had been seen, or the history is longer
abbrev pub AddsMark : Step Mark → View Mark ℕ → ℕ → View Mark ℕ → Type 0
AddsMark s v found w = MatchBool (found == s.old) ((w.0 ≡ v.0 ++ s.ask ∷ []) × IsHistory w.0) (Unit {0})

-- what a cut does
abbrev pub change_of : Cut → Change
change_of cut = record { drops = cut.drops.items; adds = cut.adds.items }

-- what is published by a deed
abbrev pub mark_of : Deed → Mark
mark_of (deeds.Cut cut) = Changed (change_of cut)
mark_of deeds.End = Ended
