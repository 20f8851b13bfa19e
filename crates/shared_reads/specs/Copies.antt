-- The two copies: what they show, what one swap makes of it, and their rule. `Shown`, `Published` and `Shows` cite it, which are private.
use Rattle.std.specs.Prelude.{◌≡◌, List, [], ◌∷◌}
use Rattle.logbook.specs.Pages.{Book}
use Rattle.mld_ops.specs.declared.tagged.Tagged.{Tagged}
use Rattle.shared_reads.specs.declared.copies.Published.{Published}
use Rattle.shared_reads.specs.declared.marks.Front.{Front}
use Rattle.shared_reads.specs.Fronts.{Reach, onwards}
use Rattle.shared_reads.specs.HistoryRule.{mark_of}
use Rattle.shared_reads.specs.PairChanges.{after_mark, pairs_after}

-- pairs, and the list after which they are, as what was reached of a history
pub record ShownValue : Type 0 where
  pub pairs : List Tagged
  pub reach : Reach

-- what is published does its deed to the pairs, and the list is its own
abbrev pub applied : ShownValue → Published → ShownValue
applied shown published = record { pairs = after_mark shown.pairs (mark_of published.deed); reach = published.list }

-- what is shown is of the history, and its pairs are those after its list
pub record IsShown (history : Book) (opening : List Tagged) (shown : ShownValue) : Type 0 where
  pub book : shown.reach.book ≡ history
  pub pairs : shown.pairs ≡ pairs_after opening shown.reach.list.changes

-- one thing waits to be published, whose list goes on from what is shown by its mark
pub record WaitsNext (shown : ShownValue) (pending : List Published) (next : Published) : Type 0 where
  pub one : pending ≡ next ∷ []
  pub is : next.list ≡ record { book = shown.reach.book; list = onwards shown.reach.list (mark_of next.deed) }
