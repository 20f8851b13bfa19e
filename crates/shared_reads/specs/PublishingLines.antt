-- What contracts see of a line, and what its calls make of it. `Line` cites it, which is private.
use Rattle.std.specs.Prelude.{◌≡◌, ◌⊎◌, false, List, []}
use Rattle.logbook.specs.Pages.{Book}
use Rattle.mld_ops.specs.declared.tagged.Tagged.{Tagged}
use Rattle.shared_reads.specs.declared.copies.Published.{Published}
use Rattle.shared_reads.specs.declared.deeds.Deed.TheVariants as deeds
use Rattle.shared_reads.specs.declared.lines.Standing.{Standing}
use Rattle.shared_reads.specs.declared.lines.Standing.TheVariants.{Level, Ending}
use Rattle.shared_reads.specs.declared.marks.Change.{Change}
use Rattle.shared_reads.specs.declared.marks.Front.{Front}
use Rattle.shared_reads.specs.declared.marks.Mark.TheVariants.{Changed}
use Rattle.shared_reads.specs.Copies.{ShownValue, IsShown, WaitsNext}
use Rattle.shared_reads.specs.Fronts.{Reach, finished, nothing, onwards}

-- the published list, and where the line stands
pub record LineValue : Type 0 where
  pub list : Front
  pub standing : Standing

-- nothing is published yet
abbrev pub opened_line : LineValue
opened_line = record { list = nothing; standing = Level }

-- a change was published, and the end mark
abbrev pub changed_line : LineValue → Change → LineValue
changed_line line change = record { list = onwards line.list (Changed change); standing = Level }

abbrev pub ended_line : LineValue → LineValue
ended_line line = record { list = finished line.list; standing = Level }

-- the end mark waits to be published behind what is shown, and nothing else
pub record HasEnd (shown : ShownValue) (pending : List Published) : Type 0 where
  pub next : Published
  pub is : WaitsNext shown pending next
  pub deed : next.deed ≡ deeds.End

-- nothing waits, or the end mark does
abbrev pub AwaitsEnd : ShownValue → List Published → Type 0
AwaitsEnd shown pending = (pending ≡ []) ⊎ HasEnd shown pending

-- the line is of the history, and what it shows too; a level line has all of its history published, and one that ends all but the end mark
pub record IsKeptLine (history : Book) (opening : List Tagged) (own : Book) (whole : Reach) (shown : ShownValue) (pending : List Published) (standing : Standing) : Type 0 where
  pub own_is : own ≡ history
  pub shown_is : IsShown history opening shown
  pub none : standing ≡ Level → pending ≡ []
  pub level : standing ≡ Level → whole ≡ shown.reach
  pub going : standing ≡ Ending → shown.reach.list.finished ≡ false
  pub ending : standing ≡ Ending → whole ≡ record { book = shown.reach.book; list = finished shown.reach.list }
  pub waits : standing ≡ Ending → AwaitsEnd shown pending
