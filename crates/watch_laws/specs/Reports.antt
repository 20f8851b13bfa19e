-- What a report tells of the rows of a watch before and behind a change. `Live::change` cites it.
use Rattle.std.specs.Prelude.{◌≡◌, ◌-◌, List, Option}
use Rattle.std.specs.List.Sorted.{IsSorted}
use Rattle.rdf_terms.specs.declared.terms.Term.{Term}
use Rattle.reply_rows.specs.Rising.{row_order}
pub use Rattle.reply_rows.specs.Times.{is_same_row, times}

-- each row stands in the list as often as it does more in the one list than in the other, in the order of replies
pub record AreMore (more fewer rows : List (List (Option Term))) : Type 0 where
  pub sorted : IsSorted row_order rows
  pub often : (row : List (Option Term)) → times row rows ≡ times row more - times row fewer

-- the rows that come and those that go
pub record IsReport (old new added removed : List (List (Option Term))) : Type 0 where
  pub come : AreMore new old added
  pub go : AreMore old new removed
