-- What becomes of lists of rows where some go and some come. `moved`, `beyond` and `unknown_of` cite it.
use Rattle.std.specs.Prelude.{◌≡◌, ℕ, ◌+◌, ◌-◌, ◌≤◌, List, [], min, Option, vec_capacity}
use Rattle.rdf_terms.specs.declared.terms.Term.{Term}
use Rattle.reply_rows.specs.declared.moves.Rooms.{Rooms}
use Rattle.reply_rows.specs.Rising.{IsRising, row_order}
use Rattle.reply_rows.specs.Times.{times}

-- room for so many rows and so many more
pub record HasRowRoom (rows more : ℕ) (rooms : Rooms) : Type 0 where
  pub stay_none : rooms.stay.items ≡ []
  pub stay : rows ≤ vec_capacity rooms.stay
  pub whole_none : rooms.whole.items ≡ []
  pub whole : rows + more ≤ vec_capacity rooms.whole

-- each row stands in a list as often as it does more in one than in another
pub record AreBeyond (more fewer rows : List (List (Option Term))) : Type 0 where
  pub rising : IsRising row_order rows
  pub often : (row : List (Option Term)) → times row rows ≡ times row more - times row fewer

-- of rows those that aren't known, each once
pub record AreRowsUnknown (rows known unknown : List (List (Option Term))) : Type 0 where
  pub rising : IsRising row_order unknown
  pub often : (row : List (Option Term)) → times row unknown ≡ min 1 (times row rows) - times row known

-- a list once some rows go and some come
pub record IsMoved (rows go come moved : List (List (Option Term))) : Type 0 where
  pub rising : IsRising row_order moved
  pub often : (row : List (Option Term)) → times row moved ≡ (times row rows - times row go) + times row come
