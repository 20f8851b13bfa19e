-- Several calls of a journal for one change, the first of which may be done before. `append_short` and `append_one` cite it, which are private.
use Rattle.std.specs.Prelude.{◌≡◌, Bool, true, false, Option, None}
use Rattle.mld_io.specs.Arm.{Meter}
use Rattle.mld_io.specs.Disk.{Log}
use Rattle.journal_store.specs.Closing.{WasCalled, MayTurn}
use Rattle.journal_store.specs.Standing.{JournalValue}

-- a change began at an open journal; where calls were done for it, the device was called since, and else nothing has changed
pub record ChangeBegan {B : Type 0} (log : B → Option Log) (meter : B → Meter) (swaps begun : Bool) (first now : JournalValue B) : Type 0 where
  pub was : first.closed ≡ None
  pub turned : MayTurn swaps first now
  pub fresh : begun ≡ false → now ≡ first
  pub called : begun ≡ true → WasCalled log meter first.banks now.banks
