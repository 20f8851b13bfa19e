-- How a side keeps its bytes. A private invariant cites it.
use Rattle.std.specs.Prelude.{◌≤◌, vec_len}
use Rattle.disk_model.specs.declared.sides.SideBytes.TheInside.{Inside}
use Rattle.disk_model.specs.Covered.{AreChained}

-- The list is long enough, and the unsynced writes lead to its length.
pub record IsSideInside (s : Inside) : Type 0 where
  pub in_seen : s.size ≤ vec_len s.seen
  pub chained : AreChained s.writes.items s.size
