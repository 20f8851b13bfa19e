-- A list that is put in order.
use Rattle.std.specs.Prelude.{List, ◌↔◌}
use Rattle.std.specs.declared.cmp.Ordering.{Ordering}
use Rattle.tree_clock.specs.Lists.{Has, IsAscending}

-- the same items, ascending, each once
pub record IsPutInOrder {X : Type 0} (order : X → X → Ordering) (given kept : List X) : Type 0 where
  pub ascending : IsAscending order kept
  pub members : (item : X) → Has kept item ↔ Has given item
