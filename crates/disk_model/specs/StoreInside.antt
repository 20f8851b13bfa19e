-- How a bank in memory keeps its sides. A private invariant cites it.
use Rattle.std.specs.Prelude.{◌≡◌, ◌≤◌}
use Rattle.mld_io.specs.declared.banks.Side.{Side}
use Rattle.mld_io.specs.declared.banks.Side.TheVariants.{A, B}
use Rattle.mld_io.specs.declared.banks.Leave.{Leave}
use Rattle.mld_io.specs.Disk.{Sides}
use Rattle.disk_model.specs.Sides.{sides_at, is_unsynced}
use Rattle.disk_model.specs.SideSteps.{left_by, unsynced, AreInOrder, room_for}
use Rattle.disk_model.specs.declared.store.Store.TheInside.{Inside}

-- the sides at first
abbrev pub first_of : Inside → Sides
first_of s = record { a = s.first_a; b = s.first_b }

-- The sides are what the steps lead to, in each way to crash, and there is room for the syncs and the revival that may follow.
pub record IsStoreInside (s : Inside) : Type 0 where
  pub left : (leave : Leave) → sides_at leave s.sides ≡ left_by leave (first_of s) s.steps.steps
  pub unsynced_are : (side : Side) → is_unsynced side s.sides ≡ unsynced side s.steps.steps
  pub in_order : AreInOrder (first_of s) s.steps.steps
  pub room : room_for (unsynced A s.steps.steps) (unsynced B s.steps.steps) ≤ s.steps.room
