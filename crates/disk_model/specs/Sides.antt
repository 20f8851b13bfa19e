-- The bytes of each side of a bank in memory. The private calls on a side cite it, and on both.
use Rattle.std.specs.Prelude.{◌≡◌, ℕ, Bool, false, List, ◌++◌}
use Rattle.mld_io.specs.declared.banks.Side.{Side}
use Rattle.mld_io.specs.declared.banks.Side.TheVariants.{A, B}
use Rattle.mld_io.specs.declared.banks.Leave.{Leave}
use Rattle.mld_io.specs.declared.banks.Leave.TheVariants.{Lose, Keep, Torn}
use Rattle.mld_io.specs.Disk.{Sides}

-- the bytes of one side: as reads give them, as a crash leaves them that loses or tears each unsynced write; and whether there
-- is such a write
pub record SideValue : Type 0 where
  pub seen : List ℕ
  pub lost : List ℕ
  pub torn : List ℕ
  pub unsynced : Bool

-- a side that has these bytes in each of these ways, since no write on it is left to be synced
abbrev pub durable : List ℕ → SideValue
durable bytes = record { seen = bytes; lost = bytes; torn = bytes; unsynced = false }

-- both sides
pub record SidesValue : Type 0 where
  pub a : SideValue
  pub b : SideValue

-- the bytes of one side as such a crash leaves them
abbrev pub bytes_at : Leave → SideValue → List ℕ
bytes_at Lose side = side.lost
bytes_at Keep side = side.seen
bytes_at Torn side = side.torn

-- both sides as such a crash leaves them
abbrev pub sides_at : Leave → SidesValue → Sides
sides_at leave sides = record { a = bytes_at leave sides.a; b = bytes_at leave sides.b }

-- whether a side has a write that isn't synced
abbrev pub is_unsynced : Side → SidesValue → Bool
is_unsynced A sides = sides.a.unsynced
is_unsynced B sides = sides.b.unsynced

-- a list that keeps what it has, and may have more behind it
pub record ExtendsTo (old now : List ℕ) : Type 0 where
  pub more : List ℕ
  pub now_is : now ≡ old ++ more
