-- Writes that aren't synced, as a side keeps them: with what they covered, so that they can be taken back. The lists have the oldest
-- write first. The private calls that take writes back cite it.
use Rattle.std.specs.Prelude.{◌≡◌, ℕ, ◌+◌, ◌-◌, ◌≤◌, max, min, List, [], ◌∷◌, length, take, drop, ⊤}
use Rattle.mld_io.specs.Disk.{written}
use Rattle.disk_model.specs.SideSteps.{torn_piece}
use Rattle.disk_model.specs.declared.unsynced.Unsynced.{Unsynced}

-- this write puts a piece over these bytes
pub record CoversBytes (at : ℕ) (piece bytes : List ℕ) (write : Unsynced) : Type 0 where
  pub at_is : write.at ≡ at
  pub piece_is : write.piece ≡ piece
  pub covered_is : write.covered ≡ take (min (length bytes) (at + length piece) - at) (drop at bytes)
  pub size_is : write.size ≡ length bytes

-- the bytes before a write, from those after it
abbrev pub before : Unsynced → List ℕ → List ℕ
before write bytes = take write.size (written write.at write.covered bytes)

-- the bytes before all of these writes, from those after them: each of them is lost
abbrev pub lost_by : List Unsynced → List ℕ → List ℕ
lost_by [] bytes = bytes
lost_by (write ∷ writes) bytes = before write (lost_by writes bytes)

-- the bytes after these writes, each of which is torn
abbrev pub torn_by : List Unsynced → List ℕ → List ℕ
torn_by [] bytes = bytes
torn_by (write ∷ writes) bytes = torn_by writes (written write.at (torn_piece write.piece) bytes)

-- how long the side was before these writes, after which it is so long
abbrev pub first_size : List Unsynced → ℕ → ℕ
first_size [] size = size
first_size (write ∷ writes) size = write.size

-- each write began within its side, which has so many bytes after the last
abbrev pub AreChained : List Unsynced → ℕ → Type 0
AreChained [] size = ⊤
AreChained (write ∷ writes) size =
    (write.at + length write.covered ≤ write.size) × (first_size writes size ≡ max write.size (write.at + length write.piece)) × AreChained writes size
