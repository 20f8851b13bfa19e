-- How bytes are read from a place: a value, the place behind it and the bytes that are left, or the place of a fault.
-- The grammars of the other files are made of it.
use Rattle.std.specs.Prelude.{ℕ, ◌+◌, List, [], ◌∷◌, nat_le, length, take, drop, if◌then◌else◌}
use Rattle.mld_bytes.specs.Bytes.{u32_number}

-- what reading gives: a value with the place behind it and what is left there, or the place of a fault
pub data Reading (X : Type 0) : Type 0 where
  Found : X → ℕ → List ℕ → Reading X
  Fault : ℕ → Reading X

-- reading goes on where it stands
abbrev pub chain : {X Y : Type 0} → Reading X → (X → ℕ → List ℕ → Reading Y) → Reading Y
chain (Found value place rest) next = next value place rest
chain (Fault place) next = Fault place

-- so many bytes
unfoldable pub read_piece : ℕ → ℕ → List ℕ → Reading (List ℕ)
read_piece size place bytes =
    if nat_le size (length bytes) then Found (take size bytes) (place + size) (drop size bytes) else Fault place

-- one byte
abbrev pub read_u8 : ℕ → List ℕ → Reading ℕ
read_u8 place [] = Fault place
read_u8 place (byte ∷ bytes) = Found byte (place + 1) bytes

-- a number of four bytes
unfoldable pub read_u32 : ℕ → List ℕ → Reading ℕ
read_u32 place bytes = chain (read_piece 4 place bytes) (λ piece next rest. Found (u32_number piece) next rest)
