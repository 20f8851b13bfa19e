-- Numbers and pieces as bytes. Numbers are big-endian.
use Rattle.std.specs.Prelude.{◌≡◌, ℕ, ◌+◌, ◌-◌, ◌<◌, ◌≤◌, ◌^◌, List, [], ◌∷◌, ◌++◌, length, take, drop}
use Rattle.std.specs.Int.{w32, w64, to_be_bytes, from_be_bytes}
use Rattle.byteorder.specs.Endian.{big_bytes, big_number}

-- a byte
abbrev pub u8_bytes : ℕ → List ℕ
u8_bytes n = n ∷ []

-- the four bytes of a number
unfoldable pub u32_bytes : ℕ → List ℕ
u32_bytes n = to_be_bytes w32 n

-- the eight bytes of a number
unfoldable pub u64_bytes : ℕ → List ℕ
u64_bytes n = to_be_bytes w64 n

-- the number that four bytes are
unfoldable pub u32_number : List ℕ → ℕ
u32_number bytes = from_be_bytes w32 bytes

-- the lowest bytes of a number, as many as are asked for
abbrev pub number_bytes : ℕ → ℕ → List ℕ
number_bytes size n = big_bytes size n

-- the number that the first bytes are, as many as are asked for
unfoldable pub number_in : ℕ → List ℕ → ℕ
number_in size bytes = big_number size bytes

-- a piece: its length in four bytes, and its bytes
abbrev pub piece_bytes : List ℕ → List ℕ
piece_bytes piece = u32_bytes (length piece) ++ piece

-- these bytes stand in the input from one place to the next
pub record IsAt (bytes input : List ℕ) (at next : ℕ) : Type 0 where
  pub front : drop at input ≡ bytes ++ drop next input
  pub next_is : next ≡ at + length bytes
  pub within : next ≤ length input

-- the bytes of no number come first
abbrev pub HasNoNumber : (ℕ → List ℕ) → List ℕ → Type 0
HasNoNumber bytes_of input = (n : ℕ) (rest : List ℕ) → ¬ (input ≡ bytes_of n ++ rest)

-- the bytes of a piece stand in the input at a place, the piece itself from a start to a stop
pub record IsPieceAt (input : List ℕ) (at start stop : ℕ) : Type 0 where
  pub bytes : IsAt (piece_bytes (take (stop - start) (drop start input))) input at stop
  pub start_is : start ≡ at + 4
  pub ordered : start ≤ stop
  pub short : stop - start < 2 ^ 32

-- the bytes of no piece come first
abbrev pub HasNoPiece : List ℕ → Type 0
HasNoPiece input = (piece rest : List ℕ) → length piece < 2 ^ 32 → ¬ (input ≡ piece_bytes piece ++ rest)
