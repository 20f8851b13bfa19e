-- What writing on a device leaves at each moment: the bytes in front of a gate stay, and a gate is opened only by the write
-- that is to open it. `append_body` and `fill_side` cite it, which are private.
use Rattle.std.specs.Prelude.{◌≡◌, ◌≢◌, ◌⊎◌, ℕ, ◌+◌, List, [], ◌∷◌, ◌++◌, length, take, drop, slice_get, Option, Some}
use Rattle.mld_io.specs.declared.banks.Side.{Side}
use Rattle.mld_io.specs.Disk.{Call, Log, Sides, bytes_of, other_side, with_bytes, written, seen, IsSettled}
use Rattle.mld_io.specs.Arm.{Arm}
use Rattle.journal_store.specs.Crashes.{IsIssued, append_gate, first_gate}

-- bytes up to a gate, and the gate, are as they were
abbrev pub KeepsGate : ℕ → List ℕ → List ℕ → Type 0
KeepsGate gate old now = take (gate + 1) now ≡ take (gate + 1) old

-- the bytes up to a gate are as they were, and the body stands behind the gate; the gate may be any byte
pub record HasBehind (gate : ℕ) (body old now : List ℕ) : Type 0 where
  pub front : take gate now ≡ take gate old
  pub behind : drop (gate + 1) now ≡ body ++ drop (gate + 1 + length body) old

-- what may be there at a moment of an append: the bytes up to the gate as they were, with the gate, or, only once the write of
-- the gate was issued, the body behind it
pub record IsAppending (arm : Arm) (side : Side) (gate : ℕ) (body : List ℕ) (old : Sides) (calls : List Call) (image : Sides) : Type 0 where
  pub other : bytes_of (other_side side) image ≡ bytes_of (other_side side) old
  pub side_is : KeepsGate gate (bytes_of side old) (bytes_of side image)
      ⊎ (IsIssued arm (append_gate side gate) calls × HasBehind gate body (bytes_of side old) (bytes_of side image))

-- the bytes once a body stands behind a gate that is open
abbrev pub appended : ℕ → List ℕ → List ℕ → List ℕ
appended gate body bytes = written gate (1 ∷ []) (written (gate + 1) body bytes)

-- the log once a side has other bytes that are settled
pub record HasBytes (side : Side) (bytes : List ℕ) (old : Log) (now : Option Log) : Type 0 where
  pub log : Log
  pub now_is : now ≡ Some log
  pub settled : IsSettled log
  pub seen_is : seen log ≡ with_bytes side bytes (seen old)

-- what may be there at a moment while a side is written anew: it is as it was, or its first gate is shut, or, only once the
-- write of the gate was issued, the body stands behind it
pub record IsFilling (arm : Arm) (side : Side) (body : List ℕ) (old : Sides) (calls : List Call) (image : Sides) : Type 0 where
  pub other : bytes_of (other_side side) image ≡ bytes_of (other_side side) old
  pub side_is : (bytes_of side image ≡ bytes_of side old)
      ⊎ ((slice_get (bytes_of side image) 0 ≢ Some 1)
      ⊎ (IsIssued arm (first_gate side) calls × (drop 1 (bytes_of side image) ≡ body ++ drop (1 + length body) (bytes_of side old))))

-- the bytes of a side that was written anew
abbrev pub filled : List ℕ → List ℕ → List ℕ
filled body bytes = 1 ∷ (body ++ drop (1 + length body) bytes)
