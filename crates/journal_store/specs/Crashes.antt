-- What a crash at some moment of a call may leave. `create`, the appends and the swaps cite it by `Closing.antt`, and `mount` has `LeavesNothingNew`.
use Rattle.std.specs.Prelude.{◌≡◌, ◌⊎◌, ℕ, ◌≤◌, List, [], ◌∷◌, Option, length}
use Rattle.mld_io.specs.Arm.{Arm, Unarmed, Armed, Caught}
use Rattle.mld_io.specs.Disk.{Call, Log, Sides, bytes_of, seen, MayLeave, LeavesMeanwhile}
use Rattle.mld_io.specs.Disk.Call.{Wrote, Broke, Synced, Cut}
use Rattle.mld_io.specs.declared.banks.Side.{Side}
use Rattle.journal_sides.specs.Format.{open_gate}
use Rattle.journal_sides.specs.Pairs.{PairReading, read_banks}
use Rattle.journal_sides.specs.SideReadings.{SideReading, IsClosed, IsOpen, IsDamaged, read_side, volume_bytes}

-- a gate that a call opens: its side, its place, and how many calls that write or sync stand before its write
pub record Gate : Type 0 where
  pub side : Side
  pub place : ℕ
  pub before : ℕ

-- the gate of an append at this place
abbrev pub append_gate : Side → ℕ → Gate
append_gate side place = record { side = side; place = place; before = 2 }

-- the gate of a side that is written anew
abbrev pub first_gate : Side → Gate
first_gate side = record { side = side; place = 0; before = 4 }

-- the place of the closed gate behind the last record of a side that is open
abbrev pub place_behind : SideReading → ℕ
place_behind (IsOpen volume) = length (volume_bytes volume)
place_behind IsClosed = 0
place_behind (IsDamaged place) = 0

-- the gate that an append to a side opens
abbrev pub gate_behind : Side → Log → Gate
gate_behind side log = append_gate side (place_behind (read_side (bytes_of side (seen log))))

-- the call writes the mark that opens the gate at this place
abbrev pub Opens : Side → ℕ → Call → Type 0
Opens side place (Wrote on at piece) = (on ≡ side) × (at ≡ place) × (piece ≡ open_gate ∷ [])
Opens side place (Broke on at piece now) = (on ≡ side) × (at ≡ place) × (piece ≡ open_gate ∷ [])
Opens side place (Synced on) = ⊥
Opens side place (Cut sides) = ⊥

-- among these calls is the write that opens the gate at this place, whether it was done or failed
abbrev pub HasOpened : Side → ℕ → List Call → Type 0
HasOpened side place [] = ⊥
HasOpened side place (call ∷ calls) = Opens side place call ⊎ HasOpened side place calls

-- so many calls that write or sync are done before the arm catches one
abbrev pub Allows : ℕ → Arm → Type 0
Allows calls Unarmed = Unit {0}
Allows calls (Armed number leave) = calls ≤ number
Allows calls Caught = calls ≡ 0

-- the write of the gate was issued: the arm let the calls before it be done, and it stands among the calls
pub record IsIssued (arm : Arm) (gate : Gate) (calls : List Call) : Type 0 where
  pub allowed : Allows gate.before arm
  pub opened : HasOpened gate.side gate.place calls

-- what a crash left reads as before, or, only once the write of the gate was issued, as after
abbrev pub ReadsEither : PairReading → PairReading → Arm → Gate → List Call → Sides → Type 0
ReadsEither before after arm gate calls image = (read_banks image ≡ before) ⊎ (IsIssued arm gate calls × (read_banks image ≡ after))

-- so it is at each moment since, where the device had this arm at first
abbrev pub LeavesEither : Log → Option Log → PairReading → PairReading → Arm → Gate → Type 0
LeavesEither old now before after arm gate = LeavesMeanwhile old now (ReadsEither before after arm gate)

-- at each moment since a crash leaves no pair of sides that it might not have left at first
abbrev pub LeavesNothingNew : Log → Option Log → Type 0
LeavesNothingNew old now = LeavesMeanwhile old now (λ calls image. MayLeave old image)
