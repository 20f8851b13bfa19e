-- What the calls of a bank in memory lead to, and what each way to crash leaves. The calls of `MemoryBanks` cite it through `BankSteps`.
use Rattle.std.specs.Prelude.{ℕ, ◌+◌, ◌-◌, ◌/◌, ◌≤◌, Bool, true, false, not, ◌&&◌, ◌||◌, cond, List, [], ◌∷◌, ◌++◌, length, take, replicate, ⊤}
use Rattle.mld_io.specs.declared.banks.Side.{Side}
use Rattle.mld_io.specs.declared.banks.Side.TheVariants.{A, B}
use Rattle.mld_io.specs.declared.banks.Leave.{Leave}
use Rattle.mld_io.specs.declared.banks.Leave.TheVariants.{Lose, Keep, Torn}
use Rattle.mld_io.specs.Disk.{Sides, Call, Log, bytes_of, with_bytes, written}
use Rattle.mld_io.specs.Disk.Call.{Wrote, Synced, Cut}
use Rattle.disk_model.specs.DeviceSteps.{DeviceStep}
use Rattle.disk_model.specs.DeviceSteps as step

-- a piece of which the second half is torn: half of its bytes, rounded down, and then the byte 255
abbrev pub torn_piece : List ℕ → List ℕ
torn_piece piece = take (length piece / 2) piece ++ replicate (length piece - length piece / 2) 255

-- what a crash leaves of one write: Lose nothing of it, Keep all of it, Torn its first half and the byte 255 in the rest of its range
abbrev pub write_left : Leave → ℕ → List ℕ → List ℕ → List ℕ
write_left Lose at piece bytes = bytes
write_left Keep at piece bytes = written at piece bytes
write_left Torn at piece bytes = written at (torn_piece piece) bytes

-- What a crash leaves after these steps, the newest first. With Keep it leaves what reads give.
abbrev pub left_by : Leave → Sides → List DeviceStep → Sides
left_by leave first [] = first
left_by leave first (step.Wrote side at piece ∷ steps) = with_bytes side (write_left leave at piece (bytes_of side (left_by leave first steps))) (left_by leave first steps)
left_by leave first (step.Synced side ∷ steps) = with_bytes side (bytes_of side (left_by Keep first steps)) (left_by leave first steps)
left_by leave first (step.Cut how ∷ steps) = left_by how first steps

-- whether two sides are the same
abbrev pub same_side : Side → Side → Bool
same_side A A = true
same_side A B = false
same_side B A = false
same_side B B = true

-- whether there was a write on a side since it was last synced
abbrev pub unsynced : Side → List DeviceStep → Bool
unsynced side [] = false
unsynced side (step.Wrote on at piece ∷ steps) = same_side on side || unsynced side steps
unsynced side (step.Synced on ∷ steps) = not (same_side on side) && unsynced side steps
unsynced side (step.Cut how ∷ steps) = false

-- each write began within its side
abbrev pub AreInOrder : Sides → List DeviceStep → Type 0
AreInOrder first [] = ⊤
AreInOrder first (step.Wrote side at piece ∷ steps) = (at ≤ length (bytes_of side (left_by Keep first steps))) × AreInOrder first steps
AreInOrder first (step.Synced side ∷ steps) = AreInOrder first steps
AreInOrder first (step.Cut how ∷ steps) = AreInOrder first steps

-- the calls that these steps are
abbrev pub calls_of_steps : Sides → List DeviceStep → List Call
calls_of_steps first [] = []
calls_of_steps first (step.Wrote side at piece ∷ steps) = Wrote side at piece ∷ calls_of_steps first steps
calls_of_steps first (step.Synced side ∷ steps) = Synced side ∷ calls_of_steps first steps
calls_of_steps first (step.Cut how ∷ steps) = Cut (left_by how first steps) ∷ calls_of_steps first steps

-- the log that these steps make
abbrev pub log_of : Sides → List DeviceStep → Log
log_of first steps = record { first = first; calls = calls_of_steps first steps }

-- how many steps the syncs of both sides and a revival may add, by which sides have writes that aren't synced
abbrev pub room_for : Bool → Bool → ℕ
room_for a b = cond a 1 0 + cond b 1 0 + cond (a || b) 1 0
