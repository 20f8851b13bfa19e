-- What a device with two sides keeps, and what a crash leaves of it.
--
-- Between two syncs of a side, each range that was written, and the part past the old end, may hold any bytes after a
-- crash; other bytes stay. A side is then as long as it was at its last sync, or as it is now, or between, so a byte that is
-- new may be missing. After a sync a crash leaves what reads give. A call that fails may have done any part of its work.
use Rattle.std.specs.Prelude.{◌≡◌, ◌⊎◌, ℕ, ◌+◌, ◌≤◌, max, List, [], ◌∷◌, ◌++◌, length, take, drop, slice_get, Option, Some}
use Rattle.mld_io.specs.declared.banks.Side.{Side}
use Rattle.mld_io.specs.declared.banks.Side.TheVariants.{A, B}

-- the bytes of both sides
pub record Sides : Type 0 where
  pub a : List ℕ
  pub b : List ℕ

-- the bytes of one side
abbrev pub bytes_of : Side → Sides → List ℕ
bytes_of A sides = sides.a
bytes_of B sides = sides.b

-- the other side
abbrev pub other_side : Side → Side
other_side A = B
other_side B = A

-- the sides with these bytes on one of them
abbrev pub with_bytes : Side → List ℕ → Sides → Sides
with_bytes A bytes sides = record sides { a = bytes }
with_bytes B bytes sides = record sides { b = bytes }

-- bytes with a piece over them from this place on
abbrev pub written : ℕ → List ℕ → List ℕ → List ℕ
written at piece bytes = take at bytes ++ piece ++ drop (at + length piece) bytes

-- What a write of a piece may leave of the bytes of a side, if it is cut short. That it leaves them as they were is one such
-- case, so each instant inside a call is covered too.
pub record Torn (at : ℕ) (piece old now : List ℕ) : Type 0 where
  -- other bytes stay: a write of one record harms no other one
  pub before : take at now ≡ take at old
  pub after : drop (at + length piece) now ≡ drop (at + length piece) old
  -- what was durable isn't lost, and nothing stands behind what was written: the end of what is read is known
  pub no_shorter : length old ≤ length now
  pub no_longer : length now ≤ max (length old) (at + length piece)
  -- a write of the one byte 0 leaves the old byte or one other than 1: a mark that is written as not set can't be set by a crash
  pub unset : piece ≡ 0 ∷ [] → slice_get now at ≡ Some 1 → slice_get old at ≡ Some 1

-- what such a write on one side may leave of both
pub record TornOn (side : Side) (at : ℕ) (piece : List ℕ) (old now : Sides) : Type 0 where
  pub torn : Torn at piece (bytes_of side old) (bytes_of side now)
  -- the other side stays: while one side is written, what stands on the other is safe
  pub other : bytes_of (other_side side) now ≡ bytes_of (other_side side) old

-- a call that changed what reads give, or what a crash may leave
pub data Call : Type 0 where
  -- a write of a piece from a place on was done
  Wrote : Side → ℕ → List ℕ → Call
  -- such a write failed, and left the side with these bytes
  Broke : Side → ℕ → List ℕ → List ℕ → Call
  -- a side was synced
  Synced : Side → Call
  -- the power was cut, which left these sides
  Cut : Sides → Call

-- what a device was at first, and the calls since, the newest first
pub record Log : Type 0 where
  pub first : Sides
  pub calls : List Call

-- the log with one call more
abbrev pub grown : Call → Log → Log
grown call log = record log { calls = call ∷ log.calls }

-- the log with more calls, the newest first
abbrev pub grown_by : List Call → Log → Log
grown_by added log = record log { calls = added ++ log.calls }

-- what reads give after these calls
abbrev pub seen_after : Sides → List Call → Sides
seen_after first [] = first
seen_after first (Wrote side at piece ∷ calls) =
    with_bytes side (written at piece (bytes_of side (seen_after first calls))) (seen_after first calls)
seen_after first (Broke side at piece now ∷ calls) = with_bytes side now (seen_after first calls)
seen_after first (Synced side ∷ calls) = seen_after first calls
seen_after first (Cut sides ∷ calls) = sides

-- what reads give
abbrev pub seen : Log → Sides
seen log = seen_after log.first log.calls

-- what a crash after these calls may leave
abbrev pub LeftAfter : Sides → List Call → Sides → Type 0
LeftAfter first [] image = image ≡ first
LeftAfter first (Wrote side at piece ∷ calls) image = (old : Sides) × LeftAfter first calls old × TornOn side at piece old image
LeftAfter first (Broke side at piece now ∷ calls) image = (old : Sides) × LeftAfter first calls old × TornOn side at piece old image
LeftAfter first (Synced side ∷ calls) image = LeftAfter first calls image × (bytes_of side image ≡ bytes_of side (seen_after first calls))
LeftAfter first (Cut sides ∷ calls) image = image ≡ sides

-- what a crash now may leave
abbrev pub MayLeave : Log → Sides → Type 0
MayLeave log image = LeftAfter log.first log.calls image

-- each pair of sides that a crash now may leave is such a one
abbrev pub LeavesOnly : Log → (Sides → Type 0) → Type 0
LeavesOnly log P = (image : Sides) → MayLeave log image → P image

-- a crash now leaves a side as reads give it
abbrev pub IsSettledOn : Side → Log → Type 0
IsSettledOn side log = LeavesOnly log (λ image. bytes_of side image ≡ bytes_of side (seen log))

-- a crash now leaves both sides as reads give them
abbrev pub IsSettled : Log → Type 0
IsSettled log = LeavesOnly log (λ image. image ≡ seen log)

-- What a write leaves of a log, whatever it answers: all of its work, a part of it or none. Callers that go on after a failure
-- need that no more than this can have happened.
abbrev pub Writes : Side → ℕ → List ℕ → Log → Option Log → Type 0
Writes side at piece log now =
    (now ≡ Some log) ⊎ (now ≡ Some (grown (Wrote side at piece) log))
    ⊎ ((bytes : List ℕ) × Torn at piece (bytes_of side (seen log)) bytes × (now ≡ Some (grown (Broke side at piece bytes) log)))

-- what a sync leaves of a log that was done; where nothing was unsynced, it may add nothing
abbrev pub Syncs : Side → Log → Option Log → Type 0
Syncs side log now = (now ≡ Some (grown (Synced side) log)) ⊎ ((now ≡ Some log) × IsSettledOn side log)

-- what a revival leaves of a log: the crash left one of the pairs that it might; where nothing was unsynced, it may add nothing
pub record Revives (log : Log) (now : Option Log) : Type 0 where
  pub image : Sides
  pub left : MayLeave log image
  pub now_is : (now ≡ Some (grown (Cut image) log)) ⊎ ((now ≡ Some log) × IsSettled log)

-- a crash at some moment since then, from before the first of the added calls to after the last one, may have left this
abbrev pub MightHaveLeft : Log → List Call → Sides → Type 0
MightHaveLeft old [] image = MayLeave old image
MightHaveLeft old (call ∷ added) image = MayLeave (grown_by (call ∷ added) old) image ⊎ MightHaveLeft old added image

-- At each moment since then, a crash leaves only such pairs. What they are like may depend on the calls that were added by then:
-- so it can be said that a change shows only once the write that makes it was issued.
abbrev pub AtEachMoment : Log → List Call → (List Call → Sides → Type 0) → Type 0
AtEachMoment old [] P = LeavesOnly old (P [])
AtEachMoment old (call ∷ added) P =
    AtEachMoment old added P × ((image : Sides) → MayLeave (grown_by (call ∷ added) old) image → P (call ∷ added) image)

-- calls were added to a log, and at each moment since a crash leaves only such pairs
pub record LeavesMeanwhile (old : Log) (now : Option Log) (P : List Call → Sides → Type 0) : Type 0 where
  pub added : List Call
  pub now_is : now ≡ Some (grown_by added old)
  pub each : AtEachMoment old added P
