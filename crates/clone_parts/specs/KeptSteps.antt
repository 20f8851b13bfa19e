-- The changes that calls make of what banks keep, and what a crash leaves in the middle of several. `moments` of each call of this crate cites it,
-- and `durable` of each call of a clone.
use Rattle.std.specs.Prelude.{◌≡◌, ℕ, ◌+◌, ◌-◌, ◌<◌, List, [], ◌∷◌, ◌++◌, map, Option, Some}
use Rattle.mld_io.specs.Arm.{Arm, Unarmed, Armed, Caught, Meter}
use Rattle.mld_io.specs.Disk.{Log, Sides, LeavesOnly, LeavesMeanwhile}
use Rattle.mld_ops.specs.Entry.{EntryValue}
use Rattle.journal_store.specs.journal_sides.Heads.{HeadValue}
use Rattle.journal_store.specs.journal_sides.Pairs.{Kept, PairReading, KeepsNone, Keeps, Damages, read_banks, with_entry, with_fork}
use Rattle.journal_store.specs.Calls.{KeptBy, made, swapped}
use Rattle.journal_store.specs.Crashes.{Allows}
use Rattle.journal_store.specs.Standing.{JournalValue}
use Rattle.clone_parts.specs.BankCalls.{append_calls, create_calls, swap_calls}

-- one change
pub data KeptStep : Type 0 where
  -- a journal is made of a head
  Created : HeadValue → KeptStep
  -- an entry, and a fork, is put behind what is kept
  Appended : EntryValue → KeptStep
  Forked : KeptStep
  -- a head and entries take the place of what is kept
  Swapped : HeadValue → List EntryValue → KeptStep

-- what banks say where what they keep is changed
abbrev pub changed : (Kept → Kept) → PairReading → PairReading
changed change KeepsNone = KeepsNone
changed change (Keeps kept) = Keeps (change kept)
changed change (Damages side place) = Damages side place

-- what banks say after one change
abbrev pub after_step : KeptStep → PairReading → PairReading
after_step (Created head) before = Keeps (made head)
after_step (Appended entry) before = changed (with_entry entry) before
after_step Forked before = changed with_fork before
after_step (Swapped head entries) before = changed (swapped head entries) before

-- and after several, the first one first
abbrev pub after_steps : List KeptStep → PairReading → PairReading
after_steps [] before = before
after_steps (step ∷ steps) before = after_steps steps (after_step step before)

-- how many calls of the device that write or sync a change makes; the last but one of them writes its gate
abbrev pub calls_of : KeptStep → ℕ
calls_of (Created head) = create_calls
calls_of (Appended entry) = append_calls
calls_of Forked = append_calls
calls_of (Swapped head entries) = swap_calls

abbrev pub calls_of_all : List KeptStep → ℕ
calls_of_all [] = 0
calls_of_all (step ∷ steps) = calls_of step + calls_of_all steps

-- entries that are appended in order
abbrev pub appends : List EntryValue → List KeptStep
appends entries = map Appended entries

-- Banks read as after a front of the changes. The arm that the device had at first let all calls of the front be done up to the write of
-- its last gate.
pub record ReadsSome (before : PairReading) (steps : List KeptStep) (arm : Arm) (image : Sides) : Type 0 where
  pub front : List KeptStep
  pub rest : List KeptStep
  pub whole : front ++ rest ≡ steps
  pub allowed : Allows (calls_of_all front - 2) arm
  pub reads : read_banks image ≡ after_steps front before

-- an arm catches a call before all those of the change behind these are done
abbrev pub CatchesIn : Arm → List KeptStep → List KeptStep → Type 0
CatchesIn Unarmed front rest = Unit {0}
CatchesIn (Armed number leave) front [] = Unit {0}
CatchesIn (Armed number leave) front (step ∷ rest) = number < calls_of_all front + calls_of step
CatchesIn Caught front rest = Unit {0}

-- and each change all of whose calls come before the one that the arm caught is in the front
pub record ReadsCaught (before : PairReading) (steps : List KeptStep) (arm : Arm) (image : Sides) : Type 0 where
  pub some : ReadsSome before steps arm image
  pub reached : CatchesIn arm some.front some.rest

-- At each moment since, a crash leaves what reads as after a front of the changes; and once the device has caught a call, what reads as
-- after one that this arm allows. `was` is the arm at first, and `is` the arm now.
pub record LeavesSome (old : Log) (now : Option Log) (before : PairReading) (steps : List KeptStep) (was is : Arm) : Type 0 where
  pub moments : LeavesMeanwhile old now (λ calls image. ReadsSome before steps was image)
  pub caught : is ≡ Caught → (log : Log) → now ≡ Some log → LeavesOnly log (ReadsCaught before steps was)

-- so it is where an open journal over banks that tell their log is changed by these, whatever the call answered
abbrev pub LeavesSteps : {B : Type 0} → (B → Option Log) → (B → Meter) → JournalValue B → JournalValue B → List KeptStep → Type 0
LeavesSteps log meter old new steps = (l : Log) (kept : Kept) → log old.banks ≡ Some l → KeptBy (log old.banks) old.closed kept
    → LeavesSome l (log new.banks) (Keeps kept) steps (meter old.banks).arm (meter new.banks).arm

-- and where a journal is made of a head on banks that kept nothing
abbrev pub LeavesMade : {B : Type 0} → (B → Option Log) → (B → Meter) → HeadValue → B → B → Type 0
LeavesMade log meter head old new = (l : Log) → log old ≡ Some l → LeavesSome l (log new) KeepsNone (Created head ∷ []) (meter old).arm (meter new).arm
