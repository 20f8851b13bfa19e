-- Which calls of a bank in memory fail. The private calls that count them cite it.
use Rattle.std.specs.Prelude.{◌≡◌, ◌⊎◌, ℕ, ◌-◌, ◌≤◌, List, Result, Ok, Err, ⊤}
use Rattle.std.specs.List.{Contains}
use Rattle.mld_io.specs.declared.banks.Leave.{Leave}
use Rattle.mld_io.specs.declared.banks.Leave.TheVariants.{Lose}
use Rattle.mld_io.specs.declared.faults.IoFault.{IoFault}
use Rattle.mld_io.specs.declared.faults.IoFault.TheVariants as io
use Rattle.mld_io.specs.Faults.{counted}
use Rattle.mld_io.specs.Arm.{Arm, Meter, Unarmed, Armed, Caught}
use Rattle.disk_model.specs.declared.calls.Arming.{Arming}
use Rattle.disk_model.specs.declared.calls.Arming.TheVariants as arming

-- how a bank is armed, as contracts see it
abbrev pub arm_of : Arming → Arm
arm_of arming.Unarmed = Unarmed
arm_of (arming.Armed calls leave) = Armed calls leave
arm_of (arming.Caught leave) = Caught

-- what the next crash leaves of the writes that aren't synced: what the arm said, and nothing where there is none
abbrev pub leave_of : Arming → Leave
leave_of arming.Unarmed = Lose
leave_of (arming.Armed calls leave) = leave
leave_of (arming.Caught leave) = leave

-- the number of the next call, the numbers of those that are to fail, the counts of all faults and of the real ones, and the arm
pub record CallsValue : Type 0 where
  pub next : ℕ
  pub fails : List ℕ
  pub faults : ℕ
  pub real_faults : ℕ
  pub arming : Arming

-- the counts of faults, and the arm, as contracts see them
abbrev pub meter_of : CallsValue → Meter
meter_of calls = record { faults = calls.faults; real_faults = calls.real_faults; arm = arm_of calls.arming }

-- the next call is refused: one was caught, or its number is to fail
abbrev pub IsRefusedNext : CallsValue → Type 0
IsRefusedNext calls = (arm_of calls.arming ≡ Caught) ⊎ Contains calls.fails calls.next

-- the count of real faults once a call was refused: one more where none was caught
abbrev pub refused_faults : ℕ → Arming → ℕ
refused_faults real_faults arming.Unarmed = counted real_faults
refused_faults real_faults (arming.Armed calls leave) = counted real_faults
refused_faults real_faults (arming.Caught leave) = real_faults

-- one call more
abbrev pub counted_call : CallsValue → CallsValue
counted_call calls = record calls { next = counted calls.next }

-- one call more, which was refused
abbrev pub refused_call : CallsValue → CallsValue
refused_call calls = record calls { next = counted calls.next; faults = counted calls.faults; real_faults = refused_faults calls.real_faults calls.arming }

-- the next call was refused, and counted as a fault
pub record RefusesCall (old now : CallsValue) : Type 0 where
  pub refused : IsRefusedNext old
  pub now_is : now ≡ refused_call old
  pub later : old.faults ≤ now.faults
  pub real_later : old.real_faults ≤ now.real_faults

-- a call was begun, or refused
abbrev pub BeginsCall : CallsValue → Result ⊤ IoFault → CallsValue → Type 0
BeginsCall old (Ok done) now = (¬ IsRefusedNext old) × (now ≡ old)
BeginsCall old (Err io.Failed) now = RefusesCall old now
BeginsCall old (Err io.NoMemory) now = ⊥

-- no call that writes or syncs is done any more: the next one is caught
abbrev pub IsArmSpent : Arming → Type 0
IsArmSpent arming.Unarmed = ⊥
IsArmSpent (arming.Armed calls leave) = calls ≡ 0
IsArmSpent (arming.Caught leave) = ⊥

-- the arm after one call that writes or syncs
abbrev pub lowered : Arming → Arming
lowered arming.Unarmed = arming.Unarmed
lowered (arming.Armed calls leave) = arming.Armed (calls - 1) leave
lowered (arming.Caught leave) = arming.Caught leave

-- one call more, which wrote or synced
abbrev pub lowered_call : CallsValue → CallsValue
lowered_call calls = record calls { next = counted calls.next; arming = lowered calls.arming }

-- one call more, which was caught; what the arm said of the crash stays
abbrev pub caught_call : CallsValue → CallsValue
caught_call calls = record calls { next = counted calls.next; faults = counted calls.faults; arming = arming.Caught (leave_of calls.arming) }

-- the next call was caught, and counted as a fault
pub record CatchesCall (old now : CallsValue) : Type 0 where
  pub spent : IsArmSpent old.arming
  pub now_is : now ≡ caught_call old
  pub later : old.faults ≤ now.faults

-- a call that wrote or is to sync was ended, or caught
abbrev pub Ends : CallsValue → Result ⊤ IoFault → CallsValue → Type 0
Ends old (Ok done) now = (¬ IsArmSpent old.arming) × (now ≡ lowered_call old)
Ends old (Err io.Failed) now = CatchesCall old now
Ends old (Err io.NoMemory) now = ⊥

-- the arm that was told last; one that caught a call stays
abbrev pub armed_as : ℕ → Leave → Arming → Arming
armed_as calls leave arming.Unarmed = arming.Armed calls leave
armed_as calls leave (arming.Armed number before) = arming.Armed calls leave
armed_as calls leave (arming.Caught before) = arming.Caught before

-- once they are armed
abbrev pub armed_calls : ℕ → Leave → CallsValue → CallsValue
armed_calls number leave calls = record calls { arming = armed_as number leave calls.arming }

-- once they are revived
abbrev pub revived_calls : CallsValue → CallsValue
revived_calls calls = record calls { arming = arming.Unarmed }
