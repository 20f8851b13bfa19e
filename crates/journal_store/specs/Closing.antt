-- What a call leaves of a journal, at each moment, where it is done and where it is refused, and when a refusal closes it. Each call that writes
-- cites it, `mount` has `StaysTold`, and so have the calls of `clone_parts` and `clone_core`.
use Rattle.std.specs.Prelude.{◌≡◌, ◌≢◌, ◌⊎◌, ◌+◌, ◌-◌, ◌^◌, ◌<◌, List, ◌∷◌, Bool, true, false, Option, Some, None}
use Rattle.mld_io.specs.Arm.{Arm, Unarmed, Armed, Caught, Meter}
use Rattle.mld_io.specs.Disk.{Call, Log, grown_by, other_side}
use Rattle.mld_io.specs.declared.banks.Side.TheVariants.{A}
use Rattle.journal_sides.specs.Heads.{HeadValue}
use Rattle.journal_sides.specs.Pairs.{Kept, Keeps, KeepsNone}
use Rattle.journal_store.specs.declared.faults.AppendFault.{AppendFault}
use Rattle.journal_store.specs.declared.faults.AppendFault.TheVariants as append
use Rattle.journal_store.specs.declared.faults.MakeFault.{MakeFault}
use Rattle.journal_store.specs.declared.faults.MakeFault.TheVariants as make
use Rattle.journal_store.specs.declared.faults.SwapFault.{SwapFault}
use Rattle.journal_store.specs.declared.faults.SwapFault.TheVariants as swap
use Rattle.journal_store.specs.declared.faults.Why.{Why}
use Rattle.journal_store.specs.declared.faults.Why.TheVariants as why
use Rattle.journal_store.specs.Calls.{KeptBy, made}
use Rattle.journal_store.specs.Crashes.{Gate, LeavesEither, first_gate}
use Rattle.journal_store.specs.Standing.{JournalValue, KeepsNow}

-- ---- whether a device was called, and whether it still tells its log

-- what is left of an arm once a call that writes or syncs was done: a lower number and the same leave, or it has caught a later one
abbrev pub IsLower : Arm → Arm → Type 0
IsLower Unarmed now = now ≡ Unarmed
IsLower (Armed number leave) Unarmed = ⊥
IsLower (Armed number leave) (Armed left now_leave) = (left < number) × (now_leave ≡ leave)
IsLower (Armed number leave) Caught = Unit {0}
IsLower Caught now = ⊥

-- a log has more calls
pub record HasMore (old : Log) (now : Option Log) : Type 0 where
  pub call : Call
  pub added : List Call
  pub now_is : now ≡ Some (grown_by (call ∷ added) old)

-- a call of the device that writes or syncs was done: a log that is told has more calls, and an arm's number is lower
pub record WasCalled {B : Type 0} (log : B → Option Log) (meter : B → Meter) (old new : B) : Type 0 where
  pub called : (l : Log) → log old ≡ Some l → HasMore l (log new)
  pub lower : IsLower (meter old).arm (meter new).arm

-- a log that was told is told, with the calls since, and one that wasn't isn't
pub record StaysTold (old now : Option Log) : Type 0 where
  pub told : (log : Log) → old ≡ Some log → (added : List Call) × (now ≡ Some (grown_by added log))
  pub untold : old ≡ None → now ≡ None

-- ---- what a crash leaves in the middle of a call

-- at each moment of a call on an open journal over banks that tell their log, a crash leaves what the journal kept, or, only once the
-- write of this gate was issued, that with the change
abbrev pub LeavesChange : {B : Type 0} → (B → Option Log) → (B → Meter) → JournalValue B → JournalValue B → (Kept → Kept) → (Log → Gate) → Type 0
LeavesChange log meter old new change gate = (l : Log) (kept : Kept) → log old.banks ≡ Some l → KeptBy (log old.banks) old.closed kept
    → LeavesEither l (log new.banks) (Keeps kept) (Keeps (change kept)) (meter old.banks).arm (gate l)

-- at each moment while a journal is made of a head, a crash leaves nothing kept, or, only once the write of its gate was issued, the journal
abbrev pub LeavesMaking : {B : Type 0} → (B → Option Log) → (B → Meter) → HeadValue → B → B → Type 0
LeavesMaking log meter head old new = (l : Log) → log old ≡ Some l → LeavesEither l (log new) KeepsNone (Keeps (made head)) (meter old).arm (first_gate A)

-- ---- calls that were done

-- the journal is open, and has the side and the generation that it had
pub record JournalStaysOpen {B : Type 0} (old new : JournalValue B) : Type 0 where
  pub opened : new.closed ≡ None
  pub side : new.side ≡ old.side
  pub generation : new.generation ≡ old.generation

-- an append was done
pub record IsAppended {B : Type 0} (log : B → Option Log) (meter : B → Meter) (old new : JournalValue B) : Type 0 where
  pub goes_on : JournalStaysOpen old new
  pub called : WasCalled log meter old.banks new.banks

-- a swap was done: the other side counts, of the next generation
pub record IsSwapped {B : Type 0} (log : B → Option Log) (meter : B → Meter) (old new : JournalValue B) : Type 0 where
  pub opened : new.closed ≡ None
  pub side : new.side ≡ other_side old.side
  pub generation : new.generation ≡ old.generation + 1
  pub called : WasCalled log meter old.banks new.banks

-- a journal was made of a head
pub record IsMade {B : Type 0} (log : B → Option Log) (head : HeadValue) (old : B) (journal : JournalValue B) : Type 0 where
  pub opened : journal.closed ≡ None
  pub side : journal.side ≡ A
  pub generation : journal.generation ≡ 1
  pub kept : (l : Log) → log old ≡ Some l → KeepsNow (made head) (log journal.banks)

-- ---- calls that were refused

-- the side and the generation are as they were; where the call swaps before it does more, they may be those of the swap
abbrev pub MayTurn : {B : Type 0} → Bool → JournalValue B → JournalValue B → Type 0
MayTurn false old new = (new.side ≡ old.side) × (new.generation ≡ old.generation)
MayTurn true old new = ((new.side ≡ old.side) × (new.generation ≡ old.generation))
    ⊎ ((new.side ≡ other_side old.side) × (new.generation ≡ old.generation + 1))

-- a journal that was open is closed for this reason; want of memory closes it only where a call of the device was done
pub record ClosesFor {B : Type 0} (log : B → Option Log) (meter : B → Meter) (swaps : Bool) (reason : Why) (old new : JournalValue B) : Type 0 where
  pub was : old.closed ≡ None
  pub now : new.closed ≡ Some reason
  pub called : reason ≡ why.NoMemory → WasCalled log meter old.banks new.banks
  pub turned : MayTurn swaps old new

-- what a call leaves that the device or memory refused: the device closes the journal, and memory leaves it as it was or closes it
abbrev pub LeavesRefused : {B : Type 0} → (B → Option Log) → (B → Meter) → Bool → JournalValue B → JournalValue B → Why → Type 0
LeavesRefused log meter swaps old new why.Device = ClosesFor log meter swaps why.Device old new
LeavesRefused log meter swaps old new why.NoMemory = (new ≡ old) ⊎ ClosesFor log meter swaps why.NoMemory old new

-- what a refused append leaves; a journal that was closed is as it was
abbrev pub LeavesAppend : {B : Type 0} → (B → Option Log) → (B → Meter) → JournalValue B → JournalValue B → AppendFault → Type 0
LeavesAppend log meter old new (append.Closed reason) = (old.closed ≡ Some reason) × (new ≡ old)
LeavesAppend log meter old new append.Device = LeavesRefused log meter false old new why.Device
LeavesAppend log meter old new append.NoMemory = LeavesRefused log meter false old new why.NoMemory

-- a swap called the device, for which a generation was left, and the journal is closed for this reason
pub record ClosesSwap {B : Type 0} (log : B → Option Log) (meter : B → Meter) (swaps : Bool) (reason : Why) (old new : JournalValue B) : Type 0 where
  pub left : old.generation ≢ 2 ^ 64 - 1
  pub closes : ClosesFor log meter swaps reason old new

-- what a refused swap leaves, and whether the call appends behind it; a journal that was closed, or has no generation left, is as it was;
-- the device closes the journal, and memory leaves it as it was or closes it
abbrev pub LeavesSwap : {B : Type 0} → (B → Option Log) → (B → Meter) → Bool → JournalValue B → JournalValue B → SwapFault → Type 0
LeavesSwap log meter swaps old new (swap.Closed reason) = (old.closed ≡ Some reason) × (new ≡ old)
LeavesSwap log meter swaps old new swap.GenerationsSpent = new ≡ old
LeavesSwap log meter swaps old new swap.Device = ClosesSwap log meter swaps why.Device old new
LeavesSwap log meter swaps old new swap.NoMemory = (new ≡ old) ⊎ ClosesSwap log meter swaps why.NoMemory old new

-- what is left of banks that kept nothing where no journal was made on them; want of memory leaves them as they were where no call of the
-- device was done
pub record LeavesUnmade {B : Type 0} (log : B → Option Log) (meter : B → Meter) (head : HeadValue) (old : B) (refused : MakeFault × B) : Type 0 where
  pub moments : LeavesMaking log meter head old refused.1
  pub told : StaysTold (log old) (log refused.1)
  pub called : refused.0 ≡ make.NoMemory → (refused.1 ≡ old) ⊎ WasCalled log meter old refused.1
