-- What a bank in memory is, and what each call leaves of it. The calls of `MemoryBanks` cite it.
use Rattle.std.specs.Prelude.{◌≡◌, ◌⊎◌, ℕ, List, [], Result, Ok, Err, ⊤}
use Rattle.mld_io.specs.declared.banks.Side.{Side}
use Rattle.mld_io.specs.declared.banks.Leave.TheVariants.{Keep}
use Rattle.mld_io.specs.declared.faults.IoFault.{IoFault}
use Rattle.mld_io.specs.declared.faults.IoFault.TheVariants as io
use Rattle.mld_io.specs.Disk.{Log, Sides, bytes_of}
use Rattle.disk_model.specs.DeviceSteps as step
use Rattle.disk_model.specs.declared.calls.Arming.TheVariants as arming
use Rattle.disk_model.specs.CountedCalls.{CallsValue, IsRefusedNext, IsArmSpent, RefusesCall, CatchesCall, counted_call, lowered_call}
use Rattle.disk_model.specs.SideSteps.{left_by, log_of}
use Rattle.disk_model.specs.Store.{StoreValue, with_step, synced}

-- what it keeps, and which of its calls fail
pub record BanksValue : Type 0 where
  pub store : StoreValue
  pub calls : CallsValue

-- a bank of these bytes, all of them durable: no call was made, none is to fail, and it isn't armed
abbrev pub whole_bank : Sides → BanksValue
whole_bank sides = record {
  store = record { first = sides; steps = [] };
  calls = record { next = 0; fails = []; faults = 0; real_faults = 0; arming = arming.Unarmed };
}

-- a bank that has none: its log has two sides without bytes and no calls, its meter no faults and no arm, and no call of it is to fail
abbrev pub blank_bank : BanksValue
blank_bank = whole_bank (record { a = []; b = [] })

-- its log
abbrev pub memory_log : BanksValue → Log
memory_log banks = log_of banks.store.first banks.store.steps

-- what its reads give of a side
abbrev pub read_of : Side → BanksValue → List ℕ
read_of side banks = bytes_of side (left_by Keep banks.store.first banks.store.steps)

-- a call was refused: one was caught before, or it is one that is to fail
pub record IsRefusal (old now : BanksValue) : Type 0 where
  pub calls : RefusesCall old.calls now.calls
  pub store_is : now.store ≡ old.store

-- a call read
pub record WasRead (old now : BanksValue) : Type 0 where
  pub allowed : ¬ IsRefusedNext old.calls
  pub calls_are : now.calls ≡ counted_call old.calls
  pub store_is : now.store ≡ old.store

-- a call did what makes this of the store, and lowered the arm
pub record WasDone (store : StoreValue) (old now : BanksValue) : Type 0 where
  pub allowed : ¬ IsRefusedNext old.calls
  pub not_caught : ¬ IsArmSpent old.calls.arming
  pub calls_are : now.calls ≡ lowered_call old.calls
  pub store_is : now.store ≡ store

-- a call was caught, which made this of the store
pub record IsCaught (store : StoreValue) (old now : BanksValue) : Type 0 where
  pub allowed : ¬ IsRefusedNext old.calls
  pub calls : CatchesCall old.calls now.calls
  pub store_is : now.store ≡ store

-- what a call leaves that reads
abbrev pub ReadMoves : {T : Type 0} → BanksValue → Result T IoFault → BanksValue → Type 0
ReadMoves old (Ok answer) now = WasRead old now
ReadMoves old (Err io.Failed) now = IsRefusal old now
ReadMoves old (Err io.NoMemory) now = ⊥

-- What a write leaves. One that is caught counts as issued, and isn't synced: the next crash may keep it, lose it or tear it.
abbrev pub WriteMoves : Side → ℕ → List ℕ → BanksValue → Result ⊤ IoFault → BanksValue → Type 0
WriteMoves side at piece old (Ok done) now = WasDone (with_step (step.Wrote side at piece) old.store) old now
WriteMoves side at piece old (Err io.Failed) now = IsRefusal old now ⊎ IsCaught (with_step (step.Wrote side at piece) old.store) old now
WriteMoves side at piece old (Err io.NoMemory) now = (¬ IsRefusedNext old.calls) × (now ≡ old)

-- what a sync leaves; one that is caught does nothing
abbrev pub SyncMoves : Side → BanksValue → Result ⊤ IoFault → BanksValue → Type 0
SyncMoves side old (Ok done) now = WasDone (synced side old.store) old now
SyncMoves side old (Err io.Failed) now = IsRefusal old now ⊎ IsCaught old.store old now
SyncMoves side old (Err io.NoMemory) now = ⊥
