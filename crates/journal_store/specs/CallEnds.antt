-- What a journal keeps of calls on its device that were done or stopped. `put_record`, `write_side`, `append_at`, `swap_at` and `keep_end`
-- cite it, which are private, and the `From` of the faults.
use Rattle.std.specs.Prelude.{◌≡◌, ◌⊎◌, ℕ, Option, None, Some, Result, Ok, Err}
use Rattle.mld_io.specs.Arm.{Meter}
use Rattle.mld_io.specs.Disk.{Log}
use Rattle.journal_store.specs.Closing.{WasCalled}
use Rattle.journal_store.specs.declared.device.Stop.{Stop}
use Rattle.journal_store.specs.declared.device.Stop.TheVariants.{Before, Within}
use Rattle.journal_store.specs.declared.faults.AppendFault.{AppendFault}
use Rattle.journal_store.specs.declared.faults.AppendFault.TheVariants as append
use Rattle.journal_store.specs.declared.faults.MakeFault.{MakeFault}
use Rattle.journal_store.specs.declared.faults.MakeFault.TheVariants as make
use Rattle.journal_store.specs.declared.faults.SwapFault.{SwapFault}
use Rattle.journal_store.specs.declared.faults.SwapFault.TheVariants as swap
use Rattle.journal_store.specs.declared.faults.Why.{Why}
use Rattle.journal_store.specs.declared.faults.Why.TheVariants as why

-- the place of a closed gate, why a journal is closed, and what a call answers, by how calls on the device ended
abbrev pub KeepsEnd : {U : Type 0} → ℕ → Option Why → Result ℕ Stop → ℕ → Option Why → Result U Why → Type 0
KeepsEnd {U = U} stop closed (Ok end) stop' closed' result = (stop' ≡ end) × (closed' ≡ closed) × ((u : U) × (result ≡ Ok u))
KeepsEnd stop closed (Err Before) stop' closed' result = (stop' ≡ stop) × (closed' ≡ closed) × (result ≡ Err why.NoMemory)
KeepsEnd stop closed (Err (Within reason)) stop' closed' result = (stop' ≡ stop) × (closed' ≡ Some reason) × (result ≡ Err reason)

-- calls on a device ended behind the first of them, other than by a failure of the device
abbrev pub EndsBehindFirst : {U : Type 0} → Result U Stop → Type 0
EndsBehindFirst (Ok u) = Unit {0}
EndsBehindFirst (Err Before) = ⊥
EndsBehindFirst (Err (Within why.Device)) = ⊥
EndsBehindFirst (Err (Within why.NoMemory)) = Unit {0}

-- a call that was refused has closed the journal, for want of memory only where a call of the device was done, or there was no memory
-- for its first call and nothing has changed
abbrev pub ClosesOrKeeps : {B : Type 0} → (B → Option Log) → (B → Meter) → B → B → ℕ → ℕ → Option Why → Why → Type 0
ClosesOrKeeps log meter old new stop stop' closed reason =
    ((closed ≡ Some reason) × (reason ≡ why.NoMemory → WasCalled log meter old new))
    ⊎ ((reason ≡ why.NoMemory) × (new ≡ old) × (stop' ≡ stop) × (closed ≡ None))

-- the faults that tell of it
abbrev pub append_fault : Why → AppendFault
append_fault why.Device = append.Device
append_fault why.NoMemory = append.NoMemory

abbrev pub swap_fault : Why → SwapFault
swap_fault why.Device = swap.Device
swap_fault why.NoMemory = swap.NoMemory

abbrev pub make_fault : Stop → MakeFault
make_fault Before = make.NoMemory
make_fault (Within why.Device) = make.Device
make_fault (Within why.NoMemory) = make.NoMemory
