-- What the log of a bank in memory says of its calls.
use Rattle.std.proofs.Common.{◌≡◌, ℕ, Bool, true, false, ◌||◌, cond, List, Some, Result, Ok, Err, OnOk, IsErrOf, refl, sym, ap, ◌∙◌, subst, inl, inr}
use Rattle.std.specs.Bool.{⊤}
use Rattle.std.proofs.lemmas.Bool.{false≢true}
use Rattle.mld_io.specs.declared.banks.Side.{Side}
use Rattle.mld_io.specs.declared.banks.Side.TheVariants.{A, B}
use Rattle.mld_io.specs.declared.banks.Leave.{Leave}
use Rattle.mld_io.specs.declared.faults.IoFault.{IoFault}
use Rattle.mld_io.specs.declared.faults.IoFault.TheVariants as io
use Rattle.mld_io.specs.Arm.{Caught}
use Rattle.disk_model.specs.CountedCalls.{arm_of}
use Rattle.mld_io.specs.Disk.{Log, Syncs, Revives, bytes_of, seen, IsSettled}
use Rattle.disk_model.specs.DeviceSteps as step
use Rattle.disk_model.specs.BankSteps.{BanksValue, WriteMoves, SyncMoves, memory_log, read_of}
use Rattle.disk_model.specs.SideSteps.{left_by, unsynced, AreInOrder, log_of}
use Rattle.disk_model.proofs.SideStepLaws.{seen_of_steps, may_leave_of_steps, settled_of_steps, settled_of_both}
use Rattle.disk_model.specs.Store.{StoreValue, with_step, cut}

-- the log of what a bank keeps
abbrev pub store_log : StoreValue → Log
store_log store = log_of store.first store.steps

-- what reads give is what the log makes
pub read_by_log : (side : Side) (banks : BanksValue) (log : Log) → Some (memory_log banks) ≡ Some log → read_of side banks ≡ bytes_of side (seen log)
read_by_log side banks log is =
    let same : memory_log banks ≡ log = cc in
    ap (bytes_of side) (sym (seen_of_steps banks.store.first banks.store.steps) ∙ ap seen same)

-- a sync adds a step, or finds its side settled
synced_by : (side : Side) (store : StoreValue) (is : Bool) → unsynced side store.steps ≡ is → Syncs side (store_log store) (Some (store_log (cond is (with_step (step.Synced side) store) store)))
synced_by side store true e = inl refl
synced_by side store false e = inr (refl, settled_of_steps side store.first store.steps e)

-- a sync that was done
pub sync_done : (side : Side) (old now : BanksValue) (result : Result ⊤ IoFault) (log : Log) → SyncMoves side old result now → Some (memory_log old) ≡ Some log → OnOk result (Syncs side log (Some (memory_log now)))
sync_done side old now (Ok done) log moves is =
    let same : memory_log old ≡ log = cc in
    subst (λ (l : Log). Syncs side l (Some (memory_log now))) same
    (subst (λ (s : StoreValue). Syncs side (memory_log old) (Some (store_log s))) (sym moves.store_is) (synced_by side old.store (unsynced side old.store.steps) refl))
sync_done side old now (Err io.Failed) log moves is = tt
sync_done side old now (Err io.NoMemory) log moves is = tt

-- where a call was caught, no write is done
pub write_stops : (side : Side) (at : ℕ) (piece : List ℕ) (old now : BanksValue) (result : Result ⊤ IoFault) → WriteMoves side at piece old result now → arm_of old.calls.arming ≡ Caught → IsErrOf result io.Failed
write_stops side at piece old now (Ok done) moves caught = absurd (moves.allowed (inl caught))
write_stops side at piece old now (Err io.Failed) moves caught = refl
write_stops side at piece old now (Err io.NoMemory) moves caught = absurd (moves.0 (inl caught))

-- neither side has a write that isn't synced
neither : (a b : Bool) → a || b ≡ false → (a ≡ false) × (b ≡ false)
neither true b e = absurd (false≢true (sym e))
neither false b e = (refl, e)

-- where neither has, a bank is settled
settled_by : (store : StoreValue) → unsynced A store.steps || unsynced B store.steps ≡ false → IsSettled (store_log store)
settled_by store none = let e = neither (unsynced A store.steps) (unsynced B store.steps) none in settled_of_both store.first store.steps e.0 e.1

-- a revival adds a step, or finds both sides settled
revived_by : (leave : Leave) (store : StoreValue) (is : Bool) → unsynced A store.steps || unsynced B store.steps ≡ is → AreInOrder store.first store.steps
    → Revives (store_log store) (Some (store_log (cond is (with_step (step.Cut leave) store) store)))
revived_by leave store true e order = record { image = left_by leave store.first store.steps; left = may_leave_of_steps leave store.first store.steps order; now_is = inl refl }
revived_by leave store false e order = record { image = left_by leave store.first store.steps; left = may_leave_of_steps leave store.first store.steps order; now_is = inr (refl, settled_by store e) }

-- a revival leaves what a crash may leave
pub cut_revives : (leave : Leave) (store now : StoreValue) (log : Log) → AreInOrder store.first store.steps → now ≡ cut leave store → Some (store_log store) ≡ Some log → Revives log (Some (store_log now))
cut_revives leave store now log order cuts is =
    let same : store_log store ≡ log = cc in
    subst (λ (l : Log). Revives l (Some (store_log now))) same
    (subst (λ (s : StoreValue). Revives (store_log store) (Some (store_log s))) (sym cuts) (revived_by leave store (unsynced A store.steps || unsynced B store.steps) refl order))

-- what reads give after a revival, by whether there was an unsynced write
left_over : (leave : Leave) (store : StoreValue) (is : Bool) → unsynced A store.steps || unsynced B store.steps ≡ is → AreInOrder store.first store.steps
    → seen (store_log (cond is (with_step (step.Cut leave) store) store)) ≡ left_by leave store.first store.steps
left_over leave store true e order = refl
left_over leave store false e order = sym (settled_by store e (left_by leave store.first store.steps) (may_leave_of_steps leave store.first store.steps order))

-- after a revival reads give what this way to crash leaves
pub cut_leaves : (leave : Leave) (store now : StoreValue) → AreInOrder store.first store.steps → now ≡ cut leave store → seen (store_log now) ≡ left_by leave store.first store.steps
cut_leaves leave store now order cuts = ap (λ (s : StoreValue). seen (store_log s)) cuts ∙ left_over leave store (unsynced A store.steps || unsynced B store.steps) refl order
