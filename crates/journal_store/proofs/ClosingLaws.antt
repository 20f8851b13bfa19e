-- What is known of a device that was called, and of a log that stays told.
use Rattle.std.specs.Prelude.{◌≡◌, ◌⊎◌, ℕ, ◌-◌, ◌<◌, ◌≤◌, List, [], ◌∷◌, ◌++◌, Option, Some, None, Result, Ok, Err, OnOk, IsErrOf}
use Rattle.std.proofs.Common.{refl, sym, ◌∙◌, ap, subst, inl, inr, arith, append_assoc}
use Rattle.mld_io.specs.Arm.{Arm, Unarmed, Armed, Caught, Meter, LowersBy, LowersAtMost}
use Rattle.mld_io.specs.Disk.{Call, Log, Sides, grown, grown_by, Writes, Syncs, LeavesMeanwhile}
use Rattle.mld_io.specs.Disk.Call.{Wrote, Broke, Synced}
use Rattle.mld_io.specs.declared.banks.Side.{Side}
use Rattle.mld_io.specs.declared.faults.IoFault.{IoFault}
use Rattle.mld_io.specs.declared.faults.IoFault.TheVariants.{Failed, NoMemory}
use Rattle.journal_store.specs.declared.device.Stop.{Stop}
use Rattle.journal_store.specs.declared.device.Stop.TheVariants.{Before, Within}
use Rattle.journal_store.specs.declared.faults.MakeFault.TheVariants as make
use Rattle.journal_store.specs.declared.faults.Why.TheVariants as why
use Rattle.journal_store.specs.CallEnds.{EndsBehindFirst, make_fault}
use Rattle.journal_store.specs.Closing.{IsLower, HasMore, WasCalled, StaysTold}

-- ---- arms

-- calls that were done, of which there is one at least, lower an arm
pub lowered : (n : ℕ) (before now : Arm) → 1 ≤ n → LowersBy n before now → IsLower before now
lowered n Unarmed now some h = h
lowered n (Armed number leave) now some h =
    let less : number - n < number = omega (arith, some, h.0) in
    subst (IsLower (Armed number leave)) (sym h.1) (less, refl)
lowered n Caught now some h = absurd (omega (arith, some, h.0))

-- and it stays lower whatever is called then
pub lower_then : (n : ℕ) (before mid now : Arm) → IsLower before mid → LowersAtMost n mid now → IsLower before now
lower_then n Unarmed mid now a b = let at : LowersAtMost n Unarmed now = subst (λ (m : Arm). LowersAtMost n m now) a b in at
lower_then n (Armed number leave) Unarmed now a b = absurd a
lower_then n (Armed number leave) (Armed left kept) Unarmed a b = b
lower_then n (Armed number leave) (Armed left kept) (Armed less last) a b = (omega (arith, a.0, b.0), b.2 ∙ a.1)
lower_then n (Armed number leave) (Armed left kept) Caught a b = tt
lower_then n (Armed number leave) Caught now a b = subst (IsLower (Armed number leave)) (sym b) tt
lower_then n Caught mid now a b = absurd a

pub lower_trans : (before mid now : Arm) → IsLower before mid → IsLower mid now → IsLower before now
lower_trans Unarmed mid now a b = let at : IsLower Unarmed now = subst (λ (m : Arm). IsLower m now) a b in at
lower_trans (Armed number leave) Unarmed now a b = absurd a
lower_trans (Armed number leave) (Armed left kept) Unarmed a b = b
lower_trans (Armed number leave) (Armed left kept) (Armed less last) a b = (omega (arith, a.0, b.0), b.1 ∙ a.1)
lower_trans (Armed number leave) (Armed left kept) Caught a b = tt
lower_trans (Armed number leave) Caught now a b = absurd b
lower_trans Caught mid now a b = absurd a

-- ---- logs

-- a log that didn't change stays told
pub told_same : (old now : Option Log) → now ≡ old → StaysTold old now
told_same old now e = record { told = λ log is. ([], e ∙ is); untold = λ is. e ∙ is }

-- a log of which the moments are known stays told
pub told_from_moments : (old now : Option Log) (P : Log → List Call → Sides → Type 0) → ((log : Log) → old ≡ Some log → LeavesMeanwhile log now (P log)) → (old ≡ None → now ≡ None) → StaysTold old now
told_from_moments old now P moments untold = record { told = λ log is. let m = moments log is in (m.added, m.now_is); untold = untold }

-- a write that was synced adds calls
pub more_synced : (side : Side) (call : Call) (log : Log) (now : Option Log) → Syncs side (grown call log) now → HasMore log now
more_synced side call log now (inl e) = record { call = Synced side; added = call ∷ []; now_is = e }
more_synced side call log now (inr h) = record { call = call; added = []; now_is = h.0 }

-- a log stays told through a write, whatever it answers
told_writes : (side : Side) (at : ℕ) (piece : List ℕ) (log : Log) (now : Option Log) → Writes side at piece log now → (added : List Call) × (now ≡ Some (grown_by added log))
told_writes side at piece log now (inl e) = ([], e)
told_writes side at piece log now (inr (inl e)) = (Wrote side at piece ∷ [], e)
told_writes side at piece log now (inr (inr h)) = (Broke side at piece h.0 ∷ [], h.2)

-- and through one that is synced
pub told_piece : {U : Type 0} (side : Side) (at : ℕ) (piece : List ℕ) (old now : Option Log) (result : Result U IoFault)
    → ((log : Log) → old ≡ Some log → OnOk result (Syncs side (grown (Wrote side at piece) log) now))
    → ((log : Log) → old ≡ Some log → IsErrOf result Failed → Writes side at piece log now)
    → (IsErrOf result NoMemory → now ≡ old) → (old ≡ None → now ≡ None) → StaysTold old now
told_piece side at piece old now (Ok u) done failed no_memory untold = record {
  told = λ log is. let more = more_synced side (Wrote side at piece) log now (done log is) in (more.call ∷ more.added, more.now_is);
  untold = untold;
}
told_piece side at piece old now (Err Failed) done failed no_memory untold = record { told = λ log is. told_writes side at piece log now (failed log is refl); untold = untold }
told_piece side at piece old now (Err NoMemory) done failed no_memory untold = told_same old now (no_memory refl)

-- two stretches of calls
pub told_then : (old mid now : Option Log) → StaysTold old mid → StaysTold mid now → StaysTold old now
told_then old mid now first second = record {
  told = λ log is.
      let a = first.told log is in
      let b = second.told (grown_by a.0 log) a.1 in
      (b.0 ++ a.0, b.1 ∙ ap (λ (calls : List Call). Some (record { first = log.first; calls = calls })) (sym (append_assoc b.0 a.0 log.calls)));
  untold = λ is. second.untold (first.untold is);
}

-- more calls, and then any
pub more_then : (log : Log) (mid now : Option Log) → HasMore log mid → StaysTold mid now → HasMore log now
more_then log mid now more told = by (rest.0) rest.1 where
  before : List Call
  before = more.call ∷ more.added

  rest : (added : List Call) × (now ≡ Some (grown_by added (grown_by before log)))
  rest = told.told (grown_by before log) more.now_is

  by : (added : List Call) → now ≡ Some (grown_by added (grown_by before log)) → HasMore log now
  by [] e = record { call = more.call; added = more.added; now_is = e }
  by (call ∷ added) e = record {
    call = call;
    added = added ++ before;
    now_is = e ∙ ap (λ (calls : List Call). Some (record { first = log.first; calls = call ∷ calls })) (sym (append_assoc added before log.calls));
  }

module _ {B : Type 0} (log : B → Option Log) (meter : B → Meter) where
  -- a write was synced
  pub called_synced : (side : Side) (call : Call) (old new : B) → ((l : Log) → log old ≡ Some l → Syncs side (grown call l) (log new)) → LowersBy 2 (meter old).arm (meter new).arm → WasCalled log meter old new
  called_synced side call old new synced lower = record {
    called = λ l is. more_synced side call l (log new) (synced l is);
    lower = lowered 2 (meter old).arm (meter new).arm (omega arith) lower;
  }

  -- and then whatever was called
  pub called_then : (n : ℕ) (old mid new : B) → WasCalled log meter old mid → StaysTold (log mid) (log new) → LowersAtMost n (meter mid).arm (meter new).arm → WasCalled log meter old new
  called_then n old mid new called told lower = record {
    called = λ l is. more_then l (log mid) (log new) (called.called l is) told;
    lower = lower_then n (meter old).arm (meter mid).arm (meter new).arm called.lower lower;
  }

  -- and then more was called
  pub called_trans : (old mid new : B) → WasCalled log meter old mid → WasCalled log meter mid new → WasCalled log meter old new
  called_trans old mid new first second = record {
    called = λ l is.
        let a = first.called l is in
        let b = second.called (grown_by (a.call ∷ a.added) l) a.now_is in
        record {
          call = b.call;
          added = b.added ++ a.call ∷ a.added;
          now_is = b.now_is ∙ ap (λ (calls : List Call). Some (record { first = l.first; calls = b.call ∷ calls })) (sym (append_assoc b.added (a.call ∷ a.added) l.calls));
        };
    lower = lower_trans (meter old).arm (meter mid).arm (meter new).arm first.lower second.lower;
  }

  -- a log that a call was added to stays told
  pub told_called : (old new : B) → WasCalled log meter old new → (log old ≡ None → log new ≡ None) → StaysTold (log old) (log new)
  told_called old new called untold = record {
    told = λ l is. let more = called.called l is in (more.call ∷ more.added, more.now_is);
    untold = untold;
  }

  -- a journal that wasn't made for want of memory
  pub unmade_called : (old new : B) (stop : Stop) → (stop ≡ Before → new ≡ old) → (EndsBehindFirst {U = ℕ} (Err stop) → WasCalled log meter old new) → make_fault stop ≡ make.NoMemory → (new ≡ old) ⊎ WasCalled log meter old new
  unmade_called old new Before before called e = inl (before refl)
  unmade_called old new (Within why.Device) before called e = absurd (let f : make.Device ≡ make.NoMemory = e in cc)
  unmade_called old new (Within why.NoMemory) before called e = inr (called tt)
