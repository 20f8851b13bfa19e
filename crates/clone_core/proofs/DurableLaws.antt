-- Laws of the changes that a clone's calls make of what its banks keep.
use Rattle.std.proofs.Common.{◌≡◌, ◌≢◌, ◌∙◌, ℕ, ◌*◌, List, [], ◌∷◌, ◌↔◌, Option, None, Some, Result, Ok, Err, IsOk, IfOk, IsErrOf, length, inl, inr, refl, sym, ap, subst}
use Rattle.tree_clock.specs.Clock.{ticks_of}
use Rattle.tree_clock.specs.Limits.{tick_limit}
use Rattle.mld_io.specs.Arm.{Meter, Metered}
use Rattle.mld_io.specs.Disk.{Log}
use Rattle.mld_ops.specs.Entry.{EntryValue}
use Rattle.journal_sides.specs.Pairs.{Kept, Keeps, KeepsNone}
use Rattle.journal_store.specs.Calls.{KeptBy}
use Rattle.journal_store.specs.Closing.{StaysTold}
use Rattle.journal_store.specs.Standing.{JournalValue, IsBlankLog}
use Rattle.journal_store.specs.declared.faults.Why.{Why}
use Rattle.journal_store.specs.declared.faults.Why.TheVariants as why
use Rattle.journal_store.proofs.ClosingLaws.{told_same}
use Rattle.journal_store.proofs.Reading.{metered_as}
use Rattle.mld_model.specs.Local.{LocalClone, next_dot}
use Rattle.clone_parts.specs.BankCalls.{append_calls, create_calls}
use Rattle.clone_parts.specs.KeptSteps.{KeptStep, Created, Appended, calls_of_all, appends, LeavesSome}
use Rattle.clone_parts.proofs.Appended.{appends_calls}
use Rattle.clone_parts.proofs.StepLaws.{some_none}
use Rattle.mld_io.proofs.ArmLaws.{Metered-refused}
use Rattle.journal_sides.specs.Heads.{HeadValue}
use Rattle.clone_parts.proofs.MeterLaws.{Metered-none}
use Rattle.clone_parts.proofs.RefusedLaws.{ok_err}
use Rattle.clone_core.specs.Banked.{BankedClone, kept_as}
use Rattle.clone_core.specs.CloneClosing.{update_stop, receive_stop}
use Rattle.causal_buffer.specs.declared.faults.HeldFault.{HeldFault}
use Rattle.causal_buffer.specs.declared.faults.HeldFault.TheVariants as held
use Rattle.mld_ops.specs.declared.messages.Message.TheVariants as message
use Rattle.clone_parts.specs.declared.answers.Got.{Got}
use Rattle.jrql_eval.specs.declared.faults.EvalFault.{EvalFault}
use Rattle.jrql_eval.specs.declared.faults.EvalFault.TheVariants as eval
use Rattle.clone_parts.specs.CloneFaults.{fault_of_held, update_fault_of, update_fault_of_effect, receive_fault_of, keep_fault_of}
use Rattle.mld_ops.specs.Effects.{EffectValue}
use Rattle.clone_parts.specs.Making.{IsEntryOf}
use Rattle.jrql_ast.specs.declared.plans.UpdatePlan.{UpdatePlan}
use Rattle.clone_core.specs.CloneUpdates.{HasEffect, IsMakeable}
use Rattle.clone_core.specs.DurableCalls.{Changes, Creates, RefusedSteps, AppendsOwn, AppendsPlanned, EffectSteps, UpdateSteps, WouldReceive}
use Rattle.clone_core.specs.CallParts.{MakesDone, MakeSteps}
use Rattle.clone_parts.specs.declared.answers.Done.{Done}
use Rattle.clone_parts.specs.declared.answers.Done.TheVariants as done
use Rattle.clone_parts.specs.declared.faults.KeepFault.TheVariants as keep
use Rattle.clone_parts.specs.declared.faults.ReceiveFault.{ReceiveFault}
use Rattle.clone_parts.specs.declared.faults.ReceiveFault.TheVariants as receive
use Rattle.clone_parts.specs.declared.faults.UpdateFault.{UpdateFault}
use Rattle.clone_parts.specs.declared.faults.UpdateFault.TheVariants as update
use Rattle.clone_core.proofs.AppendLaws.{OnJournal, kept_by}
use Rattle.clone_core.proofs.StopLaws.{banked}

pub err_same : {T E : Type 0} {x y : E} → ◌≡◌ {A = Result T E} (Err x) (Err y) → x ≡ y
err_same e = cc

-- ---- no call of the device

module _ {B : Type 0} (log : B → Option Log) (meter : B → Meter) (old : BankedClone B) (now : B) (same : now ≡ old.banks) where
  pub changes_none : {Whole Failed : Type 0} → ¬ Failed → Changes log meter [] old now Whole Failed
  changes_none {Whole = Whole} {Failed = Failed} quiet = record {
    metered = subst (λ (m : Meter). Metered 0 (meter old.banks) m Whole Failed) (sym (ap meter same)) (Metered-none (meter old.banks) quiet);
    told = told_same (log old.banks) (log now) (ap log same);
    moments = same;
  }

-- ---- calls of the device

module _ {B : Type 0} (log : B → Option Log) (meter : B → Meter) (was now : JournalValue B) (local : LocalClone) (old : BankedClone B) (same : banked local was ≡ old)
    (banks : OnJournal log was local) (is_open : was.closed ≡ None) (told : StaysTold (log was.banks) (log now.banks)) where
  -- changes, of which there are some
  pub changes_made : {Whole Failed : Type 0} (step : KeptStep) (steps : List KeptStep)
      → ((l : Log) (kept : Kept) → log was.banks ≡ Some l → KeptBy (log was.banks) was.closed kept
      → LeavesSome l (log now.banks) (Keeps kept) (step ∷ steps) (meter was.banks).arm (meter now.banks).arm)
      → Metered (calls_of_all (step ∷ steps)) (meter was.banks) (meter now.banks) Whole Failed → Changes log meter (step ∷ steps) old now.banks Whole Failed
  changes_made {Whole = Whole} {Failed = Failed} step steps moments metered =
      subst (λ (clone : BankedClone B). Changes log meter (step ∷ steps) clone now.banks Whole Failed) same
      (record {
        metered = metered;
        told = told;
        moments = λ l is. (was.side, moments l (kept_as was.side was.generation local) is (kept_by log was now local banks is_open l is));
      })

  -- an append for each of some entries
  pub appends_made : {Whole Failed : Type 0} (entry : EntryValue) (taken entries : List EntryValue) → entries ≡ entry ∷ taken
      → ((l : Log) (kept : Kept) → log was.banks ≡ Some l → KeptBy (log was.banks) was.closed kept
      → LeavesSome l (log now.banks) (Keeps kept) (appends entries) (meter was.banks).arm (meter now.banks).arm)
      → Metered (append_calls * length entries) (meter was.banks) (meter now.banks) Whole Failed → Changes log meter (appends (entry ∷ taken)) old now.banks Whole Failed
  appends_made {Whole = Whole} {Failed = Failed} entry taken entries is moments metered =
      changes_made (Appended entry) (appends taken)
      (subst (λ (es : List EntryValue). (l : Log) (kept : Kept) → log was.banks ≡ Some l → KeptBy (log was.banks) was.closed kept
      → LeavesSome l (log now.banks) (Keeps kept) (appends es) (meter was.banks).arm (meter now.banks).arm) is moments)
      (subst (λ (n : ℕ). Metered n (meter was.banks) (meter now.banks) Whole Failed)
      (ap (λ (es : List EntryValue). append_calls * length es) is ∙ sym (appends_calls (entry ∷ taken))) metered)

-- ---- how calls ended

-- those that were done
pub done_metered : {U E T F : Type 0} (n : ℕ) (before now : Meter) (x : U) (y : T) (told : E) (fault : F)
    → Metered n before now (IsOk {T = U} {E = E} (Ok x)) (IsErrOf {T = U} {E = E} (Ok x) told)
    → Metered n before now (IsOk {T = T} {E = F} (Ok y)) (IsErrOf {T = T} {E = F} (Ok y) fault)
done_metered n before now x y told fault m = metered_as n before now (λ d. refl) (λ e. absurd (ok_err e)) (λ e. absurd (ok_err e)) m

-- and those that were refused, where one fault tells of the device just where the other does
module _ {U E T F : Type 0} (n : ℕ) (before now : Meter) (device : E) (fault_device : F) (told : E) (fault : F) (tells : (fault ≡ fault_device) ↔ (told ≡ device)) where
  pub stopped_metered : Metered n before now (IsOk {T = U} {E = E} (Err told)) (IsErrOf {T = U} {E = E} (Err told) device)
      → Metered n before now (IsOk {T = T} {E = F} (Err fault)) (IsErrOf {T = T} {E = F} (Err fault) fault_device)
  stopped_metered m = metered_as n before now (λ d. absurd (not_ok d)) (λ e. ap Err (tells.0 (err_same e))) (λ e. ap Err (tells.1 (err_same e))) m
    where
      not_ok : IsOk {T = T} {E = F} (Err fault) → ⊥
      not_ok d = cc

pub receive_tells : (told : Why) → (receive_fault_of told ≡ receive.Device) ↔ (told ≡ why.Device)
receive_tells why.Device = (λ e. refl, λ e. refl)
receive_tells why.NoMemory = (λ e. absurd cc, λ e. absurd cc)

pub update_tells : (told : Why) → (update_fault_of told ≡ update.Device) ↔ (told ≡ why.Device)
update_tells why.Device = (λ e. refl, λ e. refl)
update_tells why.NoMemory = (λ e. absurd cc, λ e. absurd cc)

pub keep_tells : (told : Why) → (keep_fault_of told ≡ keep.Device) ↔ (told ≡ why.Device)
keep_tells why.Device = (λ e. refl, λ e. refl)
keep_tells why.NoMemory = (λ e. absurd cc, λ e. absurd cc)

-- what was refused by the device or memory may have made the changes that it was to make
pub receive_would : (Would : List KeptStep → Type 0) (told : Why) (steps : List KeptStep) → Would steps → RefusedSteps Would (receive_stop (receive_fault_of told)) steps
receive_would Would why.Device steps h = h
receive_would Would why.NoMemory steps h = inr h

pub update_would : (Would : List KeptStep → Type 0) (told : Why) (steps : List KeptStep) → Would steps → RefusedSteps Would (update_stop (update_fault_of told)) steps
update_would Would why.Device steps h = h
update_would Would why.NoMemory steps h = inr h

-- ---- appends and swaps that were refused

module _ {B : Type 0} (U T : Type 0) (log : B → Option Log) (meter : B → Meter) (was now : JournalValue B) (local : LocalClone) (old : BankedClone B) (same : banked local was ≡ old)
    (banks : OnJournal log was local) (is_open : was.closed ≡ None) (told : StaysTold (log was.banks) (log now.banks)) (Would : List KeptStep → Type 0)
    (step : KeptStep) (steps : List KeptStep) (would : Would (step ∷ steps))
    (moments : (l : Log) (kept : Kept) → log was.banks ≡ Some l → KeptBy (log was.banks) was.closed kept
    → LeavesSome l (log now.banks) (Keeps kept) (step ∷ steps) (meter was.banks).arm (meter now.banks).arm) where
  abbrev calls : ℕ
  calls = calls_of_all (step ∷ steps)

  -- where a swap was
  module _ (Stop : Type 0) (device : Stop) (fault_of : Why → Stop) (stop_of : Stop → Option Why) (tells : (reason : Why) → (fault_of reason ≡ device) ↔ (reason ≡ why.Device))
      (failed : stop_of (fault_of why.Device) ≡ Some why.Device) (memory : stop_of (fault_of why.NoMemory) ≡ Some why.NoMemory) where
    would_be : (reason : Why) → RefusedSteps Would (stop_of (fault_of reason)) (step ∷ steps)
    would_be why.Device = subst (λ (stop : Option Why). RefusedSteps Would stop (step ∷ steps)) (sym failed) would
    would_be why.NoMemory = subst (λ (stop : Option Why). RefusedSteps Would stop (step ∷ steps)) (sym memory) (inr would)

    pub swap_refused : (reason : Why) → Metered calls (meter was.banks) (meter now.banks) (IsOk {T = U} {E = Why} (Err reason)) (IsErrOf {T = U} {E = Why} (Err reason) why.Device)
        → (made : List KeptStep) × RefusedSteps Would (stop_of (fault_of reason)) made
        × Changes log meter made old now.banks (IsOk {T = T} {E = Stop} (Err (fault_of reason))) (IsErrOf {T = T} {E = Stop} (Err (fault_of reason)) device)
    swap_refused reason m = (
      step ∷ steps,
      would_be reason,
      changes_made log meter was now local old same banks is_open told step steps moments
          (stopped_metered {U = U} {E = Why} {T = T} {F = Stop} calls (meter was.banks) (meter now.banks) why.Device device reason (fault_of reason) (tells reason) m),
    )

-- ---- an update

-- the append of an entry of the clone's own is that of an update
module _ {B : Type 0} (log : B → Option Log) (meter : B → Meter) (old new : BankedClone B) (effect : EffectValue) (entry : EntryValue) (own : IsEntryOf old.local.ticks (next_dot old.local) effect entry) where
  would_make : (stop : Option Why) (steps : List KeptStep) → RefusedSteps (λ (made : List KeptStep). made ≡ Appended entry ∷ []) stop steps
      → RefusedSteps (AppendsOwn old.local effect) stop steps
  would_make None steps h = h
  would_make (Some why.Device) steps h = (entry, own, h)
  would_make (Some why.NoMemory) steps (inl h) = inl h
  would_make (Some why.NoMemory) steps (inr h) = inr (entry, own, h)

  steps_make : (result : Result Done UpdateFault) → IfOk result (MakesDone old.local entry new.local) → (steps : List KeptStep) → MakeSteps entry result steps
      → EffectSteps old.local effect result steps
  steps_make (Ok done.Nothing) ok steps h = absurd ok
  steps_make (Ok (done.Made made)) ok steps h = h ∙ ap (λ (e : EntryValue). Appended e ∷ []) (sym ok.0)
  steps_make (Err refused) ok steps h = would_make (update_stop refused) steps h

  pub makes_update : (result : Result Done UpdateFault) → IfOk result (MakesDone old.local entry new.local)
      → (steps : List KeptStep) × MakeSteps entry result steps × Changes log meter steps old new.banks (IsOk result) (IsErrOf result update.Device)
      → (steps : List KeptStep) × EffectSteps old.local effect result steps × Changes log meter steps old new.banks (IsOk result) (IsErrOf result update.Device)
  makes_update result ok made = (made.0, steps_make result ok made.0 made.1, made.2)

-- those of the effect of a plan are those of an update
module _ (old : LocalClone) (plan : UpdatePlan) (effect : EffectValue) (left : ticks_of old.ticks old.path ≢ tick_limit) (has : HasEffect old plan effect) (may : IsMakeable old effect) where
  planned : (steps : List KeptStep) → AppendsOwn old effect steps → AppendsPlanned old plan steps
  planned steps h = record { due = record { left = left; effect = effect; has = has; may = may }; appends = h }

  would_plan : (stop : Option Why) (steps : List KeptStep) → RefusedSteps (AppendsOwn old effect) stop steps → RefusedSteps (AppendsPlanned old plan) stop steps
  would_plan None steps h = h
  would_plan (Some why.Device) steps h = planned steps h
  would_plan (Some why.NoMemory) steps (inl h) = inl h
  would_plan (Some why.NoMemory) steps (inr h) = inr (planned steps h)

  pub planned_steps : (result : Result Done UpdateFault) (steps : List KeptStep) → EffectSteps old effect result steps → UpdateSteps old plan result steps
  planned_steps (Ok done.Nothing) steps h = h
  planned_steps (Ok (done.Made made)) steps h = h
  planned_steps (Err refused) steps h = would_plan (update_stop refused) steps h

-- a plan whose effect isn't given changes nothing
pub effect_steps : {B : Type 0} (log : B → Option Log) (meter : B → Meter) (old : BankedClone B) (plan : UpdatePlan) (told : EvalFault)
    → (steps : List KeptStep) × UpdateSteps old.local plan (Err (update_fault_of_effect told)) steps
    × Changes log meter steps old old.banks (IsOk {T = Done} {E = UpdateFault} (Err (update_fault_of_effect told)))
    (IsErrOf {T = Done} (Err (update_fault_of_effect told)) update.Device)
effect_steps log meter old plan eval.TooMany = ([], refl, changes_none log meter old old.banks refl (λ f. absurd cc))
effect_steps log meter old plan eval.NoMemory = ([], inl refl, changes_none log meter old old.banks refl (λ f. absurd cc))

-- ---- an entry that can't be held

pub held_steps : {B : Type 0} (log : B → Option Log) (meter : B → Meter) (old : BankedClone B) (now : B) → now ≡ old.banks → (entry : EntryValue) (told : HeldFault)
    → (steps : List KeptStep) × RefusedSteps (WouldReceive old.local (message.Range entry)) (receive_stop (fault_of_held told)) steps
    × Changes log meter steps old now (IsOk {T = Got} {E = ReceiveFault} (Err (fault_of_held told))) (IsErrOf {T = Got} (Err (fault_of_held told)) receive.Device)
held_steps log meter old now same entry held.Full = ([], refl, changes_none log meter old now same (λ f. absurd cc))
held_steps log meter old now same entry held.NoMemory = ([], inl refl, changes_none log meter old now same (λ f. absurd cc))

-- ---- a clone that is made

module _ {B : Type 0} (log : B → Option Log) (meter : B → Meter) (blank now : B) {Whole Failed : Type 0} where
  -- the head that was made is this one
  pub creates_as : (made head : HeadValue) → made ≡ head
      → ((l : Log) → log blank ≡ Some l → LeavesSome l (log now) KeepsNone (Created made ∷ []) (meter blank).arm (meter now).arm) → StaysTold (log blank) (log now)
      → Metered create_calls (meter blank) (meter now) Whole Failed → Creates log meter head blank now Whole Failed
  creates_as made head is moments told metered = record {
    metered = metered;
    told = told;
    moments = subst (λ (h : HeadValue). (l : Log) → log blank ≡ Some l → LeavesSome l (log now) KeepsNone (Created h ∷ []) (meter blank).arm (meter now).arm) is moments;
  }

  -- nothing was done, so the banks are blank still
  pub creates_none : (head : HeadValue) → now ≡ blank → IsBlankLog (log blank) → ¬ Whole → ¬ Failed → Creates log meter head blank now Whole Failed
  creates_none head same none not_whole quiet = record {
    metered = subst (λ (m : Meter). Metered create_calls (meter blank) m Whole Failed) (sym (ap meter same)) (Metered-refused create_calls (meter blank) not_whole quiet);
    told = told_same (log blank) (log now) (ap log same);
    moments = λ l is.
        let keeps = none l is in
        some_none l (log now) KeepsNone (Created head ∷ []) (meter blank).arm (meter now).arm (ap log same ∙ is) keeps.settled keeps.none (λ c. inl (sym (ap (λ (b : B). (meter b).arm) same) ∙ c));
  }
