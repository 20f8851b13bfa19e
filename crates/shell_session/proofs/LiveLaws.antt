-- What the calls of a live clone tell are steps of the shell's model.
use Rattle.std.proofs.Common.{◌≡◌, ◌↔◌, ◌⊎◌, ℕ, ◌+◌, ◌-◌, ◌^◌, ◌<◌, List, [], ◌∷◌, ◌++◌, Option, None, Result, Ok, Err, IfOk, IfErr, OnOk, OnErr, IsOk, IsErrOf, inl, inr, refl, sym, ◌∙◌, ap, arith, subst, length}
use Rattle.mld_io.specs.Arm.{Meter}
use Rattle.mld_io.specs.Disk.{Log}
use Rattle.tree_clock.specs.declared.dots.Dot.{Dot}
use Rattle.tree_clock.specs.Clock.{ticks_of}
use Rattle.tree_clock.specs.Limits.{tick_limit}
use Rattle.mld_ops.specs.Entry.{EntryValue}
use Rattle.mld_ops.specs.Ready.{last_dot}
use Rattle.op_fusion.specs.Compacting.{HasNeighbours}
use Rattle.op_fusion.proofs.Runs.{fused_runs_are_compacted}
use Rattle.jrql_ast.specs.declared.plans.UpdatePlan.{UpdatePlan}
use Rattle.mld_model.specs.Local.{LocalClone, next_dot, LocallyCompacts, LocallyTruncates}
use Rattle.mld_model.specs.Reply.{NoOperation, Single, TooMany, Kept}
use Rattle.crash_laws.specs.clone_parts.KeptSteps.{KeptStep, Appended, Swapped}
use Rattle.crash_laws.specs.clone_parts.declared.answers.Done.{Done}
use Rattle.crash_laws.specs.clone_parts.declared.answers.Done.TheVariants as done
use Rattle.crash_laws.specs.clone_parts.declared.faults.KeepFault.{KeepFault}
use Rattle.crash_laws.specs.clone_parts.declared.faults.KeepFault.TheVariants as keep
use Rattle.crash_laws.specs.clone_parts.declared.faults.UpdateFault.{UpdateFault}
use Rattle.crash_laws.specs.clone_parts.declared.faults.UpdateFault.TheVariants as update
use Rattle.crash_laws.specs.clone_core.Banked.{BankedClone, head_of}
use Rattle.crash_laws.specs.clone_core.CloneClosing.{LeavesClone, StaysOpen, update_stop, keep_stop}
use Rattle.crash_laws.specs.clone_core.CloneUpdates.{LocallyUpdatesBy, RefusesUpdate, IsDueUpdate}
use Rattle.crash_laws.specs.clone_core.Due.{IsDueSwap, IsSpent}
use Rattle.crash_laws.specs.clone_core.DurableCalls.{LeavesFronts, Changes, UpdateSteps, AppendsPlanned, KeepSteps, SwapsTo}
use Rattle.crash_laws.specs.clone_core.Keeping.{KeepsCompacted, nothing_to_fuse, swapped, KeepsTruncated, nothing_to_cut, cut}
use Rattle.crash_laws.proofs.KeepingDeeds.{neighbours_fused}
use Rattle.shell_session.specs.ShellReply.{ShellReply, Says, DidAt, TicksSpent, GenerationsSpent, shell_text}
use Rattle.shell_session.specs.ShellStep.{HasSpentTicks, AnswersUpdate, no_tick_is_left, is_too_large, changes_nothing, breaks_single, makes_operation, KeepsJournal, is_kept_so, no_generation_is_left, swaps_journal, AppendsUpdate, SwapsJournal}
use Rattle.shell_session.specs.LiveCalls.{CloneGoesOn, CloneAnswers, CloneLeavesFrontOfDue}

-- ---- durable steps that are due

-- those of an operation that was to be made
planned : (clone : LocalClone) (plan : UpdatePlan) (steps : List KeptStep) → AppendsPlanned clone plan steps → AppendsUpdate clone plan steps
planned clone plan steps plans = record {
  left = plans.due.left;
  effect = plans.due.effect;
  has = plans.due.has;
  may = plans.due.may;
  entry = plans.appends.0;
  time = plans.appends.1.time;
  carries = plans.appends.1.carries;
  appends = plans.appends.2;
}

-- those of an update that was answered
pub update_due : (clone : LocalClone) (plan : UpdatePlan) (reply : ShellReply) (steps : List KeptStep) (new : LocalClone) → AnswersUpdate clone plan reply steps new
    → (steps ≡ []) ⊎ AppendsUpdate clone plan steps
update_due clone plan reply steps new (no_tick_is_left spent) = inl refl
update_due clone plan reply steps new (is_too_large left many) = inl refl
update_due clone plan reply steps new (changes_nothing left updates) = inl refl
update_due clone plan reply steps new (breaks_single left place breaks) = inl refl
update_due clone plan reply steps new (makes_operation left entry made updates) = inr (record {
  left = left;
  effect = updates.effect;
  has = updates.has;
  may = updates.updates.0;
  entry = entry;
  time = updates.updates.1.time;
  carries = updates.updates.1.carries;
  appends = refl;
})

-- those of a journal that was kept
pub journal_due : {Due : Type 0} {Step : LocalClone → Type 0} (generation : ℕ) (clone : LocalClone) (reply : ShellReply) (steps : List KeptStep) (new : LocalClone)
    → KeepsJournal Due Step generation clone reply steps new → (steps ≡ []) ⊎ SwapsJournal Due Step generation steps
journal_due generation clone reply steps new (is_kept_so none) = inl refl
journal_due generation clone reply steps new (no_generation_is_left due last) = inl refl
journal_due generation clone reply steps new (swaps_journal due left made step) =
    inr (record { due = due; left = left; new = made; step = step; swaps = refl })

-- ---- what calls answer

-- the reply to an update that ended so
abbrev pub IsUpdateReply : Result Done UpdateFault → ShellReply → Type 0
IsUpdateReply (Ok done.Nothing) reply = reply ≡ Says NoOperation
IsUpdateReply (Ok (done.Made entry)) reply = reply ≡ DidAt (last_dot entry.range)
IsUpdateReply (Err update.TooMany) reply = reply ≡ Says TooMany
IsUpdateReply (Err (update.Single subject property)) reply = reply ≡ Says (Single subject property)
IsUpdateReply (Err update.TicksSpent) reply = reply ≡ TicksSpent
IsUpdateReply (Err fault) reply = ⊥

-- an update was stopped by its device, or by memory
abbrev pub IsUpdateStop : Result Done UpdateFault → Type 0
IsUpdateStop (Err update.Device) = Unit {0}
IsUpdateStop (Err update.NoMemory) = Unit {0}
IsUpdateStop result = ⊥

-- the reply to a journal that was kept, or not
abbrev pub IsKeepReply : Result ℕ KeepFault → ShellReply → Type 0
IsKeepReply (Ok count) reply = reply ≡ Says (Kept count)
IsKeepReply (Err keep.GenerationsSpent) reply = reply ≡ GenerationsSpent
IsKeepReply (Err fault) reply = ⊥

abbrev pub IsKeepStop : Result ℕ KeepFault → Type 0
IsKeepStop (Err keep.Device) = Unit {0}
IsKeepStop (Err keep.NoMemory) = Unit {0}
IsKeepStop result = ⊥

module _ {B : Type 0} (log : B → Option Log) (meter : B → Meter) (old new : BankedClone B) where
  -- nothing changes
  pub stays_on : (Rule : ShellReply → List KeptStep → LocalClone → Type 0) (reply : ShellReply) → new ≡ old → old.closed ≡ None → Rule reply [] old.local
      → CloneGoesOn log meter Rule old new reply
  stays_on Rule reply same is_open does = record {
    steps = [];
    does = subst (λ (clone : BankedClone B). Rule reply [] clone.local) (sym same) does;
    opened = ap (λ (clone : BankedClone B). clone.closed) same ∙ is_open;
    counts = ap (λ (clone : BankedClone B). clone.generation) same;
    moments = ap (λ (clone : BankedClone B). clone.banks) same;
  }

  -- ---- an update

  module _ (plan : UpdatePlan) where
    abbrev Updates : ShellReply → List KeptStep → LocalClone → Type 0
    Updates = AnswersUpdate old.local plan

    says : (told reply : ShellReply) (steps : List KeptStep) (clone : LocalClone) → reply ≡ told → Updates told steps clone → Updates reply steps clone
    says told reply steps clone is does = subst (λ (r : ShellReply). Updates r steps clone) (sym is) does

    pub update_goes : (result : Result Done UpdateFault) (reply : ShellReply) → IsUpdateReply result reply → old.closed ≡ None
        → IfOk result (λ answer. LocallyUpdatesBy old.local plan answer new.local) → OnOk result (StaysOpen old new)
        → (IsErrOf result update.TicksSpent ↔ ((old.closed ≡ None) × (ticks_of old.local.ticks old.local.path ≡ tick_limit)))
        → IfErr result (RefusesUpdate old.local plan)
        → IfErr result (λ fault. LeavesClone log meter (IsDueUpdate old.local plan) ⊥ old new (update_stop fault))
        → ((steps : List KeptStep) × UpdateSteps old.local plan result steps × Changes log meter steps old new.banks (IsOk result) (IsErrOf result update.Device))
        → CloneGoesOn log meter (AnswersUpdate old.local plan) old new reply
    update_goes (Ok done.Nothing) reply is is_open ok opened spent refused left durable =
        let some : ¬ HasSpentTicks old.local = λ h. let e = spent.1 (is_open, h) in absurd cc in
        let none : Updates (Says NoOperation) [] old.local =
        changes_nothing some (subst (λ (clone : LocalClone). LocallyUpdatesBy old.local plan done.Nothing clone) ok.updates.1 ok) in
        record {
          steps = [];
          does = subst (λ (clone : LocalClone). Updates reply [] clone) (sym ok.updates.1) (says (Says NoOperation) reply [] old.local is none);
          opened = opened.opened;
          counts = opened.generation;
          moments = subst (λ (steps : List KeptStep). LeavesFronts log meter steps old new.banks) durable.1 durable.2.moments;
        }
    update_goes (Ok (done.Made entry)) reply is is_open ok opened spent refused left durable =
        let some : ¬ HasSpentTicks old.local = λ h. let e = spent.1 (is_open, h) in absurd cc in
        let steps : List KeptStep = Appended entry ∷ [] in
        let dot : last_dot entry.range ≡ next_dot old.local = ap (λ (e : EntryValue). last_dot e.range) ok.updates.1.carries in
        record {
          steps = steps;
          does = says (DidAt (next_dot old.local)) reply steps new.local (is ∙ ap (λ (d : Dot). DidAt d) dot) (makes_operation some entry new.local ok);
          opened = opened.opened;
          counts = opened.generation;
          moments = subst (λ (made : List KeptStep). LeavesFronts log meter made old new.banks) durable.1 durable.2.moments;
        }
    update_goes (Err update.TooMany) reply is is_open ok opened spent refused left durable =
        let some : ¬ HasSpentTicks old.local = λ h. let e = spent.1 (is_open, h) in absurd cc in
        stays_on Updates reply left is_open (says (Says TooMany) reply [] old.local is (is_too_large some refused))
    update_goes (Err (update.Single subject property)) reply is is_open ok opened spent refused left durable =
        let some : ¬ HasSpentTicks old.local = λ h. let e = spent.1 (is_open, h) in absurd cc in
        stays_on Updates reply left is_open (says (Says (Single subject property)) reply [] old.local is (breaks_single some (subject, property) refused))
    update_goes (Err update.TicksSpent) reply is is_open ok opened spent refused left durable =
        stays_on Updates reply left is_open (says TicksSpent reply [] old.local is (no_tick_is_left (spent.0 refl).1))
    update_goes (Err (update.Closed why)) reply is is_open ok opened spent refused left durable = absurd is
    update_goes (Err update.Device) reply is is_open ok opened spent refused left durable = absurd is
    update_goes (Err update.NoMemory) reply is is_open ok opened spent refused left durable = absurd is

    planned_or_none : (steps : List KeptStep) → (steps ≡ []) ⊎ AppendsPlanned old.local plan steps → (steps ≡ []) ⊎ AppendsUpdate old.local plan steps
    planned_or_none steps (inl none) = inl none
    planned_or_none steps (inr plans) = inr (planned old.local plan steps plans)

    pub update_stops : (result : Result Done UpdateFault) → IsUpdateStop result
        → ((steps : List KeptStep) × UpdateSteps old.local plan result steps × Changes log meter steps old new.banks (IsOk result) (IsErrOf result update.Device))
        → CloneLeavesFrontOfDue log meter (AppendsUpdate old.local plan) old new.banks
    update_stops (Ok answer) is durable = absurd is
    update_stops (Err update.Device) is durable =
        record { steps = durable.0; due = inr (planned old.local plan durable.0 durable.1); moments = durable.2.moments }
    update_stops (Err update.NoMemory) is durable =
        record { steps = durable.0; due = planned_or_none durable.0 durable.1; moments = durable.2.moments }
    update_stops (Err update.TooMany) is durable = absurd is
    update_stops (Err (update.Single subject property)) is durable = absurd is
    update_stops (Err update.TicksSpent) is durable = absurd is
    update_stops (Err (update.Closed why)) is durable = absurd is

  -- ---- a journal that is kept

  module _ (Due : Type 0) (Step : LocalClone → Type 0) where
    -- there is nothing to do, and nothing changes; or there is, and what the banks keep is of the next generation
    abbrev pub KeepsEither : Type 0
    KeepsEither = (¬ Due × (new ≡ old)) ⊎ (Due × Step new.local × (new.closed ≡ None) × (new.generation ≡ old.generation + 1))

    abbrev Journals : ShellReply → List KeptStep → LocalClone → Type 0
    Journals = KeepsJournal Due Step old.generation old.local

    tells : (told reply : ShellReply) (steps : List KeptStep) (clone : LocalClone) → reply ≡ told → Journals told steps clone → Journals reply steps clone
    tells told reply steps clone is does = subst (λ (r : ShellReply). Journals r steps clone) (sym is) does

    kept_swapped : (count : ℕ) (reply : ShellReply) → reply ≡ Says (Kept count) → count ≡ length new.local.entries → ¬ (old.generation ≡ 2 ^ 64 - 1)
        → Due → Step new.local → new.closed ≡ None → new.generation ≡ old.generation + 1
        → (steps : List KeptStep) → (¬ Due × (steps ≡ [])) ⊎ (Due × SwapsTo new.local steps) → LeavesFronts log meter steps old new.banks
        → CloneGoesOn log meter Journals old new reply
    kept_swapped count reply is counted left due step opened next steps (inl none) moments = absurd (none.0 due)
    kept_swapped count reply is counted left due step opened next steps (inr made) moments = record {
      steps = Swapped (head_of new.local) new.local.entries ∷ [];
      does = tells (Says (Kept (length new.local.entries))) reply (Swapped (head_of new.local) new.local.entries ∷ []) new.local
          (is ∙ ap (λ (n : ℕ). Says (Kept n)) counted) (swaps_journal due left new.local step);
      opened = opened;
      counts = next;
      moments = subst (λ (s : List KeptStep). LeavesFronts log meter s old new.banks) made.1 moments;
    }

    kept_goes_on : (count : ℕ) (reply : ShellReply) → reply ≡ Says (Kept count) → count ≡ length new.local.entries → old.closed ≡ None
        → (Due → ¬ (old.generation ≡ 2 ^ 64 - 1)) → KeepsEither
        → (steps : List KeptStep) → (¬ Due × (steps ≡ [])) ⊎ (Due × SwapsTo new.local steps) → LeavesFronts log meter steps old new.banks
        → CloneGoesOn log meter Journals old new reply
    kept_goes_on count reply is counted is_open left (inl none) steps made moments =
        let same : count ≡ length old.local.entries = counted ∙ ap (λ (clone : BankedClone B). length clone.local.entries) none.1 in
        stays_on Journals reply none.1 is_open
        (tells (Says (Kept (length old.local.entries))) reply [] old.local (is ∙ ap (λ (n : ℕ). Says (Kept n)) same) (is_kept_so none.0))
    kept_goes_on count reply is counted is_open left (inr kept) steps made moments =
        kept_swapped count reply is counted (left kept.0) kept.0 kept.1 kept.2 kept.3 steps made moments

    pub keep_goes : (result : Result ℕ KeepFault) (reply : ShellReply) → IsKeepReply result reply → old.closed ≡ None
        → IfOk result (λ count. KeepsEither × (count ≡ length new.local.entries))
        → (IsErrOf result keep.GenerationsSpent ↔ (IsSpent Due old × ¬ IsErrOf result keep.NoMemory))
        → IfErr result (λ fault. LeavesClone log meter (IsDueSwap Due old.generation) ⊥ old new (keep_stop fault))
        → ((steps : List KeptStep) × KeepSteps Due Step new.local result steps × Changes log meter steps old new.banks (IsOk result) (IsErrOf result keep.Device))
        → CloneGoesOn log meter (KeepsJournal Due Step old.generation old.local) old new reply
    keep_goes (Ok count) reply is is_open ok spent left durable =
        kept_goes_on count reply is ok.1 is_open
        (λ due last. let e = spent.1 (record { opened = is_open; due = due; last = last }, λ told. absurd cc) in absurd cc)
        ok.0 durable.0 durable.1 durable.2.moments
    keep_goes (Err keep.GenerationsSpent) reply is is_open ok spent left durable =
        let known = (spent.0 refl).0 in
        stays_on Journals reply left is_open (tells GenerationsSpent reply [] old.local is (no_generation_is_left known.due known.last))
    keep_goes (Err (keep.Closed why)) reply is is_open ok spent left durable = absurd is
    keep_goes (Err keep.Device) reply is is_open ok spent left durable = absurd is
    keep_goes (Err keep.NoMemory) reply is is_open ok spent left durable = absurd is

    abbrev Would : List KeptStep → Type 0
    Would steps = (next : LocalClone) × Step next × SwapsTo next steps

    swaps_so : (steps : List KeptStep) → IsDueSwap Due old.generation → Would steps → SwapsJournal Due Step old.generation steps
    swaps_so steps is_due would = record { due = is_due.due; left = is_due.left; new = would.0; step = would.1; swaps = would.2 }

    short_of_memory : (steps : List KeptStep) → (steps ≡ []) ⊎ Would steps → LeavesFronts log meter steps old new.banks
        → (new ≡ old) ⊎ IsDueSwap Due old.generation → CloneLeavesFrontOfDue log meter (SwapsJournal Due Step old.generation) old new.banks
    short_of_memory steps (inl none) moments left = record { steps = steps; due = inl none; moments = moments }
    short_of_memory steps (inr would) moments (inl same) =
        record { steps = []; due = inl refl; moments = ap (λ (clone : BankedClone B). clone.banks) same }
    short_of_memory steps (inr would) moments (inr is_due) = record { steps = steps; due = inr (swaps_so steps is_due would); moments = moments }

    pub keep_stops : (result : Result ℕ KeepFault) → IsKeepStop result
        → IfErr result (λ fault. LeavesClone log meter (IsDueSwap Due old.generation) ⊥ old new (keep_stop fault))
        → ((steps : List KeptStep) × KeepSteps Due Step new.local result steps × Changes log meter steps old new.banks (IsOk result) (IsErrOf result keep.Device))
        → CloneLeavesFrontOfDue log meter (SwapsJournal Due Step old.generation) old new.banks
    keep_stops (Ok count) is left durable = absurd is
    keep_stops (Err keep.Device) is left durable =
        record { steps = durable.0; due = inr (swaps_so durable.0 left.due durable.1); moments = durable.2.moments }
    keep_stops (Err keep.NoMemory) is (inl same) durable = short_of_memory durable.0 durable.1 durable.2.moments (inl same)
    keep_stops (Err keep.NoMemory) is (inr shuts) durable = short_of_memory durable.0 durable.1 durable.2.moments (inr shuts.due)
    keep_stops (Err keep.GenerationsSpent) is left durable = absurd is
    keep_stops (Err (keep.Closed why)) is left durable = absurd is

  pub compacts_either : KeepsCompacted old new → KeepsEither (HasNeighbours old.local.entries) (LocallyCompacts old.local)
  compacts_either (nothing_to_fuse fused same) =
      inl (λ has. neighbours_fused old.local.entries has (fused_runs_are_compacted old.local.entries old.local.entries fused), same)
  compacts_either (swapped compacts has opened next) = inr (has, compacts, opened, next)

  pub truncates_either : (count : ℕ) → KeepsTruncated old count new → KeepsEither (count < length old.local.entries) (LocallyTruncates old.local count)
  truncates_either count (nothing_to_cut few same) = inl (λ more. omega (arith, few, more), same)
  truncates_either count (cut more truncates opened next) = inr (more, truncates, opened, next)

  -- ---- the text of a reply

  module _ (Rule : ShellReply → List KeptStep → LocalClone → Type 0) (Due : List KeptStep → Type 0) (before after : List ℕ) where
    -- it was added
    pub answers : {T E : Type 0} (result : Result T E) (reply : ShellReply) → CloneGoesOn log meter Rule old new reply → OnOk result (after ≡ before ++ shell_text reply)
        → OnOk result (CloneAnswers log meter Rule old before new after)
    answers (Ok value) reply goes_on written = record { reply = reply; goes_on = goes_on; written = written }
    answers (Err fault) reply goes_on written = tt

    -- or it was not
    pub short : {T E : Type 0} (result : Result T E) (reply : ShellReply) → CloneGoesOn log meter Rule old new reply
        → ((steps : List KeptStep) → Rule reply steps new.local → (steps ≡ []) ⊎ Due steps) → OnErr result (CloneLeavesFrontOfDue log meter Due old new.banks)
    short (Ok value) reply goes_on due = tt
    short (Err fault) reply goes_on due = record { steps = goes_on.steps; due = due goes_on.steps goes_on.does; moments = goes_on.moments }
