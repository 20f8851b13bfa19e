-- What a command leaves of the banks of its clone, by what the call of that clone tells.
use Rattle.std.proofs.Common.{◌≡◌, ◌≢◌, ◌⊎◌, ℕ, zero, suc, ◌<◌, List, [], ◌∷◌, Option, Some, None, Result, Ok, Err, IfOk, IfErr, IsErrAnd, IsOk, IsErrOf, inl, inr, refl, sym, ◌∙◌, ap, arith, subst, length}
use Rattle.std.proofs.lemmas.List.{append_cancel_left}
use Rattle.std.specs.Prelude.{slice_get}
use Rattle.std.specs.Result.{result_err}
use Rattle.tree_clock.specs.Clock.{ticks_of}
use Rattle.tree_clock.specs.Limits.{tick_limit}
use Rattle.mld_io.specs.Arm.{Meter, Metered}
use Rattle.mld_io.specs.Disk.{Log}
use Rattle.crash_laws.specs.journal_store.Crashes.{LeavesNothingNew}
use Rattle.crash_laws.specs.journal_store.declared.faults.MountFault.TheVariants as mount
use Rattle.crash_laws.specs.journal_store.declared.faults.Why.{Why}
use Rattle.crash_laws.specs.journal_store.declared.faults.Why.TheVariants as why
use Rattle.jrql_ast.specs.declared.plans.UpdatePlan.{UpdatePlan}
use Rattle.mld_ops.specs.declared.messages.Give.{Give}
use Rattle.mld_ops.specs.declared.messages.Message.{Message}
use Rattle.mld_ops.specs.declared.messages.Message.TheVariants as message
use Rattle.mld_ops.specs.Entry.{EntryValue}
use Rattle.mld_ops.specs.Messages.{GiveValue, give_value}
use Rattle.mld_model.specs.Local.{LocalAsker, LocalClone, joined_clone}
use Rattle.mld_model.specs.StandsFor.{RunningClone}
use Rattle.mld_model.specs.World.{numbered}
use Rattle.mld_model.specs.declared.CloneState.TheVariants as states
use Rattle.crash_laws.specs.clone_parts.KeptSteps.{KeptStep, Appended, Forked, Swapped, appends}
use Rattle.crash_laws.specs.clone_core.Banked.{BankedAsker, BankedClone, head_of}
use Rattle.crash_laws.specs.clone_core.CloneCalls.{LocallyReceives, Refuses}
use Rattle.crash_laws.specs.clone_core.CloneClosing.{LeavesClone, update_stop, receive_stop, keep_stop}
use Rattle.crash_laws.specs.clone_core.CloneUpdates.{LocallyUpdatesBy, RefusesUpdate, IsDueUpdate}
use Rattle.crash_laws.specs.clone_core.Due.{HasToMake, IsDueMessage, IsDueSwap, IsSwapDue}
use Rattle.crash_laws.specs.clone_core.DurableCalls.{LeavesFronts, Changes, Creates, RefusedSteps, AppendsPlanned, UpdateSteps, ReceivedSteps, WouldReceive, MessageSteps, SwapsTo, KeepSteps}
use Rattle.crash_laws.specs.clone_core.Joining.{IsGiveFor, LocallyAdopts, banks_of_adopted, AdoptsWhole, FailsToAdopt}
use Rattle.crash_laws.specs.clone_core.Keeping.{nothing_to_fuse, swapped, nothing_to_cut, cut}
use Rattle.crash_laws.specs.clone_core.Opening.{banks_of_mounted, mount_calls, SyncsBoth, FailsToOpen}
use Rattle.crash_laws.specs.clone_core.declared.askers.Adopted.{Adopted}
use Rattle.crash_laws.specs.clone_core.declared.askers.Adopted.TheVariants as adopted
use Rattle.crash_laws.specs.clone_core.declared.mounts.Mounted.{Mounted}
use Rattle.crash_laws.specs.clone_core.declared.mounts.Mounted.TheVariants as mounted
use Rattle.crash_laws.specs.clone_parts.declared.answers.Done.{Done}
use Rattle.crash_laws.specs.clone_parts.declared.answers.Done.TheVariants as done
use Rattle.crash_laws.specs.clone_parts.declared.answers.Got.{Got}
use Rattle.crash_laws.specs.clone_parts.declared.answers.Got.TheVariants as got
use Rattle.crash_laws.specs.clone_parts.declared.faults.KeepFault.{KeepFault}
use Rattle.crash_laws.specs.clone_parts.declared.faults.KeepFault.TheVariants as keep
use Rattle.crash_laws.specs.clone_parts.declared.faults.ReceiveFault.{ReceiveFault}
use Rattle.crash_laws.specs.clone_parts.declared.faults.ReceiveFault.TheVariants as receive
use Rattle.crash_laws.specs.clone_parts.declared.faults.UpdateFault.{UpdateFault}
use Rattle.crash_laws.specs.clone_parts.declared.faults.UpdateFault.TheVariants as update
use Rattle.crash_laws.proofs.ToldDeeds.{has_to_make}
use Rattle.schedule_replies.specs.declared.replies.Reply.{Reply}
use Rattle.world_commands.specs.declared.deliver.Received.{Received}
use Rattle.world_commands.specs.declared.faults.WorldFault.{WorldFault}
use Rattle.world_commands.specs.declared.faults.WorldFault.TheVariants as faults
use Rattle.world_commands.specs.declared.keeping.Keeping.{Keeping}
use Rattle.world_commands.specs.declared.keeping.Keeping.TheVariants as keepings
use Rattle.world_commands.specs.Asking.{AsksFirst}
use Rattle.world_commands.specs.Delivering.{IsToldOf}
use Rattle.world_commands.specs.Doings.{WhereUp, IsNotDown, AppendsDue, UpdatesNone, changes_nothing, has_too_many, breaks_single, ReceivesNone, received_none, held_full, too_deep, doing_nothing, doing_open, doing_update, doing_receive, doing_keep, doing_deliver, KeepsLocally, IsKeepDue, IsKeptAlready}
use Rattle.world_commands.specs.KeptJournals.{KeepsBy, fault_of_keeping}
use Rattle.world_commands.specs.LeftBanks.{WorkOnBanks, MakesDeviceCalls, EndsUncalled, LeavesState, leaves_same, leaves_live, leaves_made, leaves_opened, LeavesAt, IsSilent}
use Rattle.world_commands.specs.OpeningBanks.{IsOpenedAs}
use Rattle.world_commands.specs.States.{HasState, Becomes}
use Rattle.world_commands.specs.StoppedClones.{StopsOnBanks}
use Rattle.world_commands.specs.WorldBanks.{BankedState, in_memory, banks_of_state}
use Rattle.world_commands.specs.WorldFaults.{fault_of_made}
use Rattle.world_commands.proofs.DeliverLemmas.{adopted_banks}
use Rattle.world_commands.proofs.KeepLemmas.{keeps_locally}
use Rattle.world_commands.proofs.Places.{elsewhere_at, set_here}
use Rattle.world_commands.proofs.StopLemmas.{opened_banks}

-- ---- what a call tells

-- a call that ended so wasn't stopped by its device or by memory
abbrev pub IsUnstopped : Option Why → Type 0
IsUnstopped None = Unit {0}
IsUnstopped (Some reason) = ⊥

-- an update that ended so is told by a reply
abbrev pub UpdateAnswers : Result Done UpdateFault → Type 0
UpdateAnswers (Ok answer) = Unit {0}
UpdateAnswers (Err update.TooMany) = Unit {0}
UpdateAnswers (Err (update.Single subject property)) = Unit {0}
UpdateAnswers (Err fault) = ⊥

-- so is a message
abbrev pub MessageAnswers : Result Got ReceiveFault → Type 0
MessageAnswers (Ok answer) = Unit {0}
MessageAnswers (Err receive.HeldFull) = Unit {0}
MessageAnswers (Err receive.Deep) = Unit {0}
MessageAnswers (Err fault) = ⊥

update_unstopped : (fault : UpdateFault) → UpdateAnswers (Err fault) → IsUnstopped (update_stop fault)
update_unstopped update.TooMany told = tt
update_unstopped (update.Single subject property) told = tt
update_unstopped fault told = absurd told

update_none : (old : LocalClone) (plan : UpdatePlan) (fault : UpdateFault) → RefusesUpdate old plan fault → UpdateAnswers (Err fault) → UpdatesNone old plan
update_none old plan update.TooMany refuses told = has_too_many refuses
update_none old plan (update.Single subject property) refuses told = breaks_single (subject, property) refuses
update_none old plan fault refuses told = absurd told

message_unstopped : (fault : ReceiveFault) → MessageAnswers (Err fault) → IsUnstopped (receive_stop fault)
message_unstopped receive.HeldFull told = tt
message_unstopped receive.Deep told = tt
message_unstopped fault told = absurd told

message_none : (old : LocalClone) (sent : Message) (fault : ReceiveFault) → Refuses old sent fault → MessageAnswers (Err fault) → ReceivesNone old sent
message_none old sent receive.HeldFull refuses told = held_full refuses
message_none old sent receive.Deep refuses told = too_deep refuses
message_none old sent fault refuses told = absurd told

-- ---- changes that were made

planned_due : (old : LocalClone) (plan : UpdatePlan) (steps : List KeptStep) → AppendsPlanned old plan steps → AppendsDue old plan steps
planned_due old plan steps planned = record {
  due = planned.due;
  ordered = planned.appends.1.may.ordered;
  entry = planned.appends.0;
  time = planned.appends.1.time;
  carries = planned.appends.1.carries;
  appends = planned.appends.2;
}

-- a tick that is below the last one is left
pub below_last : {B : Type 0} (clone : BankedClone B) → ticks_of clone.local.ticks clone.local.path < tick_limit → ticks_of clone.local.ticks clone.local.path ≢ tick_limit
below_last clone below last = omega (arith, below, last)

-- an update that was done made no operation, or appended it
update_made : (old new : LocalClone) (plan : UpdatePlan) (answer : Done) (steps : List KeptStep) → ticks_of old.ticks old.path ≢ tick_limit
    → LocallyUpdatesBy old plan answer new → UpdateSteps old plan (Ok answer) steps → ((steps ≡ []) × UpdatesNone old plan) ⊎ AppendsDue old plan steps
update_made old new plan done.Nothing steps left ok none = inl (none, changes_nothing new ok)
update_made old new plan (done.Made entry) steps left ok made = inr (record {
  due = record { left = left; effect = ok.effect; has = ok.has; may = ok.updates.0 };
  ordered = ok.updates.1.ordered;
  entry = entry;
  time = ok.updates.1.time;
  carries = ok.updates.1.carries;
  appends = made;
})

-- a message that was received so changed nothing
passed_none : (old new : LocalClone) (sent : Message) (answer : Got) (steps : List KeptStep) → LocallyReceives old sent answer new → ReceivedSteps sent answer old new steps
    → steps ≡ [] → ReceivesNone old sent
passed_none old new sent answer steps ok made none = received_none answer new ok (subst (λ (s : List KeptStep). ReceivedSteps sent answer old new s) none made)

received_made : (old new : LocalClone) (sent : Message) (answer : Got) (steps : List KeptStep) → LocallyReceives old sent answer new → ReceivedSteps sent answer old new steps
    → (steps ≡ []) ⊎ (HasToMake old sent × WouldReceive old sent steps)
received_made old new (message.Range entry) (got.Took ranges) steps ok taken = inr (record { own = ok.0; ready = ok.1.ready }, (new, ranges, ok.1, taken))
received_made old new (message.JoinAsk id) (got.Answer answers) steps ok forked = inr (record { other = ok.0; room = ok.1.2.room }, forked)
received_made old new (message.Snapshot snapshot) (got.Merged ranges) steps ok merged = inr (record { own = ok.0; lacks = ok.1.lacks }, (new, ranges, ok.1, merged))
received_made old new sent answer steps ok none = inl none

-- a journal that was kept is due, or is kept already
keep_none : {B : Type 0} (keeping : Keeping) (old new : BankedClone B) → KeepsBy keeping old new → ¬ IsKeepDue keeping old.local → IsKeptAlready keeping old.local
keep_none keepings.Compacted old new (nothing_to_fuse fused same) not = fused
keep_none keepings.Compacted old new (swapped compacts due opened next) not = absurd (not due)
keep_none (keepings.Last count) old new (nothing_to_cut within same) not = within
keep_none (keepings.Last count) old new (cut more truncates opened next) not = absurd (not more)

-- ---- changes that are some

some_steps : (step : KeptStep) (rest steps : List KeptStep) → steps ≡ step ∷ rest → steps ≢ []
some_steps step rest steps is none = absurd (cc (sym is ∙ none))

-- an update appends one entry, and a journal that is kept is one swap
due_some : (old : LocalClone) (plan : UpdatePlan) (steps : List KeptStep) → AppendsDue old plan steps → steps ≢ []
due_some old plan steps due = some_steps (Appended due.entry) [] steps due.appends

swap_some : (next : LocalClone) (steps : List KeptStep) → SwapsTo next steps → steps ≢ []
swap_some next steps swaps = some_steps (Swapped (head_of next) next.entries) [] steps swaps

-- of the entries that are taken the message's own is the first
would_some : (old : LocalClone) (sent : Message) (steps : List KeptStep) → WouldReceive old sent steps → steps ≢ []
would_some old (message.Range entry) steps would =
    let same : would.3.0 ≡ entry ∷ would.2.taken = append_cancel_left old.entries would.3.0 (entry ∷ would.2.taken) (sym would.3.1 ∙ would.2.entries) in
    some_steps (Appended entry) (appends would.2.taken) steps (would.3.2 ∙ ap (λ (taken : List EntryValue). appends taken) same)
would_some old (message.JoinAsk id) steps would = some_steps Forked [] steps would
would_some old (message.Snapshot snapshot) steps would = some_steps (Swapped (head_of would.0) []) (appends would.0.entries) steps would.3
would_some old (message.Want clock) steps would = absurd would
would_some old (message.JoinGive give) steps would = absurd would

-- ---- how a command ended

pub fault_undone : {X : Type 0} (fault : WorldFault) → ◌≡◌ {A = Option WorldFault} (Some fault) None → X
fault_undone fault is = absurd (cc is)

pub done_unfailed : {X : Type 0} (clone : ℕ) → ◌≡◌ {A = Option WorldFault} None (Some (faults.Device clone)) → X
done_unfailed clone is = absurd (cc is)

pub short_unfailed : {X : Type 0} (clone : ℕ) → ◌≡◌ {A = Option WorldFault} (Some faults.NoMemory) (Some (faults.Device clone)) → X
short_unfailed clone is = absurd (cc is)

-- where memory was wanting no device failed
pub memory_unfailed : {T X : Type 0} (r : Result T WorldFault) → IsErrAnd r (λ fault. fault ≡ faults.NoMemory) → (clone : ℕ) → result_err r ≡ Some (faults.Device clone) → X
memory_unfailed (Ok value) memory clone is = absurd memory
memory_unfailed (Err fault) memory clone is = short_unfailed clone (ap (λ (f : WorldFault). Some f) (sym memory) ∙ is)

-- a command that makes no call ends so, if its device doesn't fail
uncalled_by : (doing : WorkOnBanks) (state : RunningClone) (ended : Option WorldFault) → (ended ≡ None → doing.idles state)
    → ((clone : ℕ) → ended ≢ Some (faults.Device clone)) → EndsUncalled doing state ended
uncalled_by doing state None idle unfailed = idle refl
uncalled_by doing state (Some faults.NoMemory) idle unfailed = tt
uncalled_by doing state (Some (faults.Device clone)) idle unfailed = absurd (unfailed clone refl)

pub memory_uncalled : {T : Type 0} (doing : WorkOnBanks) (r : Result T WorldFault) → IsErrAnd r (λ fault. fault ≡ faults.NoMemory) → (state : RunningClone) → EndsUncalled doing state (result_err r)
memory_uncalled doing (Ok value) memory state = absurd memory
memory_uncalled doing (Err fault) memory state = subst (λ (f : WorldFault). EndsUncalled doing state (Some f)) (sym memory) tt

-- so it is where there is nothing that it may do on banks
pub nothing_uncalled : {T : Type 0} (r : Result T WorldFault) → IfErr r (λ fault. fault ≡ faults.NoMemory) → (state : RunningClone) → EndsUncalled doing_nothing state (result_err r)
nothing_uncalled (Ok value) memory state = tt
nothing_uncalled (Err fault) memory state = subst (λ (f : WorldFault). EndsUncalled doing_nothing state (Some f)) (sym memory) tt

-- a command ended as a part of it did, or memory ran out behind that
abbrev pub EndsBehind : Option WorldFault → Option WorldFault → Type 0
EndsBehind part ended = (ended ≡ part) ⊎ ((part ≡ None) × (ended ≡ Some faults.NoMemory))

pub memory_behind : {T : Type 0} (r : Result T WorldFault) → IfErr r (λ fault. fault ≡ faults.NoMemory) → EndsBehind None (result_err r)
memory_behind (Ok value) memory = inl refl
memory_behind (Err fault) memory = inr (refl, ap (λ (f : WorldFault). Some f) memory)

done_behind : (part ended : Option WorldFault) → EndsBehind part ended → ended ≡ None → part ≡ None
done_behind part ended (inl same) whole = sym same ∙ whole
done_behind part ended (inr short) whole = fault_undone faults.NoMemory (sym short.1 ∙ whole)

uncalled_behind : (one other : WorkOnBanks) (state : RunningClone) (part ended : Option WorldFault) → (one.idles state → other.idles state) → EndsBehind part ended
    → EndsUncalled one state part → EndsUncalled other state ended
uncalled_behind one other state part ended idles (inl same) uncalled = subst (λ (e : Option WorldFault). EndsUncalled other state e) (sym same) (by part uncalled)
  where
    by : (part : Option WorldFault) → EndsUncalled one state part → EndsUncalled other state part
    by None idle = idles idle
    by (Some faults.NoMemory) idle = tt
    by (Some (faults.Device clone)) idle = absurd idle
uncalled_behind one other state part ended idles (inr short) uncalled = subst (λ (e : Option WorldFault). EndsUncalled other state e) (sym short.1) tt

-- one that was done had nothing to do
pub idle_done : (doing : WorkOnBanks) (state : RunningClone) (ended : Option WorldFault) → ended ≡ None → EndsUncalled doing state ended → doing.idles state
idle_done doing state None whole idle = idle
idle_done doing state (Some fault) whole idle = fault_undone fault whole

-- ---- the state that is left

-- so many calls went, where the device tells of them
went_as : {B : Type 0} (meter : B → Meter) (calls : ℕ) (Done Failed Whole : Type 0) (old now : B) → Metered calls (meter old) (meter now) Done Failed → (Whole → Done)
    → MakesDeviceCalls meter calls Whole old now
went_as meter calls Done Failed Whole old now metered all = record { most = metered.lowered; whole = λ whole. (metered.done (all whole)).lowered; caught = metered.caught }

went_past : {B : Type 0} (meter : B → Meter) (calls : ℕ) (Done Whole : Type 0) (old now : B) → (Whole → Done) → MakesDeviceCalls meter calls Done old now → MakesDeviceCalls meter calls Whole old now
went_past meter calls Done Whole old now all went = record { most = went.most; whole = λ whole. went.whole (all whole); caught = went.caught }

-- what a command may do another may, which ended as it did, or for want of memory behind that
left_as : {B : Type 0} (log : B → Option Log) (meter : B → Meter) (one other : WorkOnBanks) (part ended : Option WorldFault) (old new : BankedState B)
    → ((clone : LocalClone) (steps : List KeptStep) → one.changes clone steps → other.changes clone steps)
    → ((asker : LocalAsker) (give : GiveValue) → one.takes asker give → other.takes asker give) → (one.opens → other.opens)
    → ((state : RunningClone) → one.idles state → other.idles state) → EndsBehind part ended
    → LeavesState log meter one part old new → LeavesState log meter other ended old new
left_as log meter one other part ended old new changes takes opens idles behind (leaves_same same uncalled) =
    leaves_same same (uncalled_behind one other (in_memory old) part ended (idles (in_memory old)) behind uncalled)
left_as log meter one other part ended (states.Live old) (states.Live new) changes takes opens idles behind (leaves_live steps some made went fronts) =
    leaves_live steps some (changes old.local steps made) (went_past meter _ (part ≡ None) (ended ≡ None) old.banks new.banks (done_behind part ended behind) went) fronts
left_as log meter one other part ended (states.Asking old) new changes takes opens idles behind (leaves_made give taken went left) =
    leaves_made give (takes old.asker give taken) (went_past meter _ (part ≡ None) (ended ≡ None) old.banks (banks_of_state new) (done_behind part ended behind) went) left
left_as log meter one other part ended (states.Down old) new changes takes opens idles behind (leaves_opened may went left) =
    leaves_opened (opens may) (went_past meter _ (part ≡ None) (ended ≡ None) old (banks_of_state new) (done_behind part ended behind) went) left

module _ {B : Type 0} (log : B → Option Log) (meter : B → Meter) (doing : WorkOnBanks) (ended : Option WorldFault) where
  -- where the banks are the same
  pub left_same : (old new : BankedState B) → banks_of_state new ≡ banks_of_state old → EndsUncalled doing (in_memory old) ended → LeavesState log meter doing ended old new
  left_same old new same uncalled = leaves_same same uncalled

  -- where a live clone made no changes
  none_left : (old new : BankedClone B) (steps : List KeptStep) (Done Failed : Type 0) → Changes log meter steps old new.banks Done Failed
      → steps ≡ [] → EndsUncalled doing (states.Live old.local) ended → LeavesState log meter doing ended (states.Live old) (states.Live new)
  none_left old new steps Done Failed made none uncalled =
      left_same (states.Live old) (states.Live new) (subst (λ (s : List KeptStep). LeavesFronts log meter s old new.banks) none made.moments) uncalled

  -- where it made some
  changes_left : (old new : BankedClone B) (steps : List KeptStep) (Done Failed : Type 0) → Changes log meter steps old new.banks Done Failed
      → steps ≢ [] → doing.changes old.local steps → (ended ≡ None → Done) → LeavesState log meter doing ended (states.Live old) (states.Live new)
  changes_left old new steps Done Failed made some may all =
      leaves_live steps some may (went_as meter _ Done Failed (ended ≡ None) old.banks new.banks made.metered all) made.moments

  -- where its call was refused: it made no changes, or those that it would have made; where it wasn't stopped it made none
  refused_left : (old new : BankedClone B) (Due Swaps : Type 0) (Would : List KeptStep → Type 0) (stop : Option Why) (steps : List KeptStep) (Done Failed : Type 0)
      → (Due → Would steps → doing.changes old.local steps) → (Would steps → steps ≢ []) → (ended ≡ None → IsUnstopped stop) → (ended ≡ None → doing.idles (states.Live old.local))
      → ((clone : ℕ) → ended ≡ Some (faults.Device clone) → stop ≡ Some why.Device)
      → LeavesClone log meter Due Swaps old new stop → RefusedSteps Would stop steps → Changes log meter steps old new.banks Done Failed
      → LeavesState log meter doing ended (states.Live old) (states.Live new)
  refused_left old new Due Swaps Would None steps Done Failed into some told idle fails left none made =
      none_left old new steps Done Failed made none (uncalled_by doing (states.Live old.local) ended idle (λ clone is. absurd (cc (fails clone is))))
  refused_left old new Due Swaps Would (Some why.Device) steps Done Failed into some told idle fails left would made =
      changes_left old new steps Done Failed made (some would) (into left.due would) (λ whole. absurd (told whole))
  refused_left old new Due Swaps Would (Some why.NoMemory) steps Done Failed into some told idle fails left (inl none) made =
      none_left old new steps Done Failed made none (uncalled_by doing (states.Live old.local) ended idle (λ clone is. absurd (cc (fails clone is))))
  refused_left old new Due Swaps Would (Some why.NoMemory) steps Done Failed into some told idle fails (inl same) (inr would) made =
      left_same (states.Live old) (states.Live new) (ap (λ (clone : BankedClone B). clone.banks) same)
      (uncalled_by doing (states.Live old.local) ended idle (λ clone is. absurd (cc (fails clone is))))
  refused_left old new Due Swaps Would (Some why.NoMemory) steps Done Failed into some told idle fails (inr shuts) (inr would) made =
      changes_left old new steps Done Failed made (some would) (into shuts.due would) (λ whole. absurd (told whole))

  -- where one who asks took a leaf, or was stopped
  made_left : (old : BankedAsker B) (new : BankedState B) (give : GiveValue) (Done Failed : Type 0) → doing.takes old.asker give
      → Creates log meter (head_of (joined_clone old.asker give)) old.banks (banks_of_state new) Done Failed → (ended ≡ None → Done)
      → LeavesState log meter doing ended (states.Asking old) new
  made_left old new give Done Failed takes made all =
      leaves_made give takes (went_as meter _ Done Failed (ended ≡ None) old.banks (banks_of_state new) made.metered all) made.moments

  -- ---- the clone of a number

  pub left_becomes : (old new : List (BankedState B)) (number : ℕ) (before after : BankedState B) → Becomes old new number before after
      → LeavesState log meter doing ended before after → LeavesAt log meter doing ended number old new
  left_becomes old new number before after becomes left = record {
    was = before;
    now = after;
    before = becomes.was;
    behind = subst (λ (l : List (BankedState B)). HasState l number after) (sym becomes.now) (set_here old number before after becomes.was);
    left = left;
    others = λ other away. ap (λ (l : List (BankedState B)). slice_get l other) becomes.now ∙ elsewhere_at old number other after away;
  }

  -- where no clone changed
  pub left_still : (old new : List (BankedState B)) (number : ℕ) (state : BankedState B) → HasState old number state → new ≡ old → EndsUncalled doing (in_memory state) ended
      → LeavesAt log meter doing ended number old new
  left_still old new number state at same uncalled = record {
    was = state;
    now = state;
    before = at;
    behind = subst (λ (l : List (BankedState B)). HasState l number state) (sym same) at;
    left = left_same state state refl uncalled;
    others = λ other away. ap (λ (l : List (BankedState B)). slice_get l other) same;
  }

  state_at : (clones : List (BankedState B)) (number : ℕ) → number < length clones → (state : BankedState B) × HasState clones number state
  state_at [] number inside = absurd (omega (arith, inside))
  state_at (first ∷ clones) zero inside = (first, refl)
  state_at (first ∷ clones) (suc before) inside = state_at clones before (omega (arith, inside))

  pub left_there : (clones : List (BankedState B)) (number : ℕ) → number < length clones → ((state : RunningClone) → EndsUncalled doing state ended)
      → LeavesAt log meter doing ended number clones clones
  left_there clones number inside uncalled =
      let there : (state : BankedState B) × HasState clones number state = state_at clones number inside in
      left_still clones clones number there.0 there.1 refl (uncalled (in_memory there.0))

-- what a command may do another may, at the clone of a number
left_at_as : {B : Type 0} (log : B → Option Log) (meter : B → Meter) (one other : WorkOnBanks) (part ended : Option WorldFault) (number : ℕ) (old new : List (BankedState B))
    → ((clone : LocalClone) (steps : List KeptStep) → one.changes clone steps → other.changes clone steps)
    → ((asker : LocalAsker) (give : GiveValue) → one.takes asker give → other.takes asker give) → (one.opens → other.opens)
    → ((state : RunningClone) → one.idles state → other.idles state) → EndsBehind part ended
    → LeavesAt log meter one part number old new → LeavesAt log meter other ended number old new
left_at_as log meter one other part ended number old new changes takes opens idles behind at = record {
  was = at.was;
  now = at.now;
  before = at.before;
  behind = at.behind;
  left = left_as log meter one other part ended at.was at.now changes takes opens idles behind at.left;
  others = at.others;
}

-- a clone that isn't live has nothing to do on its banks for a command of live clones
pub missing_idle : {B : Type 0} (Does : LocalClone → Type 0) (state : BankedState B) → ((live : BankedClone B) → state ≢ states.Live live)
    → WhereUp Does (λ asker. Unit {0}) (in_memory state)
missing_idle Does (states.Absent banks) none = tt
missing_idle Does (states.Asking asking) none = tt
missing_idle Does (states.Down banks) none = tt
missing_idle Does (states.Live live) none = absurd (none live refl)

-- nor one that doesn't ask either for one that it receives
pub away_idle : {B : Type 0} (Does : LocalClone → Type 0) (Asks : LocalAsker → Type 0) (state : BankedState B) → ((live : BankedClone B) → state ≢ states.Live live)
    → ((asking : BankedAsker B) → state ≢ states.Asking asking) → WhereUp Does Asks (in_memory state)
away_idle Does Asks (states.Absent banks) none quiet = tt
away_idle Does Asks (states.Asking asking) none quiet = absurd (quiet asking refl)
away_idle Does Asks (states.Down banks) none quiet = tt
away_idle Does Asks (states.Live live) none quiet = absurd (none live refl)

-- nor one that isn't down for an opening
pub standing_idle : {B : Type 0} (state : BankedState B) → ((banks : B) → state ≢ states.Down banks) → IsNotDown (in_memory state)
standing_idle (states.Absent banks) up = tt
standing_idle (states.Asking asking) up = tt
standing_idle (states.Live live) up = tt
standing_idle (states.Down banks) up = absurd (up banks refl)

-- ---- by command

module _ {B : Type 0} (log : B → Option Log) (meter : B → Meter) where
  updated_left : (old new : BankedClone B) (plan : UpdatePlan) (ended : Option WorldFault) (answer : Done) (steps : List KeptStep) (All Failed : Type 0) → All
      → ((clone : ℕ) → ended ≢ Some (faults.Device clone)) → Changes log meter steps old new.banks All Failed
      → ((steps ≡ []) × UpdatesNone old.local plan) ⊎ AppendsDue old.local plan steps
      → LeavesState log meter (doing_update plan) ended (states.Live old) (states.Live new)
  updated_left old new plan ended answer steps All Failed all unfailed made (inl none) =
      none_left log meter (doing_update plan) ended old new steps All Failed made none.0
      (uncalled_by (doing_update plan) (states.Live old.local) ended (λ whole. none.1) unfailed)
  updated_left old new plan ended answer steps All Failed all unfailed made (inr due) =
      changes_left log meter (doing_update plan) ended old new steps All Failed made (due_some old.local plan steps due) due (λ whole. all)

  pub update_left : (old new : BankedClone B) (plan : UpdatePlan) (ended : Option WorldFault) (r : Result Done UpdateFault) → ticks_of old.local.ticks old.local.path ≢ tick_limit
      → (ended ≡ None → UpdateAnswers r)
      → ((clone : ℕ) → ended ≡ Some (faults.Device clone) → r ≡ Err update.Device)
      → IfOk r (λ answer. LocallyUpdatesBy old.local plan answer new.local) → IfErr r (RefusesUpdate old.local plan)
      → IfErr r (λ fault. LeavesClone log meter (IsDueUpdate old.local plan) ⊥ old new (update_stop fault))
      → ((steps : List KeptStep) × UpdateSteps old.local plan r steps × Changes log meter steps old new.banks (IsOk r) (IsErrOf r update.Device))
      → LeavesState log meter (doing_update plan) ended (states.Live old) (states.Live new)
  update_left old new plan ended (Ok answer) tick told fails ok refuses left durable =
      updated_left old new plan ended answer durable.0 _ _ refl (λ clone is. absurd (cc (fails clone is))) durable.2
      (update_made old.local new.local plan answer durable.0 tick ok durable.1)
  update_left old new plan ended (Err fault) tick told fails ok refuses left durable =
      refused_left log meter (doing_update plan) ended old new (IsDueUpdate old.local plan) ⊥ (AppendsPlanned old.local plan) (update_stop fault) durable.0 _ _
      (λ due would. planned_due old.local plan durable.0 would) (λ would. due_some old.local plan durable.0 (planned_due old.local plan durable.0 would))
      (λ whole. update_unstopped fault (told whole)) (λ whole. update_none old.local plan fault refuses (told whole))
      (λ clone is. let same : fault ≡ update.Device = cc (fails clone is) in ap (λ (f : UpdateFault). update_stop f) same) left durable.1 durable.2

  received_left : (old new : BankedClone B) (sent : Message) (ended : Option WorldFault) (answer : Got) (steps : List KeptStep) (All Failed : Type 0) → All
      → ((clone : ℕ) → ended ≢ Some (faults.Device clone)) → LocallyReceives old.local sent answer new.local
      → ReceivedSteps sent answer old.local new.local steps
      → Changes log meter steps old new.banks All Failed
      → (steps ≡ []) ⊎ (HasToMake old.local sent × WouldReceive old.local sent steps) → LeavesState log meter (doing_receive sent) ended (states.Live old) (states.Live new)
  received_left old new sent ended answer steps All Failed all unfailed ok are made (inl none) =
      none_left log meter (doing_receive sent) ended old new steps All Failed made none
      (uncalled_by (doing_receive sent) (states.Live old.local) ended (λ whole. passed_none old.local new.local sent answer steps ok are none) unfailed)
  received_left old new sent ended answer steps All Failed all unfailed ok are made (inr may) =
      changes_left log meter (doing_receive sent) ended old new steps All Failed made (would_some old.local sent steps may.1) may (λ whole. all)

  pub receive_left : (old new : BankedClone B) (sent : Message) (ended : Option WorldFault) (r : Result Got ReceiveFault) → (ended ≡ None → MessageAnswers r)
      → ((clone : ℕ) → ended ≡ Some (faults.Device clone) → r ≡ Err receive.Device)
      → IfOk r (λ answer. LocallyReceives old.local sent answer new.local) → IfErr r (Refuses old.local sent)
      → IfErr r (λ fault. LeavesClone log meter (IsDueMessage old sent) (IsSwapDue sent) old new (receive_stop fault))
      → ((steps : List KeptStep) × MessageSteps old.local sent new.local r steps × Changes log meter steps old new.banks (IsOk r) (IsErrOf r receive.Device))
      → LeavesState log meter (doing_receive sent) ended (states.Live old) (states.Live new)
  receive_left old new sent ended (Ok answer) told fails ok refuses left durable =
      received_left old new sent ended answer durable.0 _ _ refl (λ clone is. absurd (cc (fails clone is))) ok durable.1 durable.2
      (received_made old.local new.local sent answer durable.0 ok durable.1)
  receive_left old new sent ended (Err fault) told fails ok refuses left durable =
      refused_left log meter (doing_receive sent) ended old new (IsDueMessage old sent) (IsSwapDue sent) (WouldReceive old.local sent) (receive_stop fault) durable.0 _ _
      (λ due would. (has_to_make old sent due, would)) (λ would. would_some old.local sent durable.0 would) (λ whole. message_unstopped fault (told whole))
      (λ whole. message_none old.local sent fault refuses (told whole))
      (λ clone is. let same : fault ≡ receive.Device = cc (fails clone is) in ap (λ (f : ReceiveFault). receive_stop f) same) left durable.1 durable.2

  kept_left : (keeping : Keeping) (old new : BankedClone B) (count : ℕ) (steps : List KeptStep) (All Failed : Type 0) → All → KeepsBy keeping old new
      → Changes log meter steps old new.banks All Failed
      → (¬ IsKeepDue keeping old.local × (steps ≡ [])) ⊎ (IsKeepDue keeping old.local × SwapsTo new.local steps)
      → LeavesState log meter (doing_keep keeping) None (states.Live old) (states.Live new)
  kept_left keeping old new count steps All Failed all keeps made (inl none) =
      none_left log meter (doing_keep keeping) None old new steps All Failed made none.1 (keep_none keeping old new keeps none.0)
  kept_left keeping old new count steps All Failed all keeps made (inr due) =
      changes_left log meter (doing_keep keeping) None old new steps All Failed made (swap_some new.local steps due.1)
      (new.local, due.0, keeps_locally keeping old new keeps, due.1) (λ whole. all)

  -- a journal that wasn't kept is told by a fault, and by that of the device where it failed
  unkept : {X : Type 0} (number : ℕ) (fault : KeepFault) → fault_of_keeping {T = ℕ} number (Err fault) ≡ None → X
  unkept number keep.Device is = fault_undone (faults.Device number) is
  unkept number keep.NoMemory is = fault_undone faults.NoMemory is
  unkept number (keep.Closed reason) is = fault_undone faults.NoMemory is
  unkept number keep.GenerationsSpent is = fault_undone faults.NoMemory is

  keep_failed : (number : ℕ) (fault : KeepFault) (clone : ℕ) → fault_of_keeping {T = ℕ} number (Err fault) ≡ Some (faults.Device clone) → keep_stop fault ≡ Some why.Device
  keep_failed number keep.Device clone is = refl
  keep_failed number keep.NoMemory clone is = short_unfailed clone is
  keep_failed number (keep.Closed reason) clone is = short_unfailed clone is
  keep_failed number keep.GenerationsSpent clone is = short_unfailed clone is

  pub keep_left : (number : ℕ) (keeping : Keeping) (old new : BankedClone B) (r : Result ℕ KeepFault)
      → IfOk r (λ count. KeepsBy keeping old new × (count ≡ length new.local.entries))
      → IfErr r (λ fault. LeavesClone log meter (IsDueSwap (IsKeepDue keeping old.local) old.generation) ⊥ old new (keep_stop fault))
      → ((steps : List KeptStep) × KeepSteps (IsKeepDue keeping old.local) (KeepsLocally keeping old.local) new.local r steps
      × Changes log meter steps old new.banks (IsOk r) (IsErrOf r keep.Device))
      → LeavesState log meter (doing_keep keeping) (fault_of_keeping number r) (states.Live old) (states.Live new)
  keep_left number keeping old new (Ok count) ok left durable = kept_left keeping old new count durable.0 _ _ refl ok.0 durable.2 durable.1
  keep_left number keeping old new (Err fault) ok left durable =
      refused_left log meter (doing_keep keeping) (fault_of_keeping {T = ℕ} number (Err fault)) old new (IsDueSwap (IsKeepDue keeping old.local) old.generation) ⊥
      (λ made. (next : LocalClone) × KeepsLocally keeping old.local next × SwapsTo next made) (keep_stop fault) durable.0 _ _
      (λ due would. (would.0, due.due, would.1, would.2)) (λ would. swap_some would.0 durable.0 would.2) (λ whole. unkept number fault whole) (λ whole. unkept number fault whole)
      (λ clone is. keep_failed number fault clone is) left durable.1 durable.2

  -- of one who asks, by what became of the message
  adopts_left : (old new : List (BankedState B)) (number : ℕ) (asking : BankedAsker B) (sent : Message) (what : Adopted B) (told : BankedState B × Result Received WorldFault)
      → IsToldOf number what told → (give : Give) → IsGiveFor asking.asker sent give
      → Creates log meter (head_of (joined_clone asking.asker (give_value give))) asking.banks (banks_of_adopted what) (AdoptsWhole what) (FailsToAdopt what)
      → (result_err told.1 ≡ None → AdoptsWhole what) → LeavesState log meter (doing_receive sent) (result_err told.1) (states.Asking asking) told.0
  adopts_left old new number asking sent what told is give gives made all =
      made_left log meter (doing_receive sent) (result_err told.1) asking told.0 (give_value give) (AdoptsWhole what) (FailsToAdopt what) (give, gives.is, refl, gives.own)
      (subst (λ (b : B). Creates log meter (head_of (joined_clone asking.asker (give_value give))) asking.banks b (AdoptsWhole what) (FailsToAdopt what))
      (sym (adopted_banks meter old new number asking sent what told is)) made)
      all

  pub asking_left : (old new : List (BankedState B)) (number : ℕ) (asking : BankedAsker B) (sent : Message) (what : Adopted B) (told : BankedState B × Result Received WorldFault)
      → LocallyAdopts asking sent what → IsToldOf number what told
      → ((give : Give) → IsGiveFor asking.asker sent give
      → Creates log meter (head_of (joined_clone asking.asker (give_value give))) asking.banks (banks_of_adopted what) (AdoptsWhole what) (FailsToAdopt what))
      → LeavesState log meter (doing_receive sent) (result_err told.1) (states.Asking asking) told.0
  asking_left old new number asking sent (adopted.Joined clone) told adopts is made =
      adopts_left old new number asking sent (adopted.Joined clone) told is adopts.0 adopts.1 (made adopts.0 adopts.1) (λ whole. tt)
  asking_left old new number asking sent (adopted.Ignored same) told adopts is made =
      left_same log meter (doing_receive sent) (result_err told.1) (states.Asking asking) told.0
      (ap (λ (s : BankedState B). banks_of_state s) is.0 ∙ ap (λ (a : BankedAsker B). a.banks) adopts.1)
      (subst (λ (r : Result Received WorldFault). EndsUncalled (doing_receive sent) (states.Asking asking.asker) (result_err r)) (sym is.1) adopts.0)
  asking_left old new number asking sent (adopted.Refused fault banks) told adopts is made =
      adopts_left old new number asking sent (adopted.Refused fault banks) told is adopts.0 adopts.1 (made adopts.0 adopts.1)
      (λ whole. fault_undone (fault_of_made number fault) (sym (ap (λ (r : Result Received WorldFault). result_err r) is.1) ∙ whole))

  -- a message of the number
  pub numbered_left : (messages : List Message) (place : ℕ) (sent : Message) (part ended : Option WorldFault) (number : ℕ) (old new : List (BankedState B)) → numbered messages place ≡ Some sent
      → EndsBehind part ended → LeavesAt log meter (doing_receive sent) part number old new → LeavesAt log meter (doing_deliver messages place) ended number old new
  numbered_left messages place sent part ended number old new is behind left =
      left_at_as log meter (doing_receive sent) (doing_deliver messages place) part ended number old new
      (λ clone steps made. (sent, is, made)) (λ asker give taken. (sent, is, taken)) (λ may. may) (λ state idle. inr (sent, is, idle)) behind left

  -- of a clone that is down, by what the mount found
  synced_both : (domain : List ℕ) (properties : List (List ℕ)) (number : ℕ) (what : Mounted B) (told : BankedState B × Result Reply WorldFault)
      → IsOpenedAs domain properties number what told → result_err told.1 ≡ None → SyncsBoth what
  synced_both domain properties number (mounted.Live clone) told is whole = tt
  synced_both domain properties number (mounted.Empty blank) told is whole = tt
  synced_both domain properties number (mounted.Refused mount.Device back) told is whole =
      fault_undone (faults.Device number) (sym (ap (λ (r : Result Reply WorldFault). result_err r) is.1) ∙ whole)
  synced_both domain properties number (mounted.Refused mount.NoMemory back) told is whole = tt
  synced_both domain properties number (mounted.Refused (mount.Damaged side place) back) told is whole = tt

  pub opened_left : (domain : List ℕ) (properties : List (List ℕ)) (old new : List (BankedState B)) (number : ℕ) (banks : B) (what : Mounted B)
      (told : BankedState B × Result Reply WorldFault) → IsOpenedAs domain properties number what told
      → Metered mount_calls (meter banks) (meter (banks_of_mounted what)) (SyncsBoth what) (FailsToOpen what)
      → ((l : Log) → log banks ≡ Some l → LeavesNothingNew l (log (banks_of_mounted what)))
      → LeavesState log meter doing_open (result_err told.1) (states.Down banks) told.0
  opened_left domain properties old new number banks what told is metered left =
      let same : banks_of_mounted what ≡ banks_of_state told.0 = sym (opened_banks log meter domain properties old new number banks what told is) in
      leaves_opened tt
      (subst (λ (b : B). MakesDeviceCalls meter mount_calls (result_err told.1 ≡ None) banks b) same
      (went_as meter mount_calls (SyncsBoth what) (FailsToOpen what) (result_err told.1 ≡ None) banks (banks_of_mounted what) metered
      (synced_both domain properties number what told is)))
      (subst (λ (b : B). (l : Log) → log banks ≡ Some l → LeavesNothingNew l (log b)) same left)

  -- of a clone that stops, and of one that begins to ask
  pub stop_left : (old new : List (BankedState B)) (number : ℕ) → StopsOnBanks log old new number → LeavesAt log meter doing_nothing None number old new
  stop_left old new number s =
      left_becomes log meter doing_nothing None old new number (states.Live s.clone) (states.Down s.clone.banks) s.becomes
      (left_same log meter doing_nothing None (states.Live s.clone) (states.Down s.clone.banks) refl tt)

  pub join_left : {T : Type 0} (r : Result T WorldFault) (domain : List ℕ) (properties : List (List ℕ)) (old new : List (BankedState B)) (number : ℕ) (question : Message)
      → IfErr r (λ fault. fault ≡ faults.NoMemory) → AsksFirst domain properties number old new question → LeavesAt log meter doing_nothing (result_err r) number old new
  join_left r domain properties old new number question memory asks =
      left_becomes log meter doing_nothing (result_err r) old new number (states.Absent asks.blank) (states.Asking asks.asking) asks.becomes
      (left_same log meter doing_nothing (result_err r) (states.Absent asks.blank) (states.Asking asks.asking) asks.banks (nothing_uncalled r memory (states.Absent tt)))

-- ---- what is sent

-- where nothing was sent
pub silent_same : {T X : Type 0} (r : Result T WorldFault) (old new : List X) → new ≡ old → IsSilent r old new
silent_same (Ok value) old new same = tt
silent_same (Err (faults.Device clone)) old new same = same
silent_same (Err faults.NoMemory) old new same = tt

-- where the device didn't fail
pub silent_memory : {T X : Type 0} (r : Result T WorldFault) (old new : List X) → IfErr r (λ fault. fault ≡ faults.NoMemory) → IsSilent r old new
silent_memory (Ok value) old new memory = tt
silent_memory (Err (faults.Device clone)) old new memory = absurd (cc memory)
silent_memory (Err faults.NoMemory) old new memory = tt
