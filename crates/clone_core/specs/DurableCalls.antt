-- What a clone's calls change of what its banks keep: the changes of each call, how many calls of the device they are, and what a crash
-- leaves in the middle of them. `durable` of each call of `MldClone` and of `Asker::receive` cites it.
use Rattle.std.specs.Prelude.{◌≡◌, ◌⊎◌, List, [], ◌∷◌, ◌++◌, Option, Some, None, Result, Ok, Err}
use Rattle.tree_clock.specs.declared.dots.Range.{Range}
use Rattle.mld_io.specs.Arm.{Meter, Metered}
use Rattle.mld_io.specs.Disk.{Log}
use Rattle.mld_io.specs.declared.banks.Side.{Side}
use Rattle.mld_ops.specs.declared.messages.Message.{Message}
use Rattle.mld_ops.specs.declared.messages.Message.TheVariants as message
use Rattle.mld_ops.specs.Effects.{EffectValue}
use Rattle.mld_ops.specs.Entry.{EntryValue}
use Rattle.mld_ops.specs.Messages.{snapshot_value}
use Rattle.journal_sides.specs.Heads.{HeadValue}
use Rattle.journal_sides.specs.Pairs.{Keeps, KeepsNone}
use Rattle.journal_store.specs.Closing.{StaysTold}
use Rattle.journal_store.specs.declared.faults.Why.{Why}
use Rattle.journal_store.specs.declared.faults.Why.TheVariants as why
use Rattle.jrql_ast.specs.declared.plans.UpdatePlan.{UpdatePlan}
use Rattle.mld_model.specs.Local.{LocalClone, LocallyAccepts, LocallyMerges, next_dot}
use Rattle.clone_parts.specs.Making.{IsEntryOf}
use Rattle.clone_parts.specs.KeptSteps.{KeptStep, Created, Appended, Forked, Swapped, appends, calls_of_all, LeavesSome}
use Rattle.clone_core.specs.Banked.{BankedClone, head_of, kept_as}
use Rattle.clone_core.specs.CloneClosing.{update_stop, receive_stop, keep_stop}
use Rattle.clone_core.specs.CloneUpdates.{IsDueUpdate}
use Rattle.clone_parts.specs.declared.answers.Done.{Done}
use Rattle.clone_parts.specs.declared.answers.Done.TheVariants as done
use Rattle.clone_parts.specs.declared.answers.Got.{Got}
use Rattle.clone_parts.specs.declared.answers.Got.TheVariants as got
use Rattle.clone_parts.specs.declared.faults.KeepFault.{KeepFault}
use Rattle.clone_parts.specs.declared.faults.ReceiveFault.{ReceiveFault}
use Rattle.clone_parts.specs.declared.faults.UpdateFault.{UpdateFault}

-- where there are no changes the banks are as they were; else at each moment a crash leaves the old clone after a front of the changes
abbrev pub LeavesFronts : {B : Type 0} → (B → Option Log) → (B → Meter) → List KeptStep → BankedClone B → B → Type 0
LeavesFronts log meter [] old now = now ≡ old.banks
LeavesFronts log meter (step ∷ steps) old now = (l : Log) → log old.banks ≡ Some l → (side : Side)
    × LeavesSome l (log now) (Keeps (kept_as side old.generation old.local)) (step ∷ steps) (meter old.banks).arm (meter now).arm

-- A call makes these changes, or was refused in the middle of them. `Whole` says that all of them were made, and `Failed` that the device
-- was told to have failed
pub record Changes {B : Type 0} (log : B → Option Log) (meter : B → Meter) (steps : List KeptStep) (old : BankedClone B) (now : B) (Whole Failed : Type 0) : Type 0 where
  pub metered : Metered (calls_of_all steps) (meter old.banks) (meter now) Whole Failed
  pub told : StaysTold (log old.banks) (log now)
  pub moments : LeavesFronts log meter steps old now

-- the changes of a call that was refused: those of a step that the clone would have made, where the device failed; those or none, where
-- there was no memory; and none else
abbrev pub RefusedSteps : (List KeptStep → Type 0) → Option Why → List KeptStep → Type 0
RefusedSteps Would None steps = steps ≡ []
RefusedSteps Would (Some why.Device) steps = Would steps
RefusedSteps Would (Some why.NoMemory) steps = (steps ≡ []) ⊎ Would steps

-- ---- an update

-- the append of the entry of the operation of an effect, which the clone would make next
abbrev pub AppendsOwn : LocalClone → EffectValue → List KeptStep → Type 0
AppendsOwn old effect steps = (entry : EntryValue) × IsEntryOf old.ticks (next_dot old) effect entry × (steps ≡ Appended entry ∷ [])

-- that of the effect of a plan
pub record AppendsPlanned (old : LocalClone) (plan : UpdatePlan) (steps : List KeptStep) : Type 0 where
  pub due : IsDueUpdate old plan
  pub appends : AppendsOwn old due.effect steps

-- those of a local change: the append of the operation that was made, or of the one that would have been (`Would`)
abbrev pub OwnSteps : (List KeptStep → Type 0) → Result Done UpdateFault → List KeptStep → Type 0
OwnSteps Would (Ok done.Nothing) steps = steps ≡ []
OwnSteps Would (Ok (done.Made entry)) steps = steps ≡ Appended entry ∷ []
OwnSteps Would (Err refused) steps = RefusedSteps Would (update_stop refused) steps

-- those of an effect, and those of an update
abbrev pub EffectSteps : LocalClone → EffectValue → Result Done UpdateFault → List KeptStep → Type 0
EffectSteps old effect result steps = OwnSteps (AppendsOwn old effect) result steps

abbrev pub UpdateSteps : LocalClone → UpdatePlan → Result Done UpdateFault → List KeptStep → Type 0
UpdateSteps old plan result steps = OwnSteps (AppendsPlanned old plan) result steps

-- ---- a message

-- an append for each entry that comes behind the journal
abbrev pub AppendsTaken : LocalClone → LocalClone → List KeptStep → Type 0
AppendsTaken old new steps = (taken : List EntryValue) × (new.entries ≡ old.entries ++ taken) × (steps ≡ appends taken)

-- a swap for an empty journal over the new base, and an append for each entry that is released
abbrev pub merged_steps : LocalClone → List KeptStep
merged_steps new = Swapped (head_of new) [] ∷ appends new.entries

-- what was received: entries were taken, a leaf was forked, a snapshot was merged, or the banks weren't called
abbrev pub ReceivedSteps : Message → Got → LocalClone → LocalClone → List KeptStep → Type 0
ReceivedSteps (message.Range entry) (got.Took ranges) old new steps = AppendsTaken old new steps
ReceivedSteps (message.JoinAsk id) (got.Answer messages) old new steps = steps ≡ Forked ∷ []
ReceivedSteps (message.Snapshot snapshot) (got.Merged ranges) old new steps = steps ≡ merged_steps new
ReceivedSteps sent answer old new steps = steps ≡ []

-- what the clone would do to receive the message
abbrev pub WouldReceive : LocalClone → Message → List KeptStep → Type 0
WouldReceive old (message.Range entry) steps = (new : LocalClone) × (ranges : List Range) × LocallyAccepts old entry new ranges × AppendsTaken old new steps
WouldReceive old (message.JoinAsk id) steps = steps ≡ Forked ∷ []
WouldReceive old (message.Snapshot snapshot) steps =
    (new : LocalClone) × (ranges : List Range) × LocallyMerges old (snapshot_value snapshot) new ranges × (steps ≡ merged_steps new)
WouldReceive old (message.Want clock) steps = ⊥
WouldReceive old (message.JoinGive give) steps = ⊥

-- those of a message
abbrev pub MessageSteps : LocalClone → Message → LocalClone → Result Got ReceiveFault → List KeptStep → Type 0
MessageSteps old sent new (Ok answer) steps = ReceivedSteps sent answer old new steps
MessageSteps old sent new (Err refused) steps = RefusedSteps (WouldReceive old sent) (receive_stop refused) steps

-- ---- keeping a journal

-- a swap for what the new clone has
abbrev pub SwapsTo : LocalClone → List KeptStep → Type 0
SwapsTo new steps = steps ≡ Swapped (head_of new) new.entries ∷ []

-- those of compacting and truncating, where `Due` says that there is something to do, and `Step` what it makes of the clone
abbrev pub KeepSteps : {T : Type 0} → (Due : Type 0) → (LocalClone → Type 0) → LocalClone → Result T KeepFault → List KeptStep → Type 0
KeepSteps Due Step new (Ok count) steps = (¬ Due × (steps ≡ [])) ⊎ (Due × SwapsTo new steps)
KeepSteps Due Step new (Err refused) steps = RefusedSteps (λ made. (next : LocalClone) × Step next × SwapsTo next made) (keep_stop refused) steps

-- ---- a clone that is made

-- a clone with this head is made on blank banks, by a create: at each moment a crash leaves them so, or the clone
pub record Creates {B : Type 0} (log : B → Option Log) (meter : B → Meter) (head : HeadValue) (old now : B) (Whole Failed : Type 0) : Type 0 where
  pub metered : Metered (calls_of_all (Created head ∷ [])) (meter old) (meter now) Whole Failed
  pub told : StaysTold (log old) (log now)
  pub moments : (l : Log) → log old ≡ Some l → LeavesSome l (log now) KeepsNone (Created head ∷ []) (meter old).arm (meter now).arm
