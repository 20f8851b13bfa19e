-- What a clone may do on its banks for each command. The commands cite it, beside `LeftBanks`.
use Rattle.std.specs.Prelude.{◌≡◌, ◌⊎◌, ℕ, ◌<◌, ◌≤◌, List, [], ◌∷◌, None, Some, length}
use Rattle.tree_clock.specs.Clock.{RaisesTo}
use Rattle.jrql_ast.specs.declared.plans.UpdatePlan.{UpdatePlan}
use Rattle.jrql_eval.specs.PlanEffects.{HasTooMany}
use Rattle.mld_ops.specs.Effects.{IsInOrder, effect_entry}
use Rattle.mld_ops.specs.Entry.{EntryValue}
use Rattle.mld_ops.specs.Messages.{give_value}
use Rattle.mld_ops.specs.declared.messages.Give.{Give}
use Rattle.mld_ops.specs.declared.messages.Message.{Message}
use Rattle.mld_ops.specs.declared.messages.Message.TheVariants as message
use Rattle.op_fusion.specs.Compacting.{AreFusedRuns, HasNeighbours}
use Rattle.mld_model.specs.Local.{LocalAsker, LocalClone, LocallyCompacts, LocallyTruncates, next_dot}
use Rattle.mld_model.specs.StandsFor.{RunningClone}
use Rattle.mld_model.specs.World.{numbered}
use Rattle.mld_model.specs.declared.CloneState.TheVariants as states
use Rattle.crash_laws.specs.clone_parts.KeptSteps.{KeptStep, Appended}
use Rattle.crash_laws.specs.clone_parts.declared.answers.Done.TheVariants as done
use Rattle.crash_laws.specs.clone_parts.declared.answers.Got.{Got}
use Rattle.crash_laws.specs.clone_parts.declared.faults.ReceiveFault.TheVariants as fault
use Rattle.crash_laws.specs.clone_core.CloneCalls.{LocallyReceives, Refuses}
use Rattle.crash_laws.specs.clone_core.CloneUpdates.{IsDueUpdate, LocallyUpdatesBy, BreaksSingle}
use Rattle.crash_laws.specs.clone_core.Due.{HasToMake}
use Rattle.crash_laws.specs.clone_core.DurableCalls.{ReceivedSteps, WouldReceive, SwapsTo}
use Rattle.crash_laws.specs.clone_core.Joining.{GivesNone}
use Rattle.world_commands.specs.LeftBanks.{WorkOnBanks}
use Rattle.world_commands.specs.declared.keeping.Keeping.{Keeping}
use Rattle.world_commands.specs.declared.keeping.Keeping.TheVariants as keepings

-- a live clone is so; and one that asks is so; of the others nothing is said
abbrev pub WhereUp : (LocalClone → Type 0) → (LocalAsker → Type 0) → RunningClone → Type 0
WhereUp Live Asks (states.Absent blank) = Unit {0}
WhereUp Live Asks (states.Asking asker) = Asks asker
WhereUp Live Asks (states.Down device) = Unit {0}
WhereUp Live Asks (states.Live clone) = Live clone

-- nothing
abbrev pub doing_nothing : WorkOnBanks
doing_nothing = record { changes = λ old steps. ⊥; takes = λ asker give. ⊥; opens = ⊥; idles = λ state. Unit {0} }

-- ---- an opening

-- a clone that isn't down has nothing to do
abbrev pub IsNotDown : RunningClone → Type 0
IsNotDown (states.Absent blank) = Unit {0}
IsNotDown (states.Asking asker) = Unit {0}
IsNotDown (states.Down device) = ⊥
IsNotDown (states.Live clone) = Unit {0}

abbrev pub doing_open : WorkOnBanks
doing_open = record { changes = λ old steps. ⊥; takes = λ asker give. ⊥; opens = Unit {0}; idles = IsNotDown }

-- ---- an update

-- the append of the operation of the effect of a plan, which a clone would make next
pub record AppendsDue (old : LocalClone) (plan : UpdatePlan) (steps : List KeptStep) : Type 0 where
  pub due : IsDueUpdate old plan
  pub ordered : IsInOrder due.effect
  pub entry : EntryValue
  pub time : RaisesTo old.ticks entry.time (next_dot old)
  pub carries : entry ≡ effect_entry (next_dot old) entry.time due.effect
  pub appends : steps ≡ Appended entry ∷ []

-- a plan makes no operation: its effect changes nothing, or it is refused
pub data UpdatesNone (old : LocalClone) (plan : UpdatePlan) : Type 0 where
  changes_nothing : (new : LocalClone) → LocallyUpdatesBy old plan done.Nothing new → UpdatesNone old plan
  has_too_many : HasTooMany old.pairs plan → UpdatesNone old plan
  breaks_single : (place : List ℕ × List ℕ) → BreaksSingle old plan place → UpdatesNone old plan

-- the operation of a plan is appended
abbrev pub doing_update : UpdatePlan → WorkOnBanks
doing_update plan = record {
  changes = λ old steps. AppendsDue old plan steps;
  takes = λ asker give. ⊥;
  opens = ⊥;
  idles = WhereUp (λ old. UpdatesNone old plan) (λ asker. Unit {0});
}

-- ---- a message

-- a message changes nothing of what the banks keep: it was received so, or it was refused
pub data ReceivesNone (old : LocalClone) (sent : Message) : Type 0 where
  received_none : (answer : Got) (new : LocalClone) → LocallyReceives old sent answer new → ReceivedSteps sent answer old new [] → ReceivesNone old sent
  held_full : Refuses old sent fault.HeldFull → ReceivesNone old sent
  too_deep : Refuses old sent fault.Deep → ReceivesNone old sent

-- a message is received
abbrev pub doing_receive : Message → WorkOnBanks
doing_receive sent = record {
  changes = λ old steps. HasToMake old sent × WouldReceive old sent steps;
  takes = λ asker leaf. (give : Give) × (sent ≡ message.JoinGive give) × (leaf ≡ give_value give) × (leaf.id ≡ asker.id);
  opens = ⊥;
  idles = WhereUp (λ old. ReceivesNone old sent) (λ asker. GivesNone asker sent);
}

-- a message of this number is received, where there is one
abbrev pub doing_deliver : List Message → ℕ → WorkOnBanks
doing_deliver messages number = record {
  changes = λ old steps. (sent : Message) × (numbered messages number ≡ Some sent) × (doing_receive sent).changes old steps;
  takes = λ asker give. (sent : Message) × (numbered messages number ≡ Some sent) × (doing_receive sent).takes asker give;
  opens = ⊥;
  idles = λ state. (numbered messages number ≡ None) ⊎ ((sent : Message) × (numbered messages number ≡ Some sent) × (doing_receive sent).idles state);
}

-- ---- a journal

-- so much of a journal is kept
abbrev pub KeepsLocally : Keeping → LocalClone → LocalClone → Type 0
KeepsLocally keepings.Compacted old new = LocallyCompacts old new
KeepsLocally (keepings.Last count) old new = LocallyTruncates old count new

-- there is something to do to keep so much: two entries are neighbours, or there are more than so many
abbrev pub IsKeepDue : Keeping → LocalClone → Type 0
IsKeepDue keepings.Compacted old = HasNeighbours old.entries
IsKeepDue (keepings.Last count) old = count < length old.entries

-- there is nothing to do
abbrev pub IsKeptAlready : Keeping → LocalClone → Type 0
IsKeptAlready keepings.Compacted old = AreFusedRuns old.entries old.entries
IsKeptAlready (keepings.Last count) old = length old.entries ≤ count

abbrev pub doing_keep : Keeping → WorkOnBanks
doing_keep keeping = record {
  changes = λ old steps. (next : LocalClone) × IsKeepDue keeping old × KeepsLocally keeping old next × SwapsTo next steps;
  takes = λ asker give. ⊥;
  opens = ⊥;
  idles = WhereUp (λ old. IsKeptAlready keeping old) (λ asker. Unit {0});
}
