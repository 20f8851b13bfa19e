-- What a live clone does that is told to update, by its reply. The private calls behind `update` cite it.
use Rattle.std.specs.Prelude.{◌≡◌, ◌+◌, List, [], ◌∷◌, ◌++◌, length}
use Rattle.jrql_ast.specs.declared.plans.UpdatePlan.{UpdatePlan}
use Rattle.mld_ops.specs.Entry.{EntryValue}
use Rattle.mld_ops.specs.Messages.{MessageValue, CarriesEntry}
use Rattle.mld_ops.specs.Ready.{last_dot}
use Rattle.mld_model.specs.Local.{LocalClone}
use Rattle.crash_laws.specs.clone_parts.declared.answers.Done.TheVariants as done
use Rattle.crash_laws.specs.clone_parts.declared.faults.UpdateFault.{UpdateFault}
use Rattle.crash_laws.specs.clone_parts.declared.faults.UpdateFault.TheVariants as faults
use Rattle.crash_laws.specs.clone_core.CloneUpdates.{LocallyUpdatesBy, RefusesUpdate}
use Rattle.schedule_replies.specs.declared.replies.Reply.{Reply}
use Rattle.schedule_replies.specs.declared.replies.Reply.TheVariants as replies

-- the entry is the next message, and the reply names its dot and its number
abbrev pub SendsEntry : List MessageValue → EntryValue → List MessageValue → Reply → Type 0
SendsEntry messages entry sent (replies.Did dot number) =
    (sent ≡ messages ++ CarriesEntry entry ∷ []) × (dot ≡ last_dot entry.range) × (number ≡ length messages + 1)
SendsEntry messages entry sent reply = ⊥

-- the clone made the operation of the plan's effect, and its entry was sent
pub record MakesAndSends (old : LocalClone) (messages : List MessageValue) (plan : UpdatePlan) (new : LocalClone) (sent : List MessageValue) (reply : Reply) : Type 0 where
  pub entry : EntryValue
  pub makes : LocallyUpdatesBy old plan (done.Made entry) new
  pub sends : SendsEntry messages entry sent reply

-- the plan's effect changes nothing, and nothing was done or sent
pub record MakesNothing (old : LocalClone) (messages : List MessageValue) (plan : UpdatePlan) (new : LocalClone) (sent : List MessageValue) : Type 0 where
  pub makes : LocallyUpdatesBy old plan done.Nothing new
  pub sends : sent ≡ messages

-- the update was refused for this reason, and nothing was done or sent
pub record RefusesAndStays (fault : UpdateFault) (old : LocalClone) (messages : List MessageValue) (plan : UpdatePlan) (new : LocalClone) (sent : List MessageValue) : Type 0 where
  pub refuses : RefusesUpdate old plan fault
  pub same : new ≡ old
  pub sends : sent ≡ messages

-- there was nothing to do, or too much, or a second value of a single-valued property would come; or the clone made an operation
abbrev pub UpdatesAsReplied : LocalClone → List MessageValue → UpdatePlan → LocalClone → List MessageValue → Reply → Type 0
UpdatesAsReplied old messages plan new sent replies.NoOperation = MakesNothing old messages plan new sent
UpdatesAsReplied old messages plan new sent replies.TooMany = RefusesAndStays faults.TooMany old messages plan new sent
UpdatesAsReplied old messages plan new sent (replies.Single subject property) = RefusesAndStays (faults.Single subject property) old messages plan new sent
UpdatesAsReplied old messages plan new sent reply = MakesAndSends old messages plan new sent reply
