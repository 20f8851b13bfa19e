-- Wants: what a clone answers to one who says which dots it knows. `MldClone::receive` cites it for a want.
use Rattle.std.specs.Prelude.{◌≡◌, ◌≢◌, ℕ, List, [], ◌∷◌}
use Rattle.mld_ops.specs.declared.messages.Message.{Message}
use Rattle.mld_ops.specs.declared.messages.Message.TheVariants as message
use Rattle.mld_ops.specs.declared.messages.Snapshot.{Snapshot}
use Rattle.mld_ops.specs.Entry.{EntryValue}
use Rattle.mld_ops.specs.Messages.{snapshot_value}
use Rattle.mld_model.specs.Local.{LocalClone, snapshot_of, LocallyAnswersWant, LocallyAnswersBehind}
use Rattle.clone_parts.specs.Carrying.{Carry}
use Rattle.clone_parts.specs.declared.answers.Got.{Got}
use Rattle.clone_parts.specs.declared.answers.Got.TheVariants as got
use Rattle.clone_parts.specs.declared.faults.ReceiveFault.{ReceiveFault}
use Rattle.clone_parts.specs.declared.faults.ReceiveFault.TheVariants as fault

-- what is sent to one who knows these ticks and lacks something: each entry of the journal that isn't known, in a message of its own; or
-- one snapshot, where a dot of the base is lacked
pub data SendsLacked (old : LocalClone) (ticks : List (List ℕ × ℕ)) (messages : List Message) : Type 0 where
  sends_entries : (entries : List EntryValue) → LocallyAnswersWant old ticks entries → entries ≢ [] → Carry messages entries → SendsLacked old ticks messages
  sends_snapshot : (snapshot : Snapshot) → LocallyAnswersBehind old ticks (snapshot_value snapshot) → messages ≡ message.Snapshot snapshot ∷ []
      → SendsLacked old ticks messages

-- what became of a want of one who knows these ticks: nothing of the journal is lacked, or what is lacked is sent
abbrev pub AnswersWant : LocalClone → List (List ℕ × ℕ) → Got → LocalClone → Type 0
AnswersWant old ticks got.Nothing new = LocallyAnswersWant old ticks [] × (new ≡ old)
AnswersWant old ticks (got.Answer messages) new = SendsLacked old ticks messages × (new ≡ old)
AnswersWant old ticks other new = ⊥

-- one message is sent, with a snapshot of all that the clone knows and has
abbrev pub SendsWhole : LocalClone → Got → Type 0
SendsWhole old (got.Answer messages) = (snapshot : Snapshot) × (snapshot_value snapshot ≡ snapshot_of old) × (messages ≡ message.Snapshot snapshot ∷ [])
SendsWhole old other = ⊥

-- why a want was refused: the clone is closed, or memory ran out
abbrev pub RefusesWant : ReceiveFault → Type 0
RefusesWant (fault.Closed why) = Unit {0}
RefusesWant fault.NoMemory = Unit {0}
RefusesWant other = ⊥
