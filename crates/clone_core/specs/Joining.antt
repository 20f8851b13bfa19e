-- Joining: what a clone gives to who asks, and what becomes of who asked. `Asker::receive` cites it, and `MldClone::receive` for an ask.
use Rattle.std.specs.Prelude.{◌≡◌, ◌≢◌, ℕ, List, [], ◌∷◌, length, Option, None}
use Rattle.mld_io.specs.Arm.{Meter}
use Rattle.mld_io.specs.Disk.{Log}
use Rattle.tree_clock.specs.Limits.{path_limit}
use Rattle.tree_clock.specs.Lists.{Has}
use Rattle.mld_ops.specs.declared.messages.Give.{Give}
use Rattle.mld_ops.specs.declared.messages.Message.{Message}
use Rattle.mld_ops.specs.declared.messages.Message.TheVariants as message
use Rattle.mld_ops.specs.Messages.{give_value, message_value, IsGoodMessage}
use Rattle.journal_store.specs.declared.faults.MakeFault.TheVariants as make
use Rattle.mld_model.specs.Local.{LocalClone, LocalAsker, LocallyForks, joined_clone}
use Rattle.clone_parts.specs.BankCalls.{create_calls}
use Rattle.clone_core.specs.Banked.{BankedAsker}
use Rattle.clone_core.specs.CloneClosing.{GivesBanksBack}
use Rattle.clone_core.specs.declared.askers.Adopted.{Adopted}
use Rattle.clone_core.specs.declared.askers.Adopted.TheVariants as adopted
use Rattle.clone_parts.specs.declared.answers.Got.{Got}
use Rattle.clone_parts.specs.declared.answers.Got.TheVariants as got
use Rattle.clone_parts.specs.declared.faults.ReceiveFault.{ReceiveFault}
use Rattle.clone_parts.specs.declared.faults.ReceiveFault.TheVariants as fault

-- ---- giving

-- all messages of the list are good
abbrev pub AreGood : List Message → Type 0
AreGood messages = (sent : Message) → Has messages sent → IsGoodMessage (message_value sent)

-- the messages of an answer are good
abbrev pub AnswersGood : Got → Type 0
AnswersGood (got.Answer messages) = AreGood messages
AnswersGood other = Unit {0}

-- the clone forked its leaf for the one of the id, and the one message gives the right half
abbrev pub LocallyGives : LocalClone → List ℕ → List Message → LocalClone → Type 0
LocallyGives old id messages new = (give : Give) × (messages ≡ message.JoinGive give ∷ []) × LocallyForks old id new (give_value give)

-- why who asked got no leaf: it is too deep to be forked; or the clone is closed, the device failed, or memory ran out
abbrev pub RefusesAsk : LocalClone → List ℕ → ReceiveFault → Type 0
RefusesAsk old id (fault.ForeignTick said own) = ⊥
RefusesAsk old id fault.HeldFull = ⊥
RefusesAsk old id fault.Deep = (id ≢ old.id) × (length old.path ≡ path_limit)
RefusesAsk old id fault.GenerationsSpent = ⊥
RefusesAsk old id (fault.Closed why) = Unit {0}
RefusesAsk old id fault.Device = Unit {0}
RefusesAsk old id fault.NoMemory = Unit {0}

-- ---- asking

-- the message gives the leaf, with its snapshot, to the one who asks
pub record IsGiveFor (asker : LocalAsker) (sent : Message) (give : Give) : Type 0 where
  pub is : sent ≡ message.JoinGive give
  pub own : give.id ≡ asker.id

-- the message gives the one who asks no leaf
abbrev pub GivesNone : LocalAsker → Message → Type 0
GivesNone asker sent = (give : Give) → ¬ IsGiveFor asker sent give

-- what became of a message that came to one who asks: it gave a leaf, and the clone lives at it, open and of generation 1; or it gave
-- none, and the one who asks is as it was; or it gave one, but no clone was made
abbrev pub LocallyAdopts : {B : Type 0} → BankedAsker B → Message → Adopted B → Type 0
LocallyAdopts old sent (adopted.Joined new) =
    (give : Give) × IsGiveFor old.asker sent give × (new.local ≡ joined_clone old.asker (give_value give)) × (new.closed ≡ None) × (new.generation ≡ 1)
LocallyAdopts old sent (adopted.Ignored same) = GivesNone old.asker sent × (same ≡ old)
LocallyAdopts old sent (adopted.Refused fault banks) = (give : Give) × IsGiveFor old.asker sent give

-- what became of one who asks that was given this leaf: it lives there, open and of generation 1, or no clone was made
abbrev pub TakesGive : {B : Type 0} → BankedAsker B → Give → Adopted B → Type 0
TakesGive old give (adopted.Joined new) = (new.local ≡ joined_clone old.asker (give_value give)) × (new.closed ≡ None) × (new.generation ≡ 1)
TakesGive old give (adopted.Ignored same) = ⊥
TakesGive old give (adopted.Refused fault banks) = Unit {0}

-- the banks, whatever became of the one who asks
abbrev pub banks_of_adopted : {B : Type 0} → Adopted B → B
banks_of_adopted (adopted.Joined new) = new.banks
banks_of_adopted (adopted.Ignored same) = same.banks
banks_of_adopted (adopted.Refused fault banks) = banks

-- how many calls of the device were made at most: those of a create where the message gives a leaf
abbrev pub adopting_calls : {B : Type 0} → Adopted B → ℕ
adopting_calls (adopted.Joined new) = create_calls
adopting_calls (adopted.Ignored same) = 0
adopting_calls (adopted.Refused fault banks) = create_calls

-- the one who asks was refused, since its device failed
abbrev pub FailsToAdopt : {B : Type 0} → Adopted B → Type 0
FailsToAdopt (adopted.Joined new) = ⊥
FailsToAdopt (adopted.Ignored same) = ⊥
FailsToAdopt (adopted.Refused fault banks) = fault ≡ make.Device

-- all calls were done
abbrev pub AdoptsWhole : {B : Type 0} → Adopted B → Type 0
AdoptsWhole (adopted.Joined new) = Unit {0}
AdoptsWhole (adopted.Ignored same) = Unit {0}
AdoptsWhole (adopted.Refused fault banks) = ⊥

-- banks that are given back for want of memory are as they were, or the device was called
abbrev pub GivesBackAdopted : {B : Type 0} → (B → Option Log) → (B → Meter) → B → Adopted B → Type 0
GivesBackAdopted log meter old (adopted.Joined new) = Unit {0}
GivesBackAdopted log meter old (adopted.Ignored same) = Unit {0}
GivesBackAdopted log meter old (adopted.Refused fault banks) = GivesBanksBack log meter old (fault, banks)
