-- What a node does with a message of a peer.
use Rattle.std.specs.Prelude.{◌≡◌, ℕ, List, [], ◌∷◌, map, Result, Ok, Err}
use Rattle.mld_ops.specs.declared.messages.Give.{Give}
use Rattle.mld_ops.specs.declared.messages.Message.{Message}
use Rattle.mld_ops.specs.Messages.{CarriesWant, message_value, give_value}
use Rattle.mld_model.specs.Local.{LocalClone, LocalAsker, joined_clone}
use Rattle.shell_session.specs.clone_parts.KeptSteps.{KeptStep, Created}
use Rattle.shell_session.specs.clone_parts.declared.answers.Got.{Got}
use Rattle.shell_session.specs.clone_parts.declared.answers.Got.TheVariants as got
use Rattle.shell_session.specs.clone_parts.declared.faults.ReceiveFault.{ReceiveFault}
use Rattle.shell_session.specs.clone_parts.declared.faults.ReceiveFault.TheVariants as fault
use Rattle.shell_session.specs.clone_core.Banked.{head_of}
use Rattle.shell_session.specs.clone_core.CloneCalls.{LocallyReceives, Refuses}
use Rattle.shell_session.specs.clone_core.DurableCalls.{ReceivedSteps}
use Rattle.shell_session.specs.clone_core.Joining.{IsGiveFor, GivesNone}
use Rattle.shell_session.specs.Shells.{generation_after}
use Rattle.shell_session.specs.ShellStep.{IsLast}
use Rattle.node_model.specs.Exchanges.{ExchangeValue, refusing, telling, telling_each, telling_peers_each}
use Rattle.node_model.specs.RefusalCodes.{deep_leaf_code, foreign_tick_code}
use Rattle.node_model.specs.Keepers.{Keeper, Lives, Asks, carried}

-- ---- a live clone

-- the clone refuses a message for this cause, and stays as it is
pub record StaysAsItIs (Cause : Type 0) (clone : LocalClone) (steps : List KeptStep) (new : LocalClone) : Type 0 where
  pub cause : Cause
  pub none : steps ≡ []
  pub same : new ≡ clone

-- a snapshot that was merged took a swap, for which a generation was left
abbrev pub HasGenerationFor : Got → ℕ → Type 0
HasGenerationFor (got.Merged ranges) generation = ¬ IsLast generation
HasGenerationFor answer generation = Unit {0}

-- what became of a message that came to a live clone, at this generation: it was received, with its durable steps; or it was refused
abbrev pub HasReceived : ℕ → LocalClone → Message → Result Got ReceiveFault → List KeptStep → LocalClone → Type 0
HasReceived generation clone message (Ok answer) steps new =
    LocallyReceives clone message answer new × ReceivedSteps message answer clone new steps × HasGenerationFor answer generation
HasReceived generation clone message (Err (fault.ForeignTick said own)) steps new =
    StaysAsItIs (Refuses clone message (fault.ForeignTick said own)) clone steps new
HasReceived generation clone message (Err fault.HeldFull) steps new = StaysAsItIs (Refuses clone message fault.HeldFull) clone steps new
HasReceived generation clone message (Err fault.Deep) steps new = StaysAsItIs (Refuses clone message fault.Deep) clone steps new
HasReceived generation clone message (Err fault.GenerationsSpent) steps new =
    StaysAsItIs (Refuses clone message fault.GenerationsSpent × IsLast generation) clone steps new
HasReceived generation clone message (Err (fault.Closed why)) steps new = ⊥
HasReceived generation clone message (Err fault.Device) steps new = ⊥
HasReceived generation clone message (Err fault.NoMemory) steps new = ⊥

-- What is sent then, by one who knows these ticks: what was taken goes on to every other peer, range by range; of one who sent what must be held
-- what is lacked is asked; who asked is answered; and one is refused whose ranges or questions can't be right.
abbrev pub sending_for : Result Got ReceiveFault → List KeptStep → List (List ℕ × ℕ) → ExchangeValue → ExchangeValue
sending_for (Ok (got.Took ranges)) steps ticks exchange = telling_peers_each (carried steps) exchange
sending_for (Ok (got.Merged ranges)) steps ticks exchange = telling_peers_each (carried steps) exchange
sending_for (Ok got.Held) steps ticks exchange = telling (CarriesWant ticks) exchange
sending_for (Ok (got.Answer messages)) steps ticks exchange = telling_each (map message_value messages) exchange
sending_for (Ok got.Known) steps ticks exchange = exchange
sending_for (Ok got.Nothing) steps ticks exchange = exchange
sending_for (Ok got.Ignored) steps ticks exchange = exchange
sending_for (Err fault.HeldFull) steps ticks exchange = telling (CarriesWant ticks) exchange
sending_for (Err (fault.ForeignTick said own)) steps ticks exchange = refusing foreign_tick_code exchange
sending_for (Err fault.Deep) steps ticks exchange = refusing deep_leaf_code exchange
sending_for (Err other) steps ticks exchange = exchange

-- a message came to a live clone
pub record LiveReceives (generation : ℕ) (clone : LocalClone) (message : Message) (exchange : ExchangeValue) (steps : List KeptStep) (next : Keeper) (after : ExchangeValue) : Type 0 where
  pub result : Result Got ReceiveFault
  pub new : LocalClone
  pub received : HasReceived generation clone message result steps new
  pub becomes : next ≡ Lives (generation_after steps generation) new
  pub sends : after ≡ sending_for result steps new.ticks exchange

-- ---- one who asks

-- the clone that one who asks becomes by a leaf that is given
abbrev pub adopted_clone : LocalAsker → Give → LocalClone
adopted_clone asker give = joined_clone asker (give_value give)

-- a message came to one who asks: it gives a leaf, the clone lives at that, and the giver is asked for what it lacks; or it gives none
pub data AskerReceives (asker : LocalAsker) (message : Message) (exchange : ExchangeValue) : List KeptStep → Keeper → ExchangeValue → Type 0 where
  joins : (give : Give) → IsGiveFor asker message give
      → AskerReceives asker message exchange (Created (head_of (adopted_clone asker give)) ∷ []) (Lives 1 (adopted_clone asker give))
      (telling (CarriesWant (adopted_clone asker give).ticks) exchange)
  ignores : GivesNone asker message → AskerReceives asker message exchange [] (Asks asker) exchange

-- ---- any

abbrev pub Receives : Keeper → Message → ExchangeValue → List KeptStep → Keeper → ExchangeValue → Type 0
Receives (Lives generation clone) message exchange steps next after = LiveReceives generation clone message exchange steps next after
Receives (Asks asker) message exchange steps next after = AskerReceives asker message exchange steps next after
