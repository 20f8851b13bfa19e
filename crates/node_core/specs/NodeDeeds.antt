-- What a node does on its banks for a request or a message: done, or stopped short. The clauses of `answer_request` and `receive_message` cite it.
use Rattle.std.specs.Prelude.{◌≡◌, ℕ, List, [], ◌∷◌, Option}
use Rattle.mld_io.specs.Disk.{Log}
use Rattle.mld_ops.specs.declared.messages.Give.{Give}
use Rattle.mld_ops.specs.declared.messages.Message.{Message}
use Rattle.mld_model.specs.Local.{LocalClone}
use Rattle.node_model.specs.clone_parts.KeptSteps.{KeptStep, Created}
use Rattle.node_model.specs.clone_core.Banked.{head_of}
use Rattle.node_model.specs.clone_core.Due.{IsDueAt}
use Rattle.node_model.specs.clone_core.DurableCalls.{WouldReceive}
use Rattle.node_model.specs.clone_core.Joining.{IsGiveFor}
use Rattle.node_model.specs.shell_session.ShellStep.{IsDueLive}
use Rattle.node_model.specs.shell_session.SessionLines.{ImagesFind, LeavesFront, LeavesFrontOfDue}
use Rattle.node_model.specs.declared.requests.Request.{Request}
use Rattle.node_model.specs.declared.requests.Request.TheVariants.{Command}
use Rattle.node_model.specs.RequestLines.{SpellsRequest}
use Rattle.node_model.specs.declared.connections.Connection.{Connection}
use Rattle.node_model.specs.Exchanges.{ExchangeValue}
use Rattle.node_model.specs.Keepers.{Keeper, Lives, Asks, keeper_domain, keeper_found}
use Rattle.node_model.specs.Requests.{TakesRequest}
use Rattle.node_model.specs.NodeMessages.{Receives, adopted_clone}
use Rattle.node_core.specs.declared.states.NodeState.{NodeState}
use Rattle.node_core.specs.NodeStates.{state_banks, keeper_of}

-- it was done by a rule of the model, which gives durable steps: at each moment since, where the same was found on all that a crash might have left
-- before, what is found is what a front of them makes of that; and it is found then what all of them make
pub record NodeDoesBy {B : Type 0} (Rule : List KeptStep → Type 0) (log : B → Option Log) (old next : NodeState B) : Type 0 where
  pub steps : List KeptStep
  pub does : Rule steps
  pub moments : LeavesFront (keeper_found (keeper_of old)) steps (log (state_banks old)) (log (state_banks next))
  pub settled : ImagesFind (keeper_found (keeper_of old)) (log (state_banks old)) → ImagesFind (keeper_found (keeper_of next)) (log (state_banks next))

-- a request was answered
abbrev pub AnswersOn : {B : Type 0} → (B → Option Log) → Connection → List ℕ → NodeState B → ExchangeValue → NodeState B → ExchangeValue → Type 0
AnswersOn log one line old exchange next after =
    NodeDoesBy (λ steps. TakesRequest (keeper_of old) one line exchange steps (keeper_of next) after) log old next

-- a message was received
abbrev pub ReceivesOn : {B : Type 0} → (B → Option Log) → Message → NodeState B → ExchangeValue → NodeState B → ExchangeValue → Type 0
ReceivesOn log message old exchange next after =
    NodeDoesBy (λ steps. Receives (keeper_of old) message exchange steps (keeper_of next) after) log old next

-- ---- durable steps that are due

-- those that a request has to make
abbrev pub IsDueByCommand : Keeper → Request → List KeptStep → Type 0
IsDueByCommand (Lives generation clone) (Command command) steps = IsDueLive generation clone command steps
IsDueByCommand keeper request steps = ⊥

abbrev pub IsDueByRequest : Keeper → List ℕ → List KeptStep → Type 0
IsDueByRequest keeper line steps = (request : Request) × SpellsRequest (keeper_domain keeper) line request × IsDueByCommand keeper request steps

-- what a live clone of this generation has to make for a message
pub record IsDueOfLive (generation : ℕ) (clone : LocalClone) (message : Message) (steps : List KeptStep) : Type 0 where
  pub has : IsDueAt generation clone message
  pub would : WouldReceive clone message steps

-- those that a message has to make
abbrev pub IsDueByMessage : Keeper → Message → List KeptStep → Type 0
IsDueByMessage (Lives generation clone) message steps = IsDueOfLive generation clone message steps
IsDueByMessage (Asks asker) message steps = (give : Give) × IsGiveFor asker message give × (steps ≡ Created (head_of (adopted_clone asker give)) ∷ [])

-- ---- a node that stopped short, and what is left on its banks

-- it stopped short of the durable steps of a request
abbrev pub StopsRequest : {B : Type 0} → (B → Option Log) → List ℕ → NodeState B → B → Type 0
StopsRequest log line old left = LeavesFrontOfDue (IsDueByRequest (keeper_of old) line) log (keeper_found (keeper_of old)) (state_banks old) left

-- it stopped short of the durable steps of a message
abbrev pub StopsMessage : {B : Type 0} → (B → Option Log) → Message → NodeState B → B → Type 0
StopsMessage log message old left = LeavesFrontOfDue (IsDueByMessage (keeper_of old) message) log (keeper_found (keeper_of old)) (state_banks old) left
