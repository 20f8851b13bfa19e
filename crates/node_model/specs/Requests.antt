-- What a node does for a request.
use Rattle.std.specs.Prelude.{◌≡◌, ℕ, List, [], codes}
use Rattle.mld_ops.specs.Messages.{CarriesWant}
use Rattle.mld_model.specs.Local.{LocalClone}
use Rattle.shell_session.specs.clone_parts.KeptSteps.{KeptStep}
use Rattle.shell_session.specs.declared.commands.ShellCommand.{ShellCommand}
use Rattle.shell_session.specs.Shells.{generation_after}
use Rattle.shell_session.specs.ShellReply.{ShellReply, shell_text}
use Rattle.shell_session.specs.ShellStep.{LiveStep}
use Rattle.wire_frames.specs.Frames.{frames_bytes}
use Rattle.wire_frames.specs.MessageParts.{reply_parts}
use Rattle.node_model.specs.declared.requests.Request.{Request}
use Rattle.node_model.specs.declared.requests.Request.TheVariants.{Command, Ask, Halt, Bad}
use Rattle.node_model.specs.RequestLines.{SpellsRequest}
use Rattle.node_model.specs.declared.connections.Connection.{Connection}
use Rattle.node_model.specs.Connections.{as_client}
use Rattle.node_model.specs.Exchanges.{ExchangeValue, saying, telling_peers, telling_peers_each, holding, halting}
use Rattle.node_model.specs.Keepers.{Keeper, Lives, Asks, keeper_domain, carried}

-- replies of a node's own
abbrev pub bad_text : List ℕ
bad_text = codes "bad line\n"

abbrev pub stopped_text : List ℕ
stopped_text = codes "stopped\n"

abbrev pub asking_text : List ℕ
asking_text = codes "asking\n"

abbrev pub sent_text : List ℕ
sent_text = codes "sent\n"

-- the reply is this one, no durable step is made, and what the node has stays as it was
pub record NodeOnlyReplies (answer : List ℕ) (keeper : Keeper) (text : List ℕ) (steps : List KeptStep) (next : Keeper) : Type 0 where
  pub replies : text ≡ answer
  pub none : steps ≡ []
  pub same : next ≡ keeper

-- a live clone does a command as in the shell. What it made goes to every peer
pub record DoesCommand (generation : ℕ) (clone : LocalClone) (command : ShellCommand) (exchange : ExchangeValue) (text : List ℕ) (steps : List KeptStep) (next : Keeper) (after : ExchangeValue) : Type 0 where
  pub reply : ShellReply
  pub new : LocalClone
  pub does : LiveStep generation clone command reply steps new
  pub replies : text ≡ shell_text reply
  pub becomes : next ≡ Lives (generation_after steps generation) new
  pub tells : after ≡ telling_peers_each (carried steps) exchange

-- the text of the reply to a request, its durable steps, and the node and the exchange once they are made: while asking, all but a line
-- that is bad or ends the node has to wait
abbrev pub AnswersRequest : Keeper → Request → ExchangeValue → List ℕ → List KeptStep → Keeper → ExchangeValue → Type 0
AnswersRequest keeper Halt exchange text steps next after = NodeOnlyReplies stopped_text keeper text steps next × (after ≡ halting exchange)
AnswersRequest keeper Bad exchange text steps next after = NodeOnlyReplies bad_text keeper text steps next × (after ≡ exchange)
AnswersRequest (Asks asker) Ask exchange text steps next after = NodeOnlyReplies asking_text (Asks asker) text steps next × (after ≡ exchange)
AnswersRequest (Asks asker) (Command command) exchange text steps next after =
    NodeOnlyReplies asking_text (Asks asker) text steps next × (after ≡ exchange)
AnswersRequest (Lives generation clone) Ask exchange text steps next after =
    NodeOnlyReplies sent_text (Lives generation clone) text steps next × (after ≡ telling_peers (CarriesWant clone.ticks) exchange)
AnswersRequest (Lives generation clone) (Command command) exchange text steps next after =
    DoesCommand generation clone command exchange text steps next after

-- a request came on a connection, which is a client's then. The reply to it goes out behind what went to peers
pub record TakesRequest (keeper : Keeper) (one : Connection) (line : List ℕ) (exchange : ExchangeValue) (steps : List KeptStep) (next : Keeper) (after : ExchangeValue) : Type 0 where
  pub request : Request
  pub spells : SpellsRequest (keeper_domain keeper) line request
  pub text : List ℕ
  pub middle : ExchangeValue
  pub answers : AnswersRequest keeper request (holding (as_client one) exchange) text steps next middle
  pub replies : after ≡ saying one.number (frames_bytes (reply_parts text)) middle
