-- What a node's calls on a loan of a live clone do. The private calls behind `answer_request` and `receive_message` cite it.
use Rattle.std.specs.Prelude.{◌≡◌, ℕ, ◌≤◌, if◌then◌else◌, Bool, true, false, List, [], Option, None, Result, Ok, Err, length, drop, map}
use Rattle.mld_io.specs.Arm.{Meter}
use Rattle.mld_io.specs.Disk.{Log}
use Rattle.mld_ops.specs.Entry.{EntryValue}
use Rattle.mld_ops.specs.Messages.{MessageValue, CarriesEntry}
use Rattle.mld_model.specs.Local.{LocalClone}
use Rattle.node_model.specs.clone_parts.KeptSteps.{KeptStep}
use Rattle.node_model.specs.clone_parts.declared.answers.Got.{Got}
use Rattle.node_model.specs.clone_parts.declared.answers.Got.TheVariants as got
use Rattle.node_model.specs.clone_parts.declared.faults.ReceiveFault.{ReceiveFault}
use Rattle.node_model.specs.clone_parts.declared.faults.ReceiveFault.TheVariants as fault
use Rattle.node_model.specs.clone_core.Banked.{BankedClone}
use Rattle.node_model.specs.clone_core.DurableCalls.{LeavesFronts}
use Rattle.node_model.specs.shell_session.declared.commands.ShellCommand.{ShellCommand}
use Rattle.node_model.specs.shell_session.declared.commands.ShellCommand.TheVariants as shell
use Rattle.wire_frames.specs.Frames.{frames_bytes}
use Rattle.wire_frames.specs.MessageParts.{reply_parts}
use Rattle.node_model.specs.declared.requests.Request.{Request}
use Rattle.node_model.specs.declared.requests.Request.TheVariants as asked
use Rattle.node_model.specs.declared.connections.Connection.{Connection}
use Rattle.node_model.specs.Connections.{as_client}
use Rattle.node_model.specs.Exchanges.{ExchangeValue, saying, holding}
use Rattle.node_model.specs.Keepers.{Keeper, Lives, carried}
use Rattle.node_model.specs.Requests.{AnswersRequest}
use Rattle.node_model.specs.NodeMessages.{sending_for}

-- a clone went on by a rule of the model: it is open, and at each moment since a crash leaves the old clone after a front of the durable steps
pub record GoesBy {B : Type 0} (log : B → Option Log) (meter : B → Meter) (Rule : List KeptStep → Keeper → Type 0) (old new : BankedClone B) : Type 0 where
  pub steps : List KeptStep
  pub does : Rule steps (Lives new.generation new.local)
  pub opened : new.closed ≡ None
  pub moments : LeavesFronts log meter steps old new.banks

-- ---- requests

-- the connection at hand is a client's from now on, and has this number
pub record GreetsClient (one : Connection) (before : ExchangeValue) (number : ℕ) (after : ExchangeValue) : Type 0 where
  pub same : number ≡ one.number
  pub holds : after ≡ holding (as_client one) before

-- a request was answered, and the reply to it went out behind that, on the connection of this number
pub record Replies (keeper : Keeper) (request : Request) (number : ℕ) (before : ExchangeValue) (steps : List KeptStep) (next : Keeper) (after : ExchangeValue) : Type 0 where
  pub text : List ℕ
  pub middle : ExchangeValue
  pub answers : AnswersRequest keeper request before text steps next middle
  pub replies : after ≡ saying number (frames_bytes (reply_parts text)) middle

-- a request asks for no command
abbrev pub IsNoCommand : Request → Type 0
IsNoCommand (asked.Command command) = ⊥
IsNoCommand request = Unit {0}

-- whether a command is an update, which may make an operation
abbrev pub is_update : ShellCommand → Bool
is_update (shell.Add triple) = true
is_update (shell.Remove triple) = true
is_update (shell.Update plan) = true
is_update command = false

-- an update leaves so many entries, and puts others behind them
abbrev pub AppendsBehind : ShellCommand → ℕ → List EntryValue → Type 0
AppendsBehind command kept entries = is_update command ≡ true → kept ≤ length entries

-- which go to the peers
abbrev pub told_by : ShellCommand → ℕ → List EntryValue → List MessageValue
told_by command kept entries = if is_update command then map CarriesEntry (drop kept entries) else []

-- ---- messages

-- entries that were taken stand behind so many others, or are all of the journal
abbrev pub MayAnswer : Got → ℕ → List EntryValue → Type 0
MayAnswer (got.Took ranges) kept entries = kept ≤ length entries
MayAnswer answer kept entries = Unit {0}

-- and the clone wasn't closed
abbrev pub MayBeSent : Result Got ReceiveFault → ℕ → List EntryValue → Type 0
MayBeSent (Ok answer) kept entries = MayAnswer answer kept entries
MayBeSent (Err (fault.Closed why)) kept entries = ⊥
MayBeSent (Err refused) kept entries = Unit {0}

-- durable steps carry what was taken
abbrev pub CarryTaken : Got → ℕ → List EntryValue → List KeptStep → Type 0
CarryTaken (got.Took ranges) kept entries steps = carried steps ≡ map CarriesEntry (drop kept entries)
CarryTaken (got.Merged ranges) kept entries steps = carried steps ≡ map CarriesEntry entries
CarryTaken answer kept entries steps = Unit {0}

-- what is to be sent for an answer was sent
abbrev pub HasAnswered : Got → ℕ → LocalClone → ExchangeValue → ExchangeValue → Type 0
HasAnswered answer kept clone before after =
    (steps : List KeptStep) → CarryTaken answer kept clone.entries steps → after ≡ sending_for (Ok answer) steps clone.ticks before

-- and so for any result that a device and memory let be
abbrev pub HasSent : Result Got ReceiveFault → ℕ → LocalClone → ExchangeValue → ExchangeValue → Type 0
HasSent (Ok answer) kept clone before after = HasAnswered answer kept clone before after
HasSent (Err (fault.Closed why)) kept clone before after = ⊥
HasSent (Err fault.Device) kept clone before after = ⊥
HasSent (Err fault.NoMemory) kept clone before after = ⊥
HasSent (Err (fault.ForeignTick said own)) kept clone before after = after ≡ sending_for (Err (fault.ForeignTick said own)) [] clone.ticks before
HasSent (Err fault.HeldFull) kept clone before after = after ≡ sending_for (Err fault.HeldFull) [] clone.ticks before
HasSent (Err fault.Deep) kept clone before after = after ≡ sending_for (Err fault.Deep) [] clone.ticks before
HasSent (Err fault.GenerationsSpent) kept clone before after = after ≡ before
