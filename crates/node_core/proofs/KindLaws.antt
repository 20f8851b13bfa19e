-- The step of a frame, by what its connection is.
use Rattle.std.proofs.Common.{◌≡◌, ◌⊎◌, ℕ, Bool, true, false, List, [], Option, None, Some, Result, Ok, Err, IfOk, IfErr, OnOk, refl, sym, ◌∙◌, ap, subst, inl, inr}
use Rattle.std.proofs.lemmas.Bool.{true≢false, false≢true}
use Rattle.mld_io.specs.Disk.{Log}
use Rattle.mld_ops.specs.declared.messages.Message.{Message}
use Rattle.node_model.specs.clone_parts.KeptSteps.{KeptStep}
use Rattle.node_model.specs.shell_session.SessionLines.{LeavesFrontOfDue}
use Rattle.node_model.specs.shell_session.Shells.{FoundOnBanks}
use Rattle.wire_frames.specs.declared.assembling.Assembled.TheVariants.{Waiting, Whole}
use Rattle.wire_frames.specs.declared.assembling.Assembled.{Assembled}
use Rattle.wire_frames.specs.declared.faults.AssemblyFault.{AssemblyFault}
use Rattle.wire_frames.specs.declared.faults.AssemblyFault.TheVariants.{BadPart}
use Rattle.wire_frames.specs.declared.kinds.Frame.{Frame}
use Rattle.wire_frames.specs.declared.kinds.Frame.TheVariants as kinds
use Rattle.wire_frames.specs.MessageParts.{AssemblyValue, Assembles}
use Rattle.node_model.specs.declared.connections.Connection.{Connection}
use Rattle.node_model.specs.declared.connections.Role.{Role}
use Rattle.node_model.specs.declared.connections.Role.TheVariants as role
use Rattle.node_model.specs.Connections.{as_peer, is_peer}
use Rattle.node_model.specs.Exchanges.{ExchangeValue, refusing, telling, holding}
use Rattle.node_model.specs.RefusalCodes.{bad_frame_code, misplaced_code}
use Rattle.node_core.specs.NodeDeeds.{AnswersOn, ReceivesOn, IsDueByRequest, IsDueByMessage}
use Rattle.node_core.specs.NodeStates.{state_banks, keeper_of}
use Rattle.node_core.specs.declared.faults.NodeFault.{NodeFault}
use Rattle.node_core.specs.declared.states.NodeState.{NodeState}
use Rattle.node_model.specs.Keepers.{Keeper, question_of, keeper_found}
use Rattle.node_model.specs.NodeMessages.{Receives}
use Rattle.node_model.specs.Requests.{TakesRequest}
use Rattle.node_model.specs.FrameSteps.{Greets, of_other_format, of_other_domain, of_own_id, of_peer, ReceivesPart, waits, is_whole, is_bad, with_parts, IsOutOfPlace, FrameStepAs, FrameStep}
use Rattle.node_core.specs.NodeEvents.{IsDueByFrame}
use Rattle.node_core.specs.Steps.{is_fresh, IsJudged, AddsPart, IsNoPeer, TakesFrame}
use Rattle.node_core.proofs.EventMoments.{no_steps}

-- a step with no durable step
module _ {B : Type 0} (log : B → Option Log) (one : Connection) (frame : Frame) (old next : NodeState B) (exchange after : ExchangeValue) where
  pub keeps_all : next ≡ old → FrameStep (keeper_of old) one frame exchange [] (keeper_of old) after → TakesFrame log one frame old exchange next after
  keeps_all same does = subst (λ (s : NodeState B). TakesFrame log one frame old exchange s after) (sym same) (record {
    steps = [];
    does = does;
    moments = no_steps (keeper_found (keeper_of old)) (log (state_banks old));
    settled = λ images. images;
  })

-- ---- frames that may not come

module _ (keeper : Keeper) (one : Connection) (exchange after : ExchangeValue) (refused : after ≡ refusing misplaced_code (holding one exchange)) where
  misplaced : IsOutOfPlace keeper one exchange [] keeper after
  misplaced = record { nothing = record { none = refl; same = refl }; refused = refused }

  pub reply_misplaced : (kind : Role) (piece : List ℕ) (more : Bool) → FrameStepAs kind (kinds.Reply piece more) keeper one exchange [] keeper after
  reply_misplaced role.Fresh piece more = misplaced
  reply_misplaced role.Client piece more = misplaced
  reply_misplaced (role.Peer assembly) piece more = misplaced

  pub refuse_misplaced : (kind : Role) (code : ℕ) → FrameStepAs kind (kinds.Refuse code) keeper one exchange [] keeper after
  refuse_misplaced role.Fresh code = misplaced
  refuse_misplaced role.Client code = misplaced
  refuse_misplaced (role.Peer assembly) code = misplaced

  pub hello_misplaced : (kind : Role) (format : ℕ) (id domain : List ℕ) → is_fresh kind ≡ false
      → FrameStepAs kind (kinds.Hello format id domain) keeper one exchange [] keeper after
  hello_misplaced role.Fresh format id domain none = absurd (true≢false none)
  hello_misplaced role.Client format id domain none = misplaced
  hello_misplaced (role.Peer assembly) format id domain none = misplaced

  pub request_misplaced : (kind : Role) (line : List ℕ) → is_peer kind ≡ true → FrameStepAs kind (kinds.Request line) keeper one exchange [] keeper after
  request_misplaced role.Fresh line is = absurd (false≢true is)
  request_misplaced role.Client line is = absurd (false≢true is)
  request_misplaced (role.Peer assembly) line is = misplaced

  pub part_misplaced : (kind : Role) (number index count : ℕ) (piece : List ℕ) → is_peer kind ≡ false
      → FrameStepAs kind (kinds.Part number index count piece) keeper one exchange [] keeper after
  part_misplaced role.Fresh number index count piece none = misplaced
  part_misplaced role.Client number index count piece none = misplaced
  part_misplaced (role.Peer assembly) number index count piece none = absurd (true≢false none)

-- ---- a Hello

greeted : (kind : Role) (keeper : Keeper) (one : Connection) (format : ℕ) (id domain : List ℕ) (exchange after : ExchangeValue) → is_fresh kind ≡ true
    → Greets keeper one format id domain exchange after → FrameStepAs kind (kinds.Hello format id domain) keeper one exchange [] keeper after
greeted role.Fresh keeper one format id domain exchange after fresh greets = (record { none = refl; same = refl }, greets)
greeted role.Client keeper one format id domain exchange after fresh greets = absurd (false≢true fresh)
greeted (role.Peer assembly) keeper one format id domain exchange after fresh greets = absurd (false≢true fresh)

module _ (keeper : Keeper) (one : Connection) (format : ℕ) (id domain : List ℕ) (exchange after : ExchangeValue) (fresh : is_fresh one.role ≡ true) where
  judged : (code : ℕ) → IsJudged keeper format id domain (Some code) → Greets keeper one format id domain exchange (refusing code (holding one exchange))
  judged code (inl other) =
      subst (λ (n : ℕ). Greets keeper one format id domain exchange (refusing n (holding one exchange))) (sym other.0) (of_other_format other.1)
  judged code (inr (inl other)) =
      subst (λ (n : ℕ). Greets keeper one format id domain exchange (refusing n (holding one exchange))) (sym other.0) (of_other_domain other.1.0 other.1.1)
  judged code (inr (inr own)) =
      subst (λ (n : ℕ). Greets keeper one format id domain exchange (refusing n (holding one exchange))) (sym own.0) (of_own_id own.1.0 own.1.1.0 own.1.1.1)

  pub hello_refused : (code : ℕ) → IsJudged keeper format id domain (Some code) → after ≡ refusing code (holding one exchange)
      → FrameStep keeper one (kinds.Hello format id domain) exchange [] keeper after
  hello_refused code judges sent =
      greeted one.role keeper one format id domain exchange after fresh
      (subst (λ (e : ExchangeValue). Greets keeper one format id domain exchange e) (sym sent) (judged code judges))

  pub hello_welcome : IsJudged keeper format id domain None → after ≡ telling (question_of keeper) (holding (as_peer one) exchange)
      → FrameStep keeper one (kinds.Hello format id domain) exchange [] keeper after
  hello_welcome judges sent =
      greeted one.role keeper one format id domain exchange after fresh
      (subst (λ (e : ExchangeValue). Greets keeper one format id domain exchange e) (sym sent) (of_peer judges.0 judges.1 judges.2))

-- ---- a request

request_step : (kind : Role) (keeper : Keeper) (one : Connection) (line : List ℕ) (exchange : ExchangeValue) (steps : List KeptStep) (next : Keeper) (after : ExchangeValue)
    → is_peer kind ≡ false → TakesRequest keeper one line exchange steps next after → FrameStepAs kind (kinds.Request line) keeper one exchange steps next after
request_step role.Fresh keeper one line exchange steps next after none does = does
request_step role.Client keeper one line exchange steps next after none does = does
request_step (role.Peer assembly) keeper one line exchange steps next after none does = absurd (true≢false none)

pub request_done : {B : Type 0} (log : B → Option Log) (one : Connection) (line : List ℕ) (old next : NodeState B) (exchange after : ExchangeValue) → is_peer one.role ≡ false
    → AnswersOn log one line old exchange next after → TakesFrame log one (kinds.Request line) old exchange next after
request_done log one line old next exchange after none does = record {
  steps = does.steps;
  does = request_step one.role (keeper_of old) one line exchange does.steps (keeper_of next) after none does.does;
  moments = does.moments;
  settled = does.settled;
}

request_due : (kind : Role) (keeper : Keeper) (line : List ℕ) (steps : List KeptStep) → is_peer kind ≡ false → IsDueByRequest keeper line steps
    → IsDueByFrame keeper kind (kinds.Request line) steps
request_due role.Fresh keeper line steps none due = due
request_due role.Client keeper line steps none due = due
request_due (role.Peer assembly) keeper line steps none due = absurd (true≢false none)

-- a call that stopped amid steps that are due by other words
pub stops_as : {B : Type 0} (One Other : List KeptStep → Type 0) (log : B → Option Log) (found : FoundOnBanks) (old now : B) → ((steps : List KeptStep) → One steps → Other steps)
    → LeavesFrontOfDue One log found old now → LeavesFrontOfDue Other log found old now
stops_as One Other log found old now into stop = record { steps = stop.steps; due = due_as stop.due; moments = stop.moments } where
  due_as : (stop.steps ≡ []) ⊎ One stop.steps → (stop.steps ≡ []) ⊎ Other stop.steps
  due_as (inl none) = inl none
  due_as (inr due) = inr (into stop.steps due)

pub request_stops : {B : Type 0} (log : B → Option Log) (kind : Role) (keeper : Keeper) (line : List ℕ) (found : FoundOnBanks) (old now : B) → is_peer kind ≡ false
    → LeavesFrontOfDue (IsDueByRequest keeper line) log found old now → LeavesFrontOfDue (IsDueByFrame keeper kind (kinds.Request line)) log found old now
request_stops log kind keeper line found old now none stop =
    stops_as (IsDueByRequest keeper line) (IsDueByFrame keeper kind (kinds.Request line)) log found old now (λ steps due. request_due kind keeper line steps none due) stop

-- ---- a part

part_step : (kind : Role) (assembly : AssemblyValue) (keeper : Keeper) (one : Connection) (number index count : ℕ) (piece : List ℕ) (exchange : ExchangeValue) (steps : List KeptStep) (next : Keeper) (after : ExchangeValue)
    → kind ≡ role.Peer assembly → ReceivesPart keeper one assembly number index count piece exchange steps next after
    → FrameStepAs kind (kinds.Part number index count piece) keeper one exchange steps next after
part_step kind assembly keeper one number index count piece exchange steps next after is does =
    subst (λ (r : Role). FrameStepAs r (kinds.Part number index count piece) keeper one exchange steps next after) (sym is) does

module _ (keeper : Keeper) (one new : Connection) (number index count : ℕ) (piece : List ℕ) (exchange held : ExchangeValue) (holds : held ≡ holding new exchange) where
  -- of no peer
  pub part_none : (after : ExchangeValue) → IsNoPeer one new → after ≡ refusing misplaced_code held → FrameStep keeper one (kinds.Part number index count piece) exchange [] keeper after
  part_none after lacks sent =
      part_misplaced keeper one exchange after (sent ∙ ap (refusing misplaced_code) holds ∙ ap (λ (c : Connection). refusing misplaced_code (holding c exchange)) lacks.same) one.role number index count piece lacks.none

  -- the message isn't whole
  pub part_waits : (result : Result Assembled AssemblyFault) (given : Assembled) (missing : ℕ) → result ≡ Ok given → given ≡ Waiting missing
      → AddsPart one number index count piece result new → FrameStep keeper one (kinds.Part number index count piece) exchange [] keeper held
  part_waits result given missing is waiting added =
      let adds : AddsPart one number index count piece (Ok (Waiting missing)) new =
      subst (λ (r : Result Assembled AssemblyFault). AddsPart one number index count piece r new) (is ∙ ap Ok waiting) added in
      let same : held ≡ holding (with_parts adds.left one) exchange = holds ∙ ap (λ (c : Connection). holding c exchange) adds.new_is in
      part_step one.role adds.assembly keeper one number index count piece exchange [] keeper held adds.was
      (subst (λ (e : ExchangeValue). ReceivesPart keeper one adds.assembly number index count piece exchange [] keeper e) (sym same)
      (waits missing adds.left adds.assembles))

  -- it may not come
  pub part_is_bad : (result : Result Assembled AssemblyFault) (fault : AssemblyFault) → result ≡ Err fault → fault ≡ BadPart → AddsPart one number index count piece result new
      → (after : ExchangeValue) → after ≡ refusing bad_frame_code held → FrameStep keeper one (kinds.Part number index count piece) exchange [] keeper after
  part_is_bad result fault is bad added after sent =
      let adds : AddsPart one number index count piece (Err BadPart) new =
      subst (λ (r : Result Assembled AssemblyFault). AddsPart one number index count piece r new) (is ∙ ap Err bad) added in
      let same : after ≡ refusing bad_frame_code (holding one exchange) =
      sent ∙ ap (refusing bad_frame_code) holds ∙ ap (λ (c : Connection). refusing bad_frame_code (holding c exchange)) adds.new_is in
      part_step one.role adds.assembly keeper one number index count piece exchange [] keeper after adds.was
      (subst (λ (e : ExchangeValue). ReceivesPart keeper one adds.assembly number index count piece exchange [] keeper e) (sym same)
      (is_bad adds.left adds.assembles))

pub message_done : {B : Type 0} (log : B → Option Log) (one new : Connection) (number index count : ℕ) (piece : List ℕ) (message : Message) (old next : NodeState B) (exchange after : ExchangeValue)
    → AddsPart one number index count piece (Ok (Whole message)) new → ReceivesOn log message old (holding new exchange) next after
    → TakesFrame log one (kinds.Part number index count piece) old exchange next after
message_done log one new number index count piece message old next exchange after adds does = record {
  steps = does.steps;
  does = part_step one.role adds.assembly (keeper_of old) one number index count piece exchange does.steps (keeper_of next) after adds.was
      (is_whole message adds.left adds.assembles does.steps (keeper_of next) after
      (subst (λ (c : Connection). Receives (keeper_of old) message (holding c exchange) does.steps (keeper_of next) after) adds.new_is does.does));
  moments = does.moments;
  settled = does.settled;
}

message_due : (kind : Role) (assembly : AssemblyValue) (keeper : Keeper) (number index count : ℕ) (piece : List ℕ) (message : Message) (then : AssemblyValue) (steps : List KeptStep)
    → kind ≡ role.Peer assembly → Assembles assembly number index count piece (Ok (Whole message)) then → IsDueByMessage keeper message steps
    → IsDueByFrame keeper kind (kinds.Part number index count piece) steps
message_due kind assembly keeper number index count piece message then steps is adds due =
    subst (λ (r : Role). IsDueByFrame keeper r (kinds.Part number index count piece) steps) (sym is) (message, then, adds, due)

pub message_stops : {B : Type 0} (log : B → Option Log) (keeper : Keeper) (one new : Connection) (number index count : ℕ) (piece : List ℕ) (message : Message) (found : FoundOnBanks) (old now : B)
    → AddsPart one number index count piece (Ok (Whole message)) new → LeavesFrontOfDue (IsDueByMessage keeper message) log found old now
    → LeavesFrontOfDue (IsDueByFrame keeper one.role (kinds.Part number index count piece)) log found old now
message_stops log keeper one new number index count piece message found old now adds stop =
    stops_as (IsDueByMessage keeper message) (IsDueByFrame keeper one.role (kinds.Part number index count piece)) log found old now
    (λ steps due. message_due one.role adds.assembly keeper number index count piece message adds.left steps adds.was adds.assembles due) stop

-- ---- answers that keep the state

module _ {B : Type 0} (log : B → Option Log) (state : NodeState B) (one : Connection) (frame : Frame) (exchange after : ExchangeValue) where
  pub quiet_done : (last : ExchangeValue) (result : Result (NodeState B) (NodeFault × B)) → OnOk result (after ≡ last) → IfOk result (λ next. next ≡ state)
      → (after ≡ last → FrameStep (keeper_of state) one frame exchange [] (keeper_of state) after) → IfOk result (λ next. TakesFrame log one frame state exchange next after)
  quiet_done last (Ok next) sent same does = keeps_all log one frame state next exchange after same (does sent)
  quiet_done last (Err refused) sent same does = tt

-- ---- frames that may come on no connection

pub reply_step : (keeper : Keeper) (one : Connection) (exchange after : ExchangeValue) (frame : Frame) (piece : List ℕ) (more : Bool) → frame ≡ kinds.Reply piece more
    → after ≡ refusing misplaced_code (holding one exchange) → FrameStep keeper one frame exchange [] keeper after
reply_step keeper one exchange after frame piece more is sent =
    subst (λ (f : Frame). FrameStep keeper one f exchange [] keeper after) (sym is) (reply_misplaced keeper one exchange after sent one.role piece more)

pub refuse_step : (keeper : Keeper) (one : Connection) (exchange after : ExchangeValue) (frame : Frame) (code : ℕ) → frame ≡ kinds.Refuse code
    → after ≡ refusing misplaced_code (holding one exchange) → FrameStep keeper one frame exchange [] keeper after
refuse_step keeper one exchange after frame code is sent =
    subst (λ (f : Frame). FrameStep keeper one f exchange [] keeper after) (sym is) (refuse_misplaced keeper one exchange after sent one.role code)

-- ---- a message that is whole

module _ {B : Type 0} (log : B → Option Log) (state : NodeState B) (one new : Connection) (number index count : ℕ) (piece : List ℕ) (exchange held : ExchangeValue) (holds : held ≡ holding new exchange)
    (result : Result Assembled AssemblyFault) (given : Assembled) (message : Message) (is : result ≡ Ok given) (whole : given ≡ Whole message) (added : AddsPart one number index count piece result new) where
  adds_message : AddsPart one number index count piece (Ok (Whole message)) new
  adds_message = subst (λ (r : Result Assembled AssemblyFault). AddsPart one number index count piece r new) (is ∙ ap Ok whole) added

  pub message_answered : (after : ExchangeValue) (answer : Result (NodeState B) (NodeFault × B)) → IfOk answer (λ next. ReceivesOn log message state held next after)
      → IfOk answer (λ next. TakesFrame log one (kinds.Part number index count piece) state (holding one exchange) next after)
  message_answered after (Ok next) does =
      message_done log one new number index count piece message state next (holding one exchange) after adds_message
      (subst (λ (e : ExchangeValue). ReceivesOn log message state e next after) holds does)
  message_answered after (Err refused) does = tt

  pub message_refused : (answer : Result (NodeState B) (NodeFault × B))
      → IfErr answer (λ refused. LeavesFrontOfDue (IsDueByMessage (keeper_of state) message) log (keeper_found (keeper_of state)) (state_banks state) refused.1)
      → IfErr answer (λ refused. LeavesFrontOfDue (IsDueByFrame (keeper_of state) one.role (kinds.Part number index count piece)) log (keeper_found (keeper_of state)) (state_banks state) refused.1)
  message_refused (Ok next) stop = tt
  message_refused (Err refused) stop =
      message_stops log (keeper_of state) one new number index count piece message (keeper_found (keeper_of state)) (state_banks state) refused.1 adds_message stop

-- ---- a request that is answered

pub request_answered : {B : Type 0} (log : B → Option Log) (state : NodeState B) (one : Connection) (line : List ℕ) (exchange held : ExchangeValue) → held ≡ holding one exchange
    → is_peer one.role ≡ false → (after : ExchangeValue) (answer : Result (NodeState B) (NodeFault × B))
    → IfOk answer (λ next. (hand : Connection) → held.at_hand ≡ Some hand → AnswersOn log hand line state held next after)
    → IfOk answer (λ next. TakesFrame log one (kinds.Request line) state (holding one exchange) next after)
request_answered log state one line exchange held holds none after (Ok next) does =
    request_done log one line state next (holding one exchange) after none
    (subst (λ (e : ExchangeValue). AnswersOn log one line state e next after) holds (does one (ap (λ (e : ExchangeValue). e.at_hand) holds)))
request_answered log state one line exchange held holds none after (Err refused) does = tt
