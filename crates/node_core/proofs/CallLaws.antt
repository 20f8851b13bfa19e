-- What calls on a loan of a live clone tell is a step of the model.
use Rattle.std.proofs.Common.{◌≡◌, ◌↔◌, ◌⊎◌, ℕ, ◌+◌, ◌≤◌, List, [], ◌∷◌, Option, None, Some, Result, Ok, Err, IfOk, IfErr, OnOk, OnErr, IsOk, IsErrOf, inl, inr, refl, sym, ◌∙◌, ap, subst, length}
use Rattle.mld_io.specs.Arm.{Meter}
use Rattle.mld_io.specs.Disk.{Log}
use Rattle.mld_ops.specs.declared.messages.Give.{Give}
use Rattle.mld_ops.specs.declared.messages.Message.{Message}
use Rattle.mld_ops.specs.declared.messages.Message.TheVariants as kind
use Rattle.mld_ops.specs.Messages.{MessageValue, CarriesWant, give_value}
use Rattle.node_model.specs.journal_store.declared.faults.Why.{Why}
use Rattle.node_model.specs.journal_store.declared.faults.Why.TheVariants as reasons
use Rattle.mld_model.specs.Local.{LocalClone, joined_clone}
use Rattle.node_model.specs.clone_parts.KeptSteps.{KeptStep, Created, Forked, appends}
use Rattle.node_model.specs.clone_parts.declared.answers.Got.{Got}
use Rattle.node_model.specs.clone_parts.declared.answers.Got.TheVariants as got
use Rattle.node_model.specs.clone_parts.declared.faults.ReceiveFault.{ReceiveFault}
use Rattle.node_model.specs.clone_parts.declared.faults.ReceiveFault.TheVariants as fault
use Rattle.node_model.specs.clone_core.Banked.{BankedClone, BankedAsker, KeepsClone, head_of}
use Rattle.node_model.specs.clone_core.CloneCalls.{LocallyReceives, Refuses}
use Rattle.node_model.specs.clone_core.CloneClosing.{LeavesClone, ShutsClone, receive_stop}
use Rattle.node_model.specs.clone_core.Due.{IsDueMessage, IsSwapDue, IsMessageSpent}
use Rattle.node_model.specs.clone_core.DurableCalls.{Changes, LeavesFronts, MessageSteps, ReceivedSteps, WouldReceive, merged_steps, Creates}
use Rattle.node_model.specs.clone_core.Joining.{IsGiveFor}
use Rattle.node_model.specs.clone_core.Merging.{StaysOpenBy}
use Rattle.node_model.specs.shell_session.Shells.{generation_after}
use Rattle.node_model.specs.shell_session.declared.commands.ShellCommand.{ShellCommand}
use Rattle.node_model.specs.shell_session.ShellStep.{IsLast, LiveStep, IsDueLive}
use Rattle.node_model.specs.shell_session.SessionLines.{LeavesFrontOfDue}
use Rattle.node_model.specs.shell_session.LiveCalls.{CloneAnswers, CloneLeavesFrontOfDue}
use Rattle.wire_frames.specs.Frames.{frames_bytes}
use Rattle.wire_frames.specs.MessageParts.{reply_parts}
use Rattle.node_model.specs.declared.requests.Request.{Request}
use Rattle.node_model.specs.declared.requests.Request.TheVariants.{Command}
use Rattle.node_model.specs.RequestLines.{SpellsRequest}
use Rattle.node_model.specs.declared.connections.Connection.{Connection}
use Rattle.node_model.specs.Exchanges.{ExchangeValue, saying, telling, telling_peers_each}
use Rattle.node_model.specs.Keepers.{Keeper, Lives, Asks, keeper_found, keeper_domain, carried}
use Rattle.node_model.specs.Requests.{AnswersRequest, TakesRequest}
use Rattle.node_model.specs.NodeMessages.{StaysAsItIs, HasGenerationFor, HasReceived, LiveReceives, AskerReceives, joins, adopted_clone, sending_for}
use Rattle.node_model.proofs.StepLaws.{appended_generation}
use Rattle.node_core.specs.declared.faults.NodeFault.{NodeFault}
use Rattle.node_core.specs.declared.faults.NodeFault.TheVariants.{NoMemory}
use Rattle.node_core.specs.declared.states.NodeState.{NodeState}
use Rattle.node_core.specs.declared.states.NodeState.TheVariants as states
use Rattle.node_core.specs.NodeStates.{state_banks, state_banks_after, StateFailsOnDevice}
use Rattle.node_core.specs.LoanCalls.{GoesBy, GreetsClient, Replies, AppendsBehind, told_by, MayAnswer, MayBeSent, CarryTaken, HasSent}
use Rattle.node_core.specs.NodeDeeds.{NodeDoesBy, ReceivesOn, IsDueOfLive, IsDueByMessage}
use Rattle.node_model.proofs.of_shell_session.Moments.{same_front, fronts, made_front}
use Rattle.node_core.proofs.Moments.{kept_images}
use Rattle.node_core.proofs.CommandLaws.{carried_appends, carried_behind, none_lost, command_due, command_carried, command_behind, text_has_byte}

module _ {B : Type 0} (log : B → Option Log) (meter : B → Meter) (old : BankedClone B) where
  -- ---- a clone that goes on, and its node

  pub node_goes : (Rule : List KeptStep → Keeper → Type 0) (new : BankedClone B) → GoesBy log meter Rule old new
      → (new.closed ≡ None → (l : Log) → log new.banks ≡ Some l → KeepsClone new.local new.generation l)
      → NodeDoesBy (λ steps. Rule steps (Lives new.generation new.local)) log (states.Live old) (states.Live new)
  node_goes Rule new goes keeps = record {
    steps = goes.steps;
    does = goes.does;
    moments = fronts log meter goes.steps old new.banks goes.moments;
    settled = λ alike. kept_images new.local new.generation (log new.banks) (keeps goes.opened);
  }

  pub node_stops : (Due : List KeptStep → Type 0) (now : B) → CloneLeavesFrontOfDue log meter Due old now
      → LeavesFrontOfDue Due log (keeper_found (Lives old.generation old.local)) old.banks now
  node_stops Due now stops = record { steps = stops.steps; due = stops.due; moments = fronts log meter stops.steps old now stops.moments }

  -- ---- other words for a call

  pub goes_so : (One Other : List KeptStep → Keeper → Type 0) (new : BankedClone B)
      → ((steps : List KeptStep) (next : Keeper) → One steps next → Other steps next) → GoesBy log meter One old new → GoesBy log meter Other old new
  goes_so One Other new weaker goes =
      record { steps = goes.steps; does = weaker goes.steps (Lives new.generation new.local) goes.does; opened = goes.opened; moments = goes.moments }

  due_so : (One Other : List KeptStep → Type 0) → ((steps : List KeptStep) → One steps → Other steps) → (steps : List KeptStep)
      → (steps ≡ []) ⊎ One steps → (steps ≡ []) ⊎ Other steps
  due_so One Other weaker steps (inl none) = inl none
  due_so One Other weaker steps (inr due) = inr (weaker steps due)

  pub stops_so : (One Other : List KeptStep → Type 0) (now : B) → ((steps : List KeptStep) → One steps → Other steps)
      → CloneLeavesFrontOfDue log meter One old now → CloneLeavesFrontOfDue log meter Other old now
  stops_so One Other now weaker stops =
      record { steps = stops.steps; due = due_so One Other weaker stops.steps stops.due; moments = stops.moments }

  -- nothing was done
  pub nothing_goes : (Rule : List KeptStep → Keeper → Type 0) → old.closed ≡ None → Rule [] (Lives old.generation old.local) → GoesBy log meter Rule old old
  nothing_goes Rule opened does = record { steps = []; does = does; opened = opened; moments = refl }

  pub nothing_stops : (Due : List KeptStep → Type 0) → CloneLeavesFrontOfDue log meter Due old old.banks
  nothing_stops Due = record { steps = []; due = inl refl; moments = refl }

  -- ---- a command

  module _ (new : BankedClone B) (command : ShellCommand) (text : List ℕ) where
    -- it was done, and its text was added to none
    abbrev pub Does : Type 0
    Does = CloneAnswers log meter (LiveStep old.generation old.local command) old [] new text

    pub command_puts : (kept : ℕ) → kept ≡ length old.local.entries → Does → AppendsBehind command kept new.local.entries
    command_puts kept same does =
        let goes = does.goes_on in
        subst (λ (n : ℕ). AppendsBehind command n new.local.entries) (sym same)
        (command_behind old.generation old.local command does.reply goes.steps new.local goes.does)

    pub command_text : Does → 1 ≤ length text
    command_text does = subst (λ (bytes : List ℕ). 1 ≤ length bytes) (sym does.written) (text_has_byte does.reply)

    pub command_goes : (kept number : ℕ) (before middle after : ExchangeValue) → kept ≡ length old.local.entries → Does
        → middle ≡ telling_peers_each (told_by command kept new.local.entries) before → after ≡ saying number (frames_bytes (reply_parts text)) middle
        → GoesBy log meter (λ steps next. Replies (Lives old.generation old.local) (Command command) number before steps next after) old new
    command_goes kept number before middle after same does tells says =
        let goes = does.goes_on in
        let carries = command_carried old.generation old.local command does.reply goes.steps new.local goes.does in
        record {
          steps = goes.steps;
          does = record {
            text = text;
            middle = middle;
            answers = record {
              reply = does.reply;
              new = new.local;
              does = goes.does;
              replies = does.written;
              becomes = ap (λ (n : ℕ). Lives n new.local) goes.counts;
              tells = tells ∙ ap (λ (n : ℕ). telling_peers_each (told_by command n new.local.entries) before) same
                  ∙ sym (ap (λ (messages : List MessageValue). telling_peers_each messages before) carries);
            };
            replies = says;
          };
          opened = goes.opened;
          moments = goes.moments;
        }

    pub command_stops : Does → CloneLeavesFrontOfDue log meter (IsDueLive old.generation old.local command) old new.banks
    command_stops does =
        let goes = does.goes_on in
        record {
          steps = goes.steps;
          due = command_due old.generation old.local command does.reply goes.steps new.local goes.does;
          moments = goes.moments;
        }

-- ---- what a call answers

pub on_ok : {T E P Q : Type 0} (result : Result T E) → (P → Q) → OnOk result P → OnOk result Q
on_ok (Ok value) weaker holds = weaker holds
on_ok (Err refused) weaker holds = tt

pub on_err : {T E Q : Type 0} (result : Result T E) → Q → OnErr result Q
on_err (Ok value) holds = tt
on_err (Err refused) holds = holds

pub on_err_as : {T E P Q : Type 0} (result : Result T E) → (P → Q) → OnErr result P → OnErr result Q
on_err_as (Ok value) weaker holds = tt
on_err_as (Err refused) weaker holds = weaker holds

-- ---- requests

-- a request that was read of a connection that was greeted, and answered
pub takes_request : (keeper : Keeper) (one : Connection) (line : List ℕ) (before : ExchangeValue) (request : Request) (number : ℕ) (middle : ExchangeValue)
    (after : ExchangeValue) → SpellsRequest (keeper_domain keeper) line request → GreetsClient one before number middle
    → (steps : List KeptStep) (next : Keeper) → Replies keeper request number middle steps next after → TakesRequest keeper one line before steps next after
takes_request keeper one line before request number middle after spells greets steps next replies = record {
  request = request;
  spells = spells;
  text = replies.text;
  middle = replies.middle;
  answers = subst (λ (m : ExchangeValue). AnswersRequest keeper request m replies.text steps next replies.middle) greets.holds replies.answers;
  replies = subst (λ (n : ℕ). after ≡ saying n (frames_bytes (reply_parts replies.text)) replies.middle) greets.same replies.replies;
}

-- ---- messages to a live clone

module _ {B : Type 0} (log : B → Option Log) (meter : B → Meter) (old new : BankedClone B) where
  -- what is known once a message was received so, by these durable steps
  pub record ReceivedSo (answer : Got) (steps : List KeptStep) : Type 0 where
    pub opened : new.closed ≡ None
    pub counts : new.generation ≡ generation_after steps old.generation
    pub carry : CarryTaken answer (length old.local.entries) new.local.entries steps
    pub may : MayAnswer answer (length old.local.entries) new.local.entries

  counts_so : (steps made : List KeptStep) → steps ≡ made → new.generation ≡ generation_after made old.generation
      → new.generation ≡ generation_after steps old.generation
  counts_so steps made same counts = counts ∙ sym (ap (λ (s : List KeptStep). generation_after s old.generation) same)

  pub received_so : (sent : Message) (answer : Got) (steps : List KeptStep) → LocallyReceives old.local sent answer new.local
      → ReceivedSteps sent answer old.local new.local steps → StaysOpenBy old new answer → ReceivedSo answer steps
  received_so (kind.Range entry) got.Known steps received made stays =
      record { opened = stays.opened; counts = counts_so steps [] made stays.generation; carry = tt; may = tt }
  received_so (kind.Range entry) (got.Took ranges) steps received made stays = record {
    opened = stays.opened;
    counts = counts_so steps (appends made.0) made.2 (stays.generation ∙ sym (appended_generation made.0 old.generation));
    carry = carried_behind old.local.entries new.local.entries made.0 steps made.1 made.2;
    may = none_lost old.local.entries new.local.entries made.0 made.1;
  }
  received_so (kind.Range entry) got.Held steps received made stays =
      record { opened = stays.opened; counts = counts_so steps [] made stays.generation; carry = tt; may = tt }
  received_so (kind.Range entry) answer steps received made stays = absurd received.1
  received_so (kind.JoinAsk id) got.Ignored steps received made stays =
      record { opened = stays.opened; counts = counts_so steps [] made stays.generation; carry = tt; may = tt }
  received_so (kind.JoinAsk id) (got.Answer messages) steps received made stays =
      record { opened = stays.opened; counts = counts_so steps (Forked ∷ []) made stays.generation; carry = tt; may = tt }
  received_so (kind.JoinAsk id) answer steps received made stays = absurd received
  received_so (kind.Want clock) got.Nothing steps received made stays =
      record { opened = stays.opened; counts = counts_so steps [] made stays.generation; carry = tt; may = tt }
  received_so (kind.Want clock) (got.Answer messages) steps received made stays =
      record { opened = stays.opened; counts = counts_so steps [] made stays.generation; carry = tt; may = tt }
  received_so (kind.Want clock) answer steps received made stays = absurd received
  received_so (kind.Snapshot snapshot) got.Known steps received made stays =
      record { opened = stays.opened; counts = counts_so steps [] made stays.generation; carry = tt; may = tt }
  received_so (kind.Snapshot snapshot) (got.Merged ranges) steps received made stays = record {
    opened = stays.opened;
    counts = counts_so steps (merged_steps new.local) made (stays.generation ∙ sym (appended_generation new.local.entries (old.generation + 1)));
    carry = ap carried made ∙ carried_appends new.local.entries;
    may = tt;
  }
  received_so (kind.Snapshot snapshot) answer steps received made stays = absurd received.1
  received_so (kind.JoinGive give) got.Ignored steps received made stays =
      record { opened = stays.opened; counts = counts_so steps [] made stays.generation; carry = tt; may = tt }
  received_so (kind.JoinGive give) answer steps received made stays = absurd cc

  -- ---- what was due

  -- what the call says of the last generation
  abbrev pub SpentBy : Message → Result Got ReceiveFault → Type 0
  SpentBy sent result = IsErrOf result fault.GenerationsSpent ↔ (IsMessageSpent old sent × ¬ IsErrOf result fault.NoMemory)

  -- a generation was left for a merge
  left_for : (answer : Got) → StaysOpenBy old new answer → HasGenerationFor answer old.generation
  left_for (got.Merged ranges) stays = stays.left
  left_for answer stays = tt

  -- what was made was due
  made_due : (sent : Message) (answer : Got) (steps : List KeptStep) → LocallyReceives old.local sent answer new.local
      → ReceivedSteps sent answer old.local new.local steps → StaysOpenBy old new answer → (steps ≡ []) ⊎ IsDueOfLive old.generation old.local sent steps
  made_due (kind.Range entry) (got.Took ranges) steps received made stays =
      inr (record { has = record { own = received.0; ready = received.1.ready }; would = (new.local, ranges, received.1, made) })
  made_due (kind.JoinAsk id) (got.Answer messages) steps received made stays =
      inr (record { has = record { other = received.0; room = received.1.2.room }; would = made })
  made_due (kind.Snapshot snapshot) (got.Merged ranges) steps received made stays =
      inr (record {
        has = record { due = record { own = received.0; lacks = received.1.lacks }; left = stays.left };
        would = (new.local, ranges, received.1, made);
      })
  made_due sent answer steps received made stays = inl made

  -- no generation was left
  spent_last : (sent : Message) → IsMessageSpent old sent → IsLast old.generation
  spent_last (kind.Snapshot snapshot) spent = spent.last
  spent_last sent spent = absurd spent

  module _ (sent : Message) where
    -- what the call of the clone ensures
    abbrev pub Received : Result Got ReceiveFault → Type 0
    Received result = IfOk result (λ answer. LocallyReceives old.local sent answer new.local)

    abbrev pub Stays : Result Got ReceiveFault → Type 0
    Stays result = IfOk result (StaysOpenBy old new)

    abbrev pub Spent : Result Got ReceiveFault → Type 0
    Spent result = SpentBy sent result

    abbrev pub Closes : Result Got ReceiveFault → Type 0
    Closes result = (why : Why) → IsErrOf result (fault.Closed why) ↔ (old.closed ≡ Some why)

    abbrev pub Left : Result Got ReceiveFault → Type 0
    Left result = IfErr result (λ refused. LeavesClone log meter (IsDueMessage old sent) (IsSwapDue sent) old new (receive_stop refused))

    abbrev pub Durable : Result Got ReceiveFault → Type 0
    Durable result =
        (steps : List KeptStep) × MessageSteps old.local sent new.local result steps
        × Changes log meter steps old new.banks (IsOk result) (IsErrOf result fault.Device)

    -- ---- what may be sent

    pub may_be_sent : (result : Result Got ReceiveFault) → old.closed ≡ None → Received result → Stays result → Closes result → Durable result
        → MayBeSent result (length old.local.entries) new.local.entries
    may_be_sent (Ok answer) is_open received stays closes durable = (received_so sent answer durable.0 received durable.1 stays).may
    may_be_sent (Err (fault.Closed why)) is_open received stays closes durable = absurd (never_closed why (closes why).0 is_open) where
      never_closed : (reason : Why) → (IsErrOf {T = Got} (Err (fault.Closed reason)) (fault.Closed reason) → old.closed ≡ Some reason) → old.closed ≡ None → ⊥
      never_closed reason closed open' = let e = closed refl in absurd (cc (e, open'))
    may_be_sent (Err fault.HeldFull) is_open received stays closes durable = tt
    may_be_sent (Err (fault.ForeignTick said own)) is_open received stays closes durable = tt
    may_be_sent (Err fault.Deep) is_open received stays closes durable = tt
    may_be_sent (Err fault.GenerationsSpent) is_open received stays closes durable = tt
    may_be_sent (Err fault.Device) is_open received stays closes durable = tt
    may_be_sent (Err fault.NoMemory) is_open received stays closes durable = tt

    -- ---- what was sent

    module _ (before after : ExchangeValue) where
      abbrev Receiving : List KeptStep → Keeper → Type 0
      Receiving steps next = LiveReceives old.generation old.local sent before steps next after

      refused_goes : (refused : ReceiveFault) → new ≡ old → HasReceived old.generation old.local sent (Err refused) [] new.local
          → after ≡ sending_for (Err refused) [] new.local.ticks before → old.closed ≡ None → GoesBy log meter Receiving old new
      refused_goes refused same received sends is_open = record {
        steps = [];
        does = record {
          result = Err refused;
          new = new.local;
          received = received;
          becomes = ap (λ (clone : BankedClone B). Lives clone.generation new.local) same;
          sends = sends;
        };
        opened = ap (λ (clone : BankedClone B). clone.closed) same ∙ is_open;
        moments = ap (λ (clone : BankedClone B). clone.banks) same;
      }

      stays_as_it_is : {Cause : Type 0} → new ≡ old → Cause → StaysAsItIs Cause old.local [] new.local
      stays_as_it_is same cause = record { cause = cause; none = refl; same = ap (λ (clone : BankedClone B). clone.local) same }

      pub receive_goes : (result : Result Got ReceiveFault) → old.closed ≡ None → Received result → Stays result → IfErr result (Refuses old.local sent)
          → Spent result → Left result → Durable result → HasSent result (length old.local.entries) new.local before after
          → GoesBy log meter Receiving old new
      receive_goes (Ok answer) is_open received stays refuses spent left durable has_sent =
          let so = received_so sent answer durable.0 received durable.1 stays in
          record {
            steps = durable.0;
            does = record {
              result = Ok answer;
              new = new.local;
              received = (received, durable.1, left_for answer stays);
              becomes = ap (λ (n : ℕ). Lives n new.local) so.counts;
              sends = has_sent durable.0 so.carry;
            };
            opened = so.opened;
            moments = durable.2.moments;
          }
      receive_goes (Err (fault.ForeignTick said own)) is_open received stays refuses spent left durable has_sent =
          refused_goes (fault.ForeignTick said own) left (stays_as_it_is left refuses) has_sent is_open
      receive_goes (Err fault.HeldFull) is_open received stays refuses spent left durable has_sent =
          refused_goes fault.HeldFull left (stays_as_it_is left refuses) has_sent is_open
      receive_goes (Err fault.Deep) is_open received stays refuses spent left durable has_sent =
          refused_goes fault.Deep left (stays_as_it_is left refuses) has_sent is_open
      receive_goes (Err fault.GenerationsSpent) is_open received stays refuses spent left durable has_sent =
          refused_goes fault.GenerationsSpent left (stays_as_it_is left (refuses, spent_last sent (spent.0 refl).0)) has_sent is_open
      receive_goes (Err (fault.Closed why)) is_open received stays refuses spent left durable has_sent = absurd has_sent
      receive_goes (Err fault.Device) is_open received stays refuses spent left durable has_sent = absurd has_sent
      receive_goes (Err fault.NoMemory) is_open received stays refuses spent left durable has_sent = absurd has_sent

    -- ---- or not

    left_stops : (Due : List KeptStep → Type 0) → new ≡ old → CloneLeavesFrontOfDue log meter Due old new.banks
    left_stops Due same = record { steps = []; due = inl refl; moments = ap (λ (clone : BankedClone B). clone.banks) same }

    -- for want of memory
    memory_stops : (steps : List KeptStep) → (new ≡ old) ⊎ ShutsClone log meter (IsDueMessage old sent) (IsSwapDue sent) old reasons.NoMemory new
        → (steps ≡ []) ⊎ WouldReceive old.local sent steps → LeavesFronts log meter steps old new.banks
        → CloneLeavesFrontOfDue log meter (IsDueByMessage (Lives old.generation old.local) sent) old new.banks
    memory_stops steps (inl same) would moments = left_stops (IsDueByMessage (Lives old.generation old.local) sent) same
    memory_stops steps (inr shuts) would moments = record {
      steps = steps;
      due = due_so log meter old (WouldReceive old.local sent) (IsDueByMessage (Lives old.generation old.local) sent)
          (λ made would_make. record { has = shuts.due; would = would_make }) steps would;
      moments = moments;
    }

    pub receive_stops : (result : Result Got ReceiveFault) → Received result → Stays result → Left result → Durable result
        → CloneLeavesFrontOfDue log meter (IsDueByMessage (Lives old.generation old.local) sent) old new.banks
    receive_stops (Ok answer) received stays left durable =
        record { steps = durable.0; due = made_due sent answer durable.0 received durable.1 stays; moments = durable.2.moments }
    receive_stops (Err (fault.ForeignTick said own)) received stays left durable = left_stops (IsDueByMessage (Lives old.generation old.local) sent) left
    receive_stops (Err fault.HeldFull) received stays left durable = left_stops (IsDueByMessage (Lives old.generation old.local) sent) left
    receive_stops (Err fault.Deep) received stays left durable = left_stops (IsDueByMessage (Lives old.generation old.local) sent) left
    receive_stops (Err fault.GenerationsSpent) received stays left durable = left_stops (IsDueByMessage (Lives old.generation old.local) sent) left
    receive_stops (Err (fault.Closed why)) received stays left durable = left_stops (IsDueByMessage (Lives old.generation old.local) sent) left
    receive_stops (Err fault.Device) received stays left durable =
        record { steps = durable.0; due = inr (record { has = left.due; would = durable.1 }); moments = durable.2.moments }
    receive_stops (Err fault.NoMemory) received stays left durable = memory_stops durable.0 left durable.1 durable.2.moments

-- ---- messages to one who asks

module _ {B : Type 0} (log : B → Option Log) (meter : B → Meter) (old : BankedAsker B) where
  abbrev created : Give → List KeptStep
  created give = Created (head_of (adopted_clone old.asker give)) ∷ []

  -- a clone was made, and the giver was asked
  pub joined_node : (sent : Message) (new : BankedClone B) (before after : ExchangeValue) (give : Give) → IsGiveFor old.asker sent give
      → new.local ≡ joined_clone old.asker (give_value give) → new.generation ≡ 1 → {Whole Failed : Type 0}
      → Creates log meter (head_of (joined_clone old.asker (give_value give))) old.banks new.banks Whole Failed
      → ((l : Log) → log new.banks ≡ Some l → KeepsClone new.local new.generation l) → after ≡ telling (CarriesWant new.local.ticks) before
      → ReceivesOn log sent (states.Asking old) before (states.Live new) after
  joined_node sent new before after give is local generation creates keeps tells = record {
    steps = created give;
    does =
        subst (λ (e : ExchangeValue). AskerReceives old.asker sent before (created give) (Lives new.generation new.local) e)
        (sym (tells ∙ ap (λ (clone : LocalClone). telling (CarriesWant clone.ticks) before) local))
        (subst (λ (n : ℕ). AskerReceives old.asker sent before (created give) (Lives n new.local) (telling (CarriesWant (adopted_clone old.asker give).ticks) before))
        (sym generation)
        (subst (λ (clone : LocalClone). AskerReceives old.asker sent before (created give) (Lives 1 clone) (telling (CarriesWant (adopted_clone old.asker give).ticks) before))
        (sym local) (joins give is)));
    moments = made_front log meter (created give) old.banks new.banks creates.moments;
    settled = λ alike. kept_images new.local new.generation (log new.banks) keeps;
  }

  -- or it was not told, or not made
  pub joined_stops : (sent : Message) (now : B) (give : Give) → IsGiveFor old.asker sent give → {Whole Failed : Type 0}
      → Creates log meter (head_of (joined_clone old.asker (give_value give))) old.banks now Whole Failed
      → LeavesFrontOfDue (IsDueByMessage (Asks old.asker) sent) log (keeper_found (Asks old.asker)) old.banks now
  joined_stops sent now give is creates = record {
    steps = created give;
    due = inr (give, is, refl);
    moments = made_front log meter (created give) old.banks now creates.moments;
  }

  -- it goes on asking
  pub asks_on : (Rule : List KeptStep → Type 0) → Rule [] → NodeDoesBy Rule log (states.Asking old) (states.Asking old)
  asks_on Rule does = record {
    steps = [];
    does = does;
    moments = same_front (keeper_found (Asks old.asker)) [] (log old.banks) (log old.banks) refl;
    settled = λ alike. alike;
  }

  pub asks_stops : (Due : List KeptStep → Type 0) (now : B) → now ≡ old.banks → LeavesFrontOfDue Due log (keeper_found (Asks old.asker)) old.banks now
  asks_stops Due now same =
      record { steps = []; due = inl refl; moments = same_front (keeper_found (Asks old.asker)) [] (log old.banks) (log now) (ap log same) }

-- ---- what was handed on

-- the banks of what began to live, whatever it answered
pub begun_banks : {B : Type 0} (result : Result (NodeState B) (NodeFault × B)) (clone : BankedClone B) → IfOk result (λ next. next ≡ states.Live clone)
    → IfErr result (λ refused. (refused.0 ≡ NoMemory) × (refused.1 ≡ clone.banks)) → state_banks_after result ≡ clone.banks
begun_banks (Ok next) clone same back = ap (λ (s : NodeState _). state_banks s) same
begun_banks (Err refused) clone same back = back.1

-- the device didn't fail
pub begun_fine : {B : Type 0} (result : Result (NodeState B) (NodeFault × B)) (clone : BankedClone B)
    → IfErr result (λ refused. (refused.0 ≡ NoMemory) × (refused.1 ≡ clone.banks)) → ¬ StateFailsOnDevice result
begun_fine (Ok next) clone back = λ fails. fails
begun_fine (Err refused) clone back = λ fails. absurd (cc (fails, back.0))

-- what holds of an answer
pub handed_on : {S E W : Type 0} (P : S → Type 0) (result : Result S E) (session : S) → IfOk result (λ next. next ≡ session) → IfOk result (λ next. W)
    → (W → P session) → IfOk result P
handed_on P (Ok next) session same told holds = subst P (sym same) (holds told)
handed_on P (Err refused) session same told holds = tt

-- and of the banks that were given back
pub given_back : {S B : Type 0} (P : B → Type 0) (result : Result S (NodeFault × B)) (banks : B)
    → IfErr result (λ refused. (refused.0 ≡ NoMemory) × (refused.1 ≡ banks)) → P banks → IfErr result (λ refused. P refused.1)
given_back P (Ok next) banks back holds = tt
given_back P (Err refused) banks back holds = subst P (sym back.1) holds
