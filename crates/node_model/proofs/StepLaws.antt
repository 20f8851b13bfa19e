-- What is found on the banks of a node after a step, after frames, after an event and after a run.
use Rattle.std.proofs.Common.{◌≡◌, ℕ, ◌+◌, List, [], ◌∷◌, ◌++◌, Option, None, Some, Result, Ok, Err, inl, inr, refl, sym, ◌∙◌, ap, subst, append-nil, append_assoc}
use Rattle.mld_io.specs.declared.events.Event.{Event}
use Rattle.mld_io.specs.declared.events.Event.TheVariants.{Opened, Bytes, Shut, End}
use Rattle.mld_io.specs.declared.events.WireCall.TheVariants as call
use Rattle.mld_ops.specs.Entry.{EntryValue}
use Rattle.mld_ops.specs.declared.messages.Message.{Message}
use Rattle.mld_ops.specs.declared.messages.Message.TheVariants as kind
use Rattle.shell_session.specs.journal_sides.Heads.{HeadValue}
use Rattle.mld_model.specs.Local.{LocalClone, LocalAsker, LocallyHolds}
use Rattle.shell_session.specs.clone_parts.KeptSteps.{KeptStep, appends}
use Rattle.shell_session.specs.clone_parts.declared.answers.Got.{Got}
use Rattle.shell_session.specs.clone_parts.declared.answers.Got.TheVariants as got
use Rattle.shell_session.specs.clone_parts.declared.faults.ReceiveFault.{ReceiveFault}
use Rattle.shell_session.specs.clone_parts.declared.faults.ReceiveFault.TheVariants as fault
use Rattle.shell_session.specs.clone_core.Banked.{head_of}
use Rattle.shell_session.specs.clone_core.CloneCalls.{LocallyReceives}
use Rattle.shell_session.specs.clone_core.DurableCalls.{ReceivedSteps, merged_steps}
use Rattle.shell_session.specs.Shells.{Stored, found_after, generation_after}
use Rattle.shell_session.proofs.RunLaws.{live_step, live_found, found_both, same_head}
use Rattle.wire_frames.specs.declared.kinds.Frame.{Frame}
use Rattle.wire_frames.specs.declared.kinds.Frame.TheVariants.{Hello, Part, Request}
use Rattle.node_model.specs.declared.requests.Request.TheVariants as request
use Rattle.node_model.specs.declared.requests.Request.{Request as RequestValue}
use Rattle.node_model.specs.declared.connections.Connection.{Connection}
use Rattle.node_model.specs.declared.connections.Role.{Role}
use Rattle.node_model.specs.declared.connections.Role.TheVariants as role
use Rattle.node_model.specs.declared.connections.Sent.{Sent}
use Rattle.node_model.specs.Connections.{connection_of, as_client, without}
use Rattle.node_model.specs.Exchanges.{ExchangeValue, holding}
use Rattle.wire_frames.specs.MessageParts.{AssemblyValue}
use Rattle.node_model.specs.Keepers.{Keeper, Lives, Asks, keeper_found}
use Rattle.node_model.specs.Requests.{NodeOnlyReplies, AnswersRequest, TakesRequest}
use Rattle.node_model.specs.NodeMessages.{StaysAsItIs, HasReceived, AskerReceives, joins, ignores, Receives}
use Rattle.node_model.specs.FrameSteps.{KeepsAll, with_parts, ReceivesPart, waits, is_whole, is_bad, FrameStepAs, FramesStep, no_more, are_dropped, and_then}
use Rattle.node_model.specs.Events.{NodeValue, beginning, PieceStep, NodeStep, log_after}
use Rattle.node_model.specs.NodeLaws.{NodeStepsLead}

-- ---- a live clone

-- entries that are appended come behind those that are kept
pub appended_found : (taken : List EntryValue) (generation : ℕ) (head : HeadValue) (entries : List EntryValue)
    → found_after (appends taken) (Stored generation head entries) ≡ Stored generation head (entries ++ taken)
appended_found [] generation head entries = ap (λ (all : List EntryValue). Stored generation head all) (sym (append-nil entries))
appended_found (entry ∷ taken) generation head entries =
    appended_found taken generation head (entries ++ entry ∷ [])
    ∙ ap (λ (all : List EntryValue). Stored generation head all) (append_assoc entries (entry ∷ []) taken)

-- no append is a swap
pub appended_generation : (taken : List EntryValue) (generation : ℕ) → generation_after (appends taken) generation ≡ generation
appended_generation [] generation = refl
appended_generation (entry ∷ taken) generation = appended_generation taken generation

module _ (generation : ℕ) (old new : LocalClone) where
  -- what is found then is what the durable steps make of what was found
  abbrev LeadsBy : List KeptStep → Type 0
  LeadsBy steps = Stored (generation_after steps generation) (head_of new) new.entries ≡ found_after steps (Stored generation (head_of old) old.entries)

  -- none were made
  none_leads : (steps : List KeptStep) → steps ≡ [] → Stored generation (head_of new) new.entries ≡ Stored generation (head_of old) old.entries → LeadsBy steps
  none_leads steps none same = subst LeadsBy (sym none) same

  same_leads : (steps : List KeptStep) → steps ≡ [] → new ≡ old → LeadsBy steps
  same_leads steps none same = none_leads steps none (ap (λ (clone : LocalClone). Stored generation (head_of clone) clone.entries) same)

  -- entries were taken
  taken_leads : (steps : List KeptStep) (taken : List EntryValue) → head_of new ≡ head_of old → new.entries ≡ old.entries ++ taken → steps ≡ appends taken → LeadsBy steps
  taken_leads steps taken head entries made =
      subst LeadsBy (sym made)
      ((λ i. Stored (appended_generation taken generation i) (head i) (entries i)) ∙ sym (appended_found taken generation (head_of old) old.entries))

  -- an entry is held back
  held_leads : (entry : EntryValue) (steps : List KeptStep) → steps ≡ [] → LocallyHolds old entry new → LeadsBy steps
  held_leads entry steps none (inl known) = same_leads steps none known.1
  held_leads entry steps none (inr held) = same_as steps none held.2 where
    same_as : (made : List KeptStep) → made ≡ [] → new ≡ record old { held = old.held ++ entry ∷ [] } → LeadsBy made
    same_as made none' same = none_leads made none' (ap (λ (clone : LocalClone). Stored generation (head_of clone) clone.entries) same)

  -- a snapshot was merged
  merged_leads : LeadsBy (merged_steps new)
  merged_leads =
      ap (λ (number : ℕ). Stored number (head_of new) new.entries) (appended_generation new.entries (generation + 1))
      ∙ sym (appended_found new.entries (generation + 1) (head_of new) [])

-- a message was received
received_leads : (generation : ℕ) (old new : LocalClone) (sent : Message) (answer : Got) (steps : List KeptStep) → LocallyReceives old sent answer new
    → ReceivedSteps sent answer old new steps → LeadsBy generation old new steps
received_leads generation old new (kind.Range entry) got.Known steps received made = same_leads generation old new steps made received.1.1
received_leads generation old new (kind.Range entry) (got.Took ranges) steps received made =
    taken_leads generation old new steps made.0 (same_head old new received.1.same) made.1 made.2
received_leads generation old new (kind.Range entry) got.Held steps received made = held_leads generation old new entry steps made received.1.1
received_leads generation old new (kind.Range entry) answer steps received made = absurd received.1
received_leads generation old new (kind.JoinAsk id) got.Ignored steps received made = same_leads generation old new steps made received.1
received_leads generation old new (kind.JoinAsk id) (got.Answer messages) steps received made =
    subst (λ (s : List KeptStep). LeadsBy generation old new s) (sym made)
    (ap (λ (clone : LocalClone). Stored generation (head_of clone) clone.entries) received.1.2.left)
received_leads generation old new (kind.JoinAsk id) answer steps received made = absurd received
received_leads generation old new (kind.Want clock) got.Nothing steps received made = same_leads generation old new steps made received.1
received_leads generation old new (kind.Want clock) (got.Answer messages) steps received made = same_leads generation old new steps made received.1
received_leads generation old new (kind.Want clock) answer steps received made = absurd received
received_leads generation old new (kind.Snapshot snapshot) got.Known steps received made = same_leads generation old new steps made received.1.1
received_leads generation old new (kind.Snapshot snapshot) (got.Merged ranges) steps received made =
    subst (λ (s : List KeptStep). LeadsBy generation old new s) (sym made) (merged_leads generation old new)
received_leads generation old new (kind.Snapshot snapshot) answer steps received made = absurd received.1
received_leads generation old new (kind.JoinGive give) got.Ignored steps received made = same_leads generation old new steps made received.1
received_leads generation old new (kind.JoinGive give) answer steps received made = absurd cc

-- or refused
refused_leads : {Cause : Type 0} (generation : ℕ) (old new : LocalClone) (steps : List KeptStep) → StaysAsItIs Cause old steps new
    → LeadsBy generation old new steps
refused_leads generation old new steps stays = same_leads generation old new steps stays.none stays.same

result_leads : (generation : ℕ) (old new : LocalClone) (sent : Message) (result : Result Got ReceiveFault) (steps : List KeptStep)
    → HasReceived generation old sent result steps new → LeadsBy generation old new steps
result_leads generation old new sent (Ok answer) steps received = received_leads generation old new sent answer steps received.0 received.1
result_leads generation old new sent (Err (fault.ForeignTick said own)) steps received = refused_leads generation old new steps received
result_leads generation old new sent (Err fault.HeldFull) steps received = refused_leads generation old new steps received
result_leads generation old new sent (Err fault.Deep) steps received = refused_leads generation old new steps received
result_leads generation old new sent (Err fault.GenerationsSpent) steps received = refused_leads generation old new steps received
result_leads generation old new sent (Err (fault.Closed why)) steps received = absurd received
result_leads generation old new sent (Err fault.Device) steps received = absurd received
result_leads generation old new sent (Err fault.NoMemory) steps received = absurd received

-- ---- any node

-- what is found on the banks of the next is what the durable steps make of what was found on those of the first
abbrev Leads : Keeper → List KeptStep → Keeper → Type 0
Leads keeper steps next = keeper_found next ≡ found_after steps (keeper_found keeper)

-- none were made
nothing_leads : (keeper : Keeper) (steps : List KeptStep) (next : Keeper) → steps ≡ [] → next ≡ keeper → Leads keeper steps next
nothing_leads keeper steps next none same = subst (λ (s : List KeptStep). Leads keeper s next) (sym none) (ap keeper_found same)

replied_leads : {answer : List ℕ} (keeper : Keeper) (text : List ℕ) (steps : List KeptStep) (next : Keeper) → NodeOnlyReplies answer keeper text steps next
    → Leads keeper steps next
replied_leads keeper text steps next only = nothing_leads keeper steps next only.none only.same

kept_leads : (keeper : Keeper) (steps : List KeptStep) (next : Keeper) → KeepsAll keeper steps next → Leads keeper steps next
kept_leads keeper steps next kept = nothing_leads keeper steps next kept.none kept.same

-- a request was answered
answer_leads : (keeper : Keeper) (asked : RequestValue) (exchange : ExchangeValue) (text : List ℕ) (steps : List KeptStep) (next : Keeper) (after : ExchangeValue)
    → AnswersRequest keeper asked exchange text steps next after → Leads keeper steps next
answer_leads (Lives generation clone) request.Halt exchange text steps next after answers = replied_leads (Lives generation clone) text steps next answers.0
answer_leads (Lives generation clone) request.Bad exchange text steps next after answers = replied_leads (Lives generation clone) text steps next answers.0
answer_leads (Lives generation clone) request.Ask exchange text steps next after answers = replied_leads (Lives generation clone) text steps next answers.0
answer_leads (Lives generation clone) (request.Command command) exchange text steps next after answers =
    ap keeper_found answers.becomes
    ∙ live_found generation clone answers.new steps (live_step generation clone command answers.reply steps answers.new answers.does)
answer_leads (Asks asker) request.Halt exchange text steps next after answers = replied_leads (Asks asker) text steps next answers.0
answer_leads (Asks asker) request.Bad exchange text steps next after answers = replied_leads (Asks asker) text steps next answers.0
answer_leads (Asks asker) request.Ask exchange text steps next after answers = replied_leads (Asks asker) text steps next answers.0
answer_leads (Asks asker) (request.Command command) exchange text steps next after answers = replied_leads (Asks asker) text steps next answers.0

request_leads : (keeper : Keeper) (one : Connection) (line : List ℕ) (exchange : ExchangeValue) (steps : List KeptStep) (next : Keeper) (after : ExchangeValue)
    → TakesRequest keeper one line exchange steps next after → Leads keeper steps next
request_leads keeper one line exchange steps next after takes =
    answer_leads keeper takes.request (holding (as_client one) exchange) takes.text steps next takes.middle takes.answers

-- a message was received
asking_leads : (asker : LocalAsker) (sent : Message) (exchange : ExchangeValue) (steps : List KeptStep) (next : Keeper) (after : ExchangeValue)
    → AskerReceives asker sent exchange steps next after → Leads (Asks asker) steps next
asking_leads asker sent exchange steps next after (joins give is) = refl
asking_leads asker sent exchange steps next after (ignores none) = refl

message_leads : (keeper : Keeper) (sent : Message) (exchange : ExchangeValue) (steps : List KeptStep) (next : Keeper) (after : ExchangeValue)
    → Receives keeper sent exchange steps next after → Leads keeper steps next
message_leads (Lives generation clone) sent exchange steps next after receives =
    ap keeper_found receives.becomes ∙ result_leads generation clone receives.new sent receives.result steps receives.received
message_leads (Asks asker) sent exchange steps next after receives = asking_leads asker sent exchange steps next after receives

-- ---- frames

part_leads : (keeper : Keeper) (one : Connection) (assembly : AssemblyValue) (number index count : ℕ) (piece : List ℕ) (exchange : ExchangeValue)
    (steps : List KeptStep) (next : Keeper) (after : ExchangeValue) → ReceivesPart keeper one assembly number index count piece exchange steps next after
    → Leads keeper steps next
part_leads keeper one assembly number index count piece exchange steps next after (waits missing put assembles) = refl
part_leads keeper one assembly number index count piece exchange steps next after (is_whole sent put assembles made other done receives) =
    message_leads keeper sent (holding (with_parts put one) exchange) steps next after receives
part_leads keeper one assembly number index count piece exchange steps next after (is_bad put assembles) = refl

frame_leads : (kind : Role) (frame : Frame) (keeper : Keeper) (one : Connection) (exchange : ExchangeValue) (steps : List KeptStep) (next : Keeper) (after : ExchangeValue)
    → FrameStepAs kind frame keeper one exchange steps next after → Leads keeper steps next
frame_leads role.Fresh (Hello format id domain) keeper one exchange steps next after does = kept_leads keeper steps next does.0
frame_leads role.Fresh (Request line) keeper one exchange steps next after does = request_leads keeper one line exchange steps next after does
frame_leads role.Client (Request line) keeper one exchange steps next after does = request_leads keeper one line exchange steps next after does
frame_leads (role.Peer assembly) (Part number index count piece) keeper one exchange steps next after does =
    part_leads keeper one assembly number index count piece exchange steps next after does
frame_leads kind frame keeper one exchange steps next after does = kept_leads keeper steps next does.nothing

pub frames_lead : (keeper : Keeper) (frames : List Frame) (exchange : ExchangeValue) (steps : List KeptStep) (next : Keeper) (after : ExchangeValue)
    → FramesStep keeper frames exchange steps next after → Leads keeper steps next
frames_lead keeper frames exchange steps next after (no_more same_keeper same_exchange) = refl
frames_lead keeper frames exchange steps next after (are_dropped same_keeper same_frames same_exchange why) = refl
frames_lead keeper frames exchange steps next after (and_then was one frame behind now going at_hand first middle between does rest then end more) =
    frames_lead middle behind between rest next after more
    ∙ ap (found_after rest) (frame_leads one.role frame keeper one exchange first middle between does)
    ∙ sym (found_both first rest (keeper_found keeper))

-- ---- events

piece_leads : (one : Option Connection) (node : NodeValue) (piece : List ℕ) (sent : List Sent) (steps : List KeptStep) (next : NodeValue)
    → PieceStep one node piece sent steps next → Leads node.keeper steps next.keeper
piece_leads None node piece sent steps next does = nothing_leads node.keeper steps next.keeper does.none (ap (λ (n : NodeValue). n.keeper) does.becomes)
piece_leads (Some one) node piece sent steps next does =
    ap (λ (n : NodeValue). keeper_found n.keeper) does.becomes
    ∙ frames_lead node.keeper does.frames (beginning (record one { frames = does.reader }) (without one.number node.connections)) steps does.keeper does.middle does.does

event_leads : (node : NodeValue) (event : Event) (sent : List Sent) (steps : List KeptStep) (next : NodeValue) → NodeStep node event sent steps next
    → Leads node.keeper steps next.keeper
event_leads node (Opened number) sent steps next does = nothing_leads node.keeper steps next.keeper does.none (ap (λ (n : NodeValue). n.keeper) does.becomes)
event_leads node (Bytes number piece) sent steps next does = piece_leads (connection_of number node.connections) node piece sent steps next does
event_leads node (Shut number) sent steps next does = nothing_leads node.keeper steps next.keeper does.none (ap (λ (n : NodeValue). n.keeper) does.becomes)
event_leads node End sent steps next does = nothing_leads node.keeper steps next.keeper does.none (ap (λ (n : NodeValue). n.keeper) does.becomes)

pub node_steps_lead : NodeStepsLead
node_steps_lead node [] log steps next after runs = nothing_leads node.keeper steps next.keeper runs.0 (ap (λ (n : NodeValue). n.keeper) runs.1)
node_steps_lead node (event ∷ events) log steps next after (going, sent, first, rest, middle, does, more, whole) =
    node_steps_lead middle events (log_after sent (call.Took event ∷ log)) rest next after more
    ∙ ap (found_after rest) (event_leads node event sent first middle does)
    ∙ sym (found_both first rest (keeper_found node.keeper))
    ∙ sym (ap (λ (s : List KeptStep). found_after s (keeper_found node.keeper)) whole)
