-- What `deliver` does is the model's step.
use Rattle.std.proofs.Common.{◌≡◌, ◌≢◌, ℕ, zero, suc, ◌+◌, ◌-◌, List, [], ◌∷◌, ◌++◌, inl, inr, refl, sym, ◌∙◌, ap, arith, subst, length, map, set, Some, None, Option, Result, Ok, IfOk, OnOk}
use Rattle.std.specs.List.{range_with_len}
use Rattle.mld_ops.specs.Entry.{EntryValue}
use Rattle.mld_ops.specs.Messages.{GiveValue, MessageValue, CarriesEntry, CarriesWant, CarriesSnapshot, CarriesAsk, CarriesGive, SnapshotValue, give_value, message_value, snapshot_value, IsGoodMessage}
use Rattle.mld_ops.specs.declared.messages.Give.{Give}
use Rattle.mld_ops.specs.declared.messages.Message.{Message}
use Rattle.mld_ops.specs.declared.messages.Snapshot.{Snapshot}
use Rattle.mld_ops.specs.declared.messages.Message.TheVariants as kinds
use Rattle.mld_model.specs.declared.CloneState.TheVariants as states
use Rattle.mld_model.specs.World.{World, numbered}
use Rattle.mld_model.specs.Reply as model
use Rattle.mld_model.specs.Local.{LocalClone}
use Rattle.mld_model.specs.Sound.{IsSound}
use Rattle.mld_model.specs.StandsFor.{RunningClone, RunningWorld, StandsFor}
use Rattle.mld_model.proofs.StandsForLaws.{good_sent}
use Rattle.crash_laws.specs.schedule_model.declared.Command.TheVariants.{Deliver}
use Rattle.crash_laws.specs.schedule_model.WorldStep.{Follows, IsAwayReply, stepped_saying}
use Rattle.crash_laws.proofs.of_schedule_model.AskLaws.{want_nothing, want_answered, want_snapshot}
use Rattle.crash_laws.proofs.of_schedule_model.SnapshotLaws.{deliver_snapshot_known, deliver_merged, never_foreign_snapshot}
use Rattle.crash_laws.proofs.of_schedule_model.WorldLaws.{stepped, stepped_with, sent_message, never_foreign, deliver_nothing, deliver_missing, deliver_known, deliver_taken, deliver_held, deliver_held_already, deliver_full}
use Rattle.crash_laws.proofs.of_schedule_model.JoinLaws.{deliver_ask_own, deliver_deep, deliver_ask, deliver_give_live, deliver_joined, deliver_asking}
use Rattle.mld_io.specs.Arm.{Meter, Metered}
use Rattle.mld_io.specs.Disk.{Log}
use Rattle.crash_laws.specs.clone_core.Banked.{BankedAsker, BankedClone}
use Rattle.crash_laws.specs.clone_core.Wants.{SendsLacked, sends_entries, sends_snapshot}
use Rattle.tree_clock.specs.Clock.{ClockValue}
use Rattle.std.proofs.lemmas.List.{length-map}
use Rattle.crash_laws.specs.clone_core.Joining.{LocallyAdopts, banks_of_adopted, adopting_calls, AdoptsWhole, FailsToAdopt}
use Rattle.crash_laws.specs.clone_core.declared.askers.Adopted.{Adopted}
use Rattle.crash_laws.specs.clone_core.declared.askers.Adopted.TheVariants as adopted
use Rattle.world_commands.specs.declared.faults.WorldFault.{WorldFault}
use Rattle.world_commands.specs.declared.deliver.Received.{Received}
use Rattle.world_commands.specs.declared.deliver.Received.TheVariants as received
use Rattle.schedule_replies.specs.declared.replies.Reply.{Reply}
use Rattle.schedule_replies.specs.declared.replies.Reply.TheVariants as replies
use Rattle.world_commands.specs.declared.parts.Parts.{Parts}
use Rattle.mld_model.specs.LocalStep.{IsForeignTo}
use Rattle.world_commands.specs.Delivering.{IsFitFor, ReceivesLive, ReceivesAsking, StaysAway, IsToldOf, ReceivesAt, WhereAway, WhereLive, WhereAsking, SendsAnswers}
use Rattle.world_commands.specs.WorldParts.{running_of, HasStepLeft, Does}
use Rattle.schedule_replies.specs.Replies.{reply_value, numbers_between}
use Rattle.world_commands.specs.States.{HasState, Becomes, reply_of_state}
use Rattle.world_commands.specs.WorldBanks.{BankedState, in_memory, banks_of_state, memory_of, MeterGoesOn}
use Rattle.world_commands.specs.OneCall.{HasFaultsAt, is_first, IsCarried, IsCarriedAt}
use Rattle.world_commands.specs.Worlds.{Moves}
use Rattle.world_commands.proofs.Places.{set_again}
use Rattle.world_commands.proofs.BankLemmas.{memory_at, memory_becomes, goes_on, quiet_metered, faults_made}
use Rattle.world_commands.proofs.WorldLemmas.{after_step, moved, is_open, has_generation, does_carried, does_still}

-- the message of a number, where it is one
same_message : (running : RunningWorld) (number : ℕ) → numbered running.messages number ≡ sent_message running number
same_message running zero = refl
same_message running (suc before) = refl

-- the value of the message of a number
pub value_at : (messages : List Message) (number : ℕ) (what : Message) → numbered messages number ≡ Some what → numbered (map message_value messages) number ≡ Some (message_value what)
value_at messages zero what is = absurd (cc (is))
value_at [] (suc before) what is = absurd (cc (is))
value_at (first ∷ messages) (suc zero) what is = let same : first ≡ what = cc (is) in ap (λ (m : Message). Some (message_value m)) same
value_at (first ∷ messages) (suc (suc before)) what is = value_at messages (suc before) what is

-- and where there is none
pub no_value_at : (messages : List Message) (number : ℕ) → numbered messages number ≡ None → numbered (map message_value messages) number ≡ None
no_value_at messages zero none = refl
no_value_at [] (suc before) none = refl
no_value_at (first ∷ messages) (suc zero) none = absurd (cc (none))
no_value_at (first ∷ messages) (suc (suc before)) none = no_value_at messages (suc before) none

-- the snapshot of a message that was sent, where it has one, is good
good_at : (running : RunningWorld) (world : World) → StandsFor running world → IsSound world → (number : ℕ) (what : MessageValue) → sent_message running number ≡ Some what → IsGoodMessage what
good_at running world stands sound zero what is = absurd (cc (is))
good_at running world stands sound (suc before) what is = good_sent running world stands sound before what is

-- a message that was sent is foreign to no live clone
own_at : (running : RunningWorld) (world : World) → StandsFor running world → IsSound world → (message number : ℕ) (what : MessageValue) (live : LocalClone)
    → sent_message running message ≡ Some what → HasState running.clones number (states.Live live) → ¬ IsForeignTo live what
own_at running world stands sound message number (CarriesEntry entry) live is at = never_foreign running world stands sound message number entry live is at
own_at running world stands sound message number (CarriesSnapshot snapshot) live is at = never_foreign_snapshot running world stands sound message number snapshot live is at
own_at running world stands sound message number what live is at = λ foreign. foreign

-- each message of parts that stand for a sound world is fit for each clone
pub is_fit : {B : Type 0} (log : B → Option Log) (parts : Parts B) (message number : ℕ) (what : Message) → HasStepLeft log parts → numbered parts.messages.items message ≡ Some what
    → IsFitFor parts.clones.items number (message_value what)
is_fit log parts message number what left told =
    let running : RunningWorld = memory_of (running_of parts left.steps) in
    let world : World = left.standing.world in
    let stands : StandsFor running world = left.standing.stands.memory in
    let is : sent_message running message ≡ Some (message_value what) = sym (same_message running message) ∙ value_at parts.messages.items message what told in
    record {
      own = λ live live_is.
          own_at running world stands left.standing.sound message number (message_value what) live.local is
          (memory_at parts.clones.items number (states.Live live) live_is);
      opened = λ live live_is. is_open log parts number live left live_is;
      left = λ live live_is. has_generation log parts number live left live_is;
      good = good_at running world stands left.standing.sound message (message_value what) is;
    }

-- the reply of a clone that neither is live nor asks is that of its state
pub away_reply : {B : Type 0} (state : BankedState B) (reply : model.Reply) → reply ≡ reply_of_state (in_memory state) → ((live : BankedClone B) → state ≢ states.Live live)
    → ((asking : BankedAsker B) → state ≢ states.Asking asking) → IsAwayReply (in_memory state) reply
away_reply (states.Absent banks) reply is none quiet = is
away_reply (states.Asking asking) reply is none quiet = absurd (quiet asking refl)
away_reply (states.Down banks) reply is none quiet = is
away_reply (states.Live live) reply is none quiet = absurd (none live refl)

-- such a clone may be carried
pub away_carried : {B : Type 0} (clones : List (BankedState B)) (number : ℕ) (state : BankedState B) → HasState clones number state → ((live : BankedClone B) → state ≢ states.Live live)
    → IsCarried clones number state
away_carried clones number (states.Absent banks) at none = tt
away_carried clones number (states.Asking asking) at none = tt
away_carried clones number (states.Down banks) at none = at
away_carried clones number (states.Live live) at none = absurd (none live refl)

-- a live clone that is as it was
unchanged : (clones new : List RunningClone) (number : ℕ) (before after : LocalClone) → Becomes clones new number (states.Live before) (states.Live after) → after ≡ before → new ≡ clones
unchanged clones new number before after becomes same =
    becomes.now ∙ ap (λ (l : LocalClone). set clones number (states.Live l)) same ∙ set_again clones number (states.Live before) becomes.was

-- a message whose value gives a leaf is one that does
gives_as : (what : Message) (leaf : GiveValue) → message_value what ≡ CarriesGive leaf → (give : Give) × (what ≡ kinds.JoinGive give) × (give_value give ≡ leaf)
gives_as (kinds.JoinGive give) leaf same = (give, refl, cc (same))
gives_as (kinds.Range entry) leaf same = absurd (cc (same))
gives_as (kinds.Want clock) leaf same = absurd (cc (same))
gives_as (kinds.Snapshot snapshot) leaf same = absurd (cc (same))
gives_as (kinds.JoinAsk id) leaf same = absurd (cc (same))

module _ (running : RunningWorld) (message number : ℕ) (new : List RunningClone) (sent : List MessageValue) where
  -- the answer is the reply, and nothing is sent; or what it sends is sent, and the reply tells of that
  abbrev pub Tells : Received → Reply → Type 0
  Tells (received.Told told) reply = (reply ≡ told) × (sent ≡ running.messages)
  Tells (received.Sends answers) reply = SendsAnswers running.messages answers sent reply

  abbrev pub Ends : Reply → Type 0
  Ends reply = Moves running (Deliver message number) (reply_value reply) (after_step running new sent)

  -- an answer that leaves the clones as they were
  calm : (told reply : Reply) → (reply ≡ told) × (sent ≡ running.messages) → new ≡ running.clones → Moves running (Deliver message number) (reply_value told) (stepped running) → Ends reply
  calm told reply tells same moves =
      moved running (Deliver message number) (reply_value told) (reply_value reply) running.clones new running.messages sent (ap reply_value (sym tells.0)) (sym same) (sym tells.1) moves

  -- an answer by which one clone is another
  moving : (told reply : Reply) (now : LocalClone) → (reply ≡ told) × (sent ≡ running.messages) → new ≡ set running.clones number (states.Live now)
      → Moves running (Deliver message number) (reply_value told) (stepped_with running number now) → Ends reply
  moving told reply now tells same moves =
      moved running (Deliver message number) (reply_value told) (reply_value reply) (set running.clones number (states.Live now)) new running.messages sent (ap reply_value (sym tells.0)) (sym same) (sym tells.1) moves

  -- an answer of one message
  answering : (answers : List Message) (told : Message) (clones : List RunningClone) (reply : Reply) → answers ≡ told ∷ [] → SendsAnswers running.messages answers sent reply
      → new ≡ clones
      → Moves running (Deliver message number) (model.Answer ((length running.messages + 1) ∷ [])) (after_step running clones (running.messages ++ message_value told ∷ [])) → Ends reply
  answering answers told clones (replies.Answer first end) one sends same moves =
      let counted : end ≡ length running.messages + 2 = sends.2 ∙ ap (λ (f : ℕ). f + length answers) sends.1 ∙ ap (λ (a : List Message). length running.messages + 1 + length a) one ∙ omega arith in
      let few : end - first ≡ 1 = omega (arith, counted, sends.1) in
      let numbers : (length running.messages + 1) ∷ [] ≡ numbers_between first end = ap (λ (f : ℕ). f ∷ []) (sym sends.1) ∙ ap (λ (n : ℕ). range_with_len first n) (sym few) in
      moved running (Deliver message number) (model.Answer ((length running.messages + 1) ∷ [])) (model.Answer (numbers_between first end))
      clones new (running.messages ++ message_value told ∷ []) sent (ap (λ (n : List ℕ). model.Answer n) numbers) (sym same)
      (sym (sends.0 ∙ ap (λ (a : List Message). running.messages ++ map message_value a) one)) moves
  answering answers told clones reply one sends same moves = absurd sends

  -- a live clone answers an entry
  entry_answered : (entry : EntryValue) (answer : Received) (reply : Reply) (before after : LocalClone) → sent_message running message ≡ Some (CarriesEntry entry)
      → Becomes running.clones new number (states.Live before) (states.Live after) → ReceivesLive before (kinds.Range entry) after answer → Tells answer reply → Ends reply
  entry_answered entry (received.Told replies.Known) reply before after is becomes h told =
      calm replies.Known reply told (unchanged running.clones new number before after becomes h.1.1)
      (λ world stands sound. deliver_known running world stands sound message number entry before is becomes.was h.1.0)
  entry_answered entry (received.Told (replies.Took ranges)) reply before after is becomes h told =
      moving (replies.Took ranges) reply after told becomes.now
      (λ world stands sound. deliver_taken running world stands sound message number entry before after ranges is becomes.was h.1)
  entry_answered entry (received.Told replies.Held) reply before after is becomes h told = elim h.1.1 [
    | inl already ↦ calm replies.Held reply told (unchanged running.clones new number before after becomes already.1)
        (λ world stands sound. deliver_held_already running world stands sound message number entry before is becomes.was h.1.0 already.0)
    | inr holds ↦ moving replies.Held reply after told becomes.now
        (λ world stands sound. deliver_held running world stands sound message number entry before after is becomes.was h.1.0 holds.0 holds.1 holds.2)
  ]
  entry_answered entry (received.Told replies.HeldFull) reply before after is becomes h told =
      calm replies.HeldFull reply told (unchanged running.clones new number before after becomes h.1)
      (λ world stands sound. deliver_full running world stands sound message number entry before is becomes.was h.0.1 h.0.2)
  entry_answered entry (received.Told replies.Ignored) reply before after is becomes h told = absurd h.1
  entry_answered entry (received.Told replies.Nothing) reply before after is becomes h told = absurd h.1
  entry_answered entry (received.Told (replies.Merged ranges)) reply before after is becomes h told = absurd h.1
  entry_answered entry (received.Told replies.Deep) reply before after is becomes h told = absurd h.0
  entry_answered entry (received.Sends answers) reply before after is becomes h told = absurd h.1
  entry_answered entry answer reply before after is becomes h told = absurd h

  -- a live clone answers one who asks for a leaf
  ask_answered : (id : List ℕ) (answer : Received) (reply : Reply) (before after : LocalClone) → sent_message running message ≡ Some (CarriesAsk id)
      → Becomes running.clones new number (states.Live before) (states.Live after) → ReceivesLive before (kinds.JoinAsk id) after answer → Tells answer reply → Ends reply
  ask_answered id (received.Told replies.Ignored) reply before after is becomes h told =
      calm replies.Ignored reply told (unchanged running.clones new number before after becomes h.1)
      (λ world stands sound. deliver_ask_own running world stands sound message number id before is becomes.was h.0)
  ask_answered id (received.Sends answers) reply before after is becomes h told =
      answering answers (kinds.JoinGive h.1.0) (set running.clones number (states.Live after)) reply h.1.1 told becomes.now
      (λ world stands sound. deliver_ask running world stands sound message number id before after (give_value h.1.0) is becomes.was h.0 h.1.2)
  ask_answered id (received.Told replies.Deep) reply before after is becomes h told =
      calm replies.Deep reply told (unchanged running.clones new number before after becomes h.1)
      (λ world stands sound. deliver_deep running world stands sound message number id before is becomes.was h.0.0 (omega (arith, h.0.1)))
  ask_answered id (received.Told replies.HeldFull) reply before after is becomes h told = absurd h.0
  ask_answered id answer reply before after is becomes h told = absurd h

  -- a live clone takes no leaf
  give_answered : (give : Give) (answer : Received) (reply : Reply) (before after : LocalClone) → sent_message running message ≡ Some (CarriesGive (give_value give))
      → Becomes running.clones new number (states.Live before) (states.Live after) → ReceivesLive before (kinds.JoinGive give) after answer → Tells answer reply → Ends reply
  give_answered give (received.Told replies.Ignored) reply before after is becomes h told =
      calm replies.Ignored reply told (unchanged running.clones new number before after becomes h.1)
      (λ world stands sound. deliver_give_live running world stands sound message number (give_value give) before is becomes.was)
  give_answered give (received.Told (replies.Took ranges)) reply before after is becomes h told = absurd (cc (h.0))
  give_answered give (received.Told (replies.Merged ranges)) reply before after is becomes h told = absurd (cc (h.0))
  give_answered give (received.Told replies.Held) reply before after is becomes h told = absurd (cc (h.0))
  give_answered give (received.Told replies.Known) reply before after is becomes h told = absurd (cc (h.0))
  give_answered give (received.Sends answers) reply before after is becomes h told = absurd (cc (h.0))
  give_answered give (received.Told replies.Nothing) reply before after is becomes h told = absurd (cc (h.0))
  give_answered give (received.Told replies.HeldFull) reply before after is becomes h told = absurd h.0
  give_answered give (received.Told replies.Deep) reply before after is becomes h told = absurd h.0
  give_answered give answer reply before after is becomes h told = absurd h

  -- an answer of entries
  sending : (answers : List Message) (entries : List EntryValue) (reply : Reply) → map message_value answers ≡ map CarriesEntry entries → SendsAnswers running.messages answers sent reply
      → new ≡ running.clones
      → Moves running (Deliver message number) (model.Answer (range_with_len (length running.messages + 1) (length entries))) (stepped_saying running (map CarriesEntry entries)) → Ends reply
  sending answers entries (replies.Answer first end) carry sends same moves =
      let many : length answers ≡ length entries = sym (length-map answers message_value) ∙ ap (λ (l : List MessageValue). length l) carry ∙ length-map entries CarriesEntry in
      let count : end - first ≡ length entries = omega (arith, sends.2, many) in
      moved running (Deliver message number) (model.Answer (range_with_len (length running.messages + 1) (length entries))) (model.Answer (numbers_between first end))
      running.clones new (running.messages ++ map CarriesEntry entries) sent (λ i. model.Answer (range_with_len (sym sends.1 i) (sym count i))) (sym same)
      (sym (sends.0 ∙ ap (λ (l : List MessageValue). running.messages ++ l) carry)) moves
  sending answers entries reply carry sends same moves = absurd sends

  -- a live clone tells one who lacks something
  lacked_sent : (clock : ClockValue) (answers : List Message) (reply : Reply) (before : LocalClone) → sent_message running message ≡ Some (CarriesWant clock.ticks)
      → HasState running.clones number (states.Live before) → SendsLacked before clock.ticks answers → new ≡ running.clones → SendsAnswers running.messages answers sent reply → Ends reply
  lacked_sent clock answers reply before is at (sends_entries entries unknown some carry) same told =
      sending answers entries reply carry told same
      (λ world stands sound. want_answered running world stands sound message number clock.ticks before entries is at unknown some)
  lacked_sent clock answers reply before is at (sends_snapshot snapshot lacks one) same told =
      answering answers (kinds.Snapshot snapshot) running.clones reply one told same
      (λ world stands sound. subst (λ (s : SnapshotValue). Follows world (Deliver message number) (model.Answer ((length running.messages + 1) ∷ [])) (stepped_saying running (CarriesSnapshot s ∷ [])))
      (sym lacks.whole) (want_snapshot running world stands sound message number clock.ticks before is at lacks.behind))

  -- a live clone answers a want
  want_told : (clock : ClockValue) (answer : Received) (reply : Reply) (before after : LocalClone) → sent_message running message ≡ Some (CarriesWant clock.ticks)
      → Becomes running.clones new number (states.Live before) (states.Live after) → ReceivesLive before (kinds.Want clock) after answer → Tells answer reply → Ends reply
  want_told clock (received.Told replies.Nothing) reply before after is becomes h told =
      calm replies.Nothing reply told (unchanged running.clones new number before after becomes h.1)
      (λ world stands sound. want_nothing running world stands sound message number clock.ticks before is becomes.was h.0)
  want_told clock (received.Sends answers) reply before after is becomes h told =
      lacked_sent clock answers reply before is becomes.was h.0 (unchanged running.clones new number before after becomes h.1) told
  want_told clock (received.Told replies.HeldFull) reply before after is becomes h told = absurd h.0
  want_told clock (received.Told replies.Deep) reply before after is becomes h told = absurd h.0
  want_told clock answer reply before after is becomes h told = absurd h

  -- a live clone receives a snapshot
  snapshot_told : (snapshot : Snapshot) (answer : Received) (reply : Reply) (before after : LocalClone) → sent_message running message ≡ Some (CarriesSnapshot (snapshot_value snapshot))
      → Becomes running.clones new number (states.Live before) (states.Live after) → ReceivesLive before (kinds.Snapshot snapshot) after answer → Tells answer reply → Ends reply
  snapshot_told snapshot (received.Told replies.Known) reply before after is becomes h told =
      calm replies.Known reply told (unchanged running.clones new number before after becomes h.1.1)
      (λ world stands sound. deliver_snapshot_known running world stands sound message number (snapshot_value snapshot) before is becomes.was h.1.0)
  snapshot_told snapshot (received.Told (replies.Merged ranges)) reply before after is becomes h told =
      moving (replies.Merged ranges) reply after told becomes.now
      (λ world stands sound. deliver_merged running world stands sound message number (snapshot_value snapshot) before after ranges is becomes.was h.1)
  snapshot_told snapshot (received.Told (replies.Took ranges)) reply before after is becomes h told = absurd h.1
  snapshot_told snapshot (received.Told replies.Held) reply before after is becomes h told = absurd h.1
  snapshot_told snapshot (received.Told replies.Ignored) reply before after is becomes h told = absurd h.1
  snapshot_told snapshot (received.Told replies.Nothing) reply before after is becomes h told = absurd h.1
  snapshot_told snapshot (received.Told replies.HeldFull) reply before after is becomes h told = absurd h.0
  snapshot_told snapshot (received.Told replies.Deep) reply before after is becomes h told = absurd h.0
  snapshot_told snapshot (received.Sends answers) reply before after is becomes h told = absurd h.1
  snapshot_told snapshot answer reply before after is becomes h told = absurd h

  -- a live clone answers
  live_answered : (what : Message) (answer : Received) (reply : Reply) (before after : LocalClone) → sent_message running message ≡ Some (message_value what)
      → Becomes running.clones new number (states.Live before) (states.Live after) → ReceivesLive before what after answer → Tells answer reply → Ends reply
  live_answered (kinds.Range entry) answer reply before after is becomes h told = entry_answered entry answer reply before after is becomes h told
  live_answered (kinds.JoinAsk id) answer reply before after is becomes h told = ask_answered id answer reply before after is becomes h told
  live_answered (kinds.JoinGive give) answer reply before after is becomes h told = give_answered give answer reply before after is becomes h told
  live_answered (kinds.Want clock) answer reply before after is becomes h told = want_told clock answer reply before after is becomes h told
  live_answered (kinds.Snapshot snapshot) answer reply before after is becomes h told = snapshot_told snapshot answer reply before after is becomes h told

  -- one who asks answers
  asker_answered : (what : Message) (answer : Received) (reply : Reply) (before after : RunningClone) → sent_message running message ≡ Some (message_value what)
      → Becomes running.clones new number before after → ReceivesAsking before after what answer → Tells answer reply → Ends reply
  asker_answered what (received.Told replies.Ignored) reply before after is becomes h told =
      calm replies.Ignored reply told
      (becomes.now ∙ ap (λ (c : RunningClone). set running.clones number c) h.same ∙ set_again running.clones number before becomes.was)
      (λ world stands sound. deliver_asking running world stands sound message number (message_value what) h.asker is (becomes.was ∙ ap (λ (s : RunningClone). Some s) h.was)
      (λ leaf same own.
      let give = gives_as what leaf same in
      h.none give.0 (record { is = give.1; own = ap (λ (g : GiveValue). g.id) give.2 ∙ own })))
  asker_answered what (received.Told (replies.Joined path)) reply before after is becomes h told =
      let there : h.give.path ≡ path = sym (h.at ∙ ap (λ (l : LocalClone). l.path) h.joins) in
      moving (replies.Joined path) reply h.live told (becomes.now ∙ ap (λ (c : RunningClone). set running.clones number c) h.now)
      (λ world stands sound. subst (λ (p : List ℕ). Follows world (Deliver message number) (model.Joined p) (stepped_with running number h.live)) there
      (deliver_joined running world stands sound message number (give_value h.give) h.asker h.live
      (is ∙ ap (λ (m : Message). Some (message_value m)) h.is.is) (becomes.was ∙ ap (λ (s : RunningClone). Some s) h.was) h.is.own h.joins))
  asker_answered what answer reply before after is becomes h told = absurd h

  -- a clone that is neither live nor asks answers by its state
  away_answered : (what : Message) (answer : Received) (reply : Reply) (state : RunningClone) → sent_message running message ≡ Some (message_value what) → HasState running.clones number state
      → StaysAway state answer → new ≡ running.clones → Tells answer reply → Ends reply
  away_answered what (received.Told told) reply state is at away same tells =
      calm told reply tells same (λ world stands sound. deliver_missing running world stands sound message number (message_value what) state (reply_value told) is at away)
  away_answered what (received.Sends answers) reply state is at away same tells = absurd away

  -- the clone of the number answers, whatever its state is
  pub answered : (what : Message) (answer : Received) (reply : Reply) → numbered running.messages message ≡ Some (message_value what) → ReceivesAt running.clones new number what answer
      → Tells answer reply → Ends reply
  answered what answer reply is (WhereAway state at away same) tells = away_answered what answer reply state (sym (same_message running message) ∙ is) at away same tells
  answered what answer reply is (WhereLive before after becomes h) tells = live_answered what answer reply before after (sym (same_message running message) ∙ is) becomes h tells
  answered what answer reply is (WhereAsking before after becomes h) tells = asker_answered what answer reply before after (sym (same_message running message) ∙ is) becomes h tells

  -- no message has the number
  pub no_message : numbered running.messages message ≡ None → Moves running (Deliver message number) model.NoMessage (stepped running)
  no_message none world stands sound = deliver_nothing running world stands sound message number (sym (same_message running message) ∙ none)

-- ---- with banks

-- the message came to a clone, which told its answer, or sent it
module _ {B : Type 0} (log : B → Option Log) (meter : B → Meter) (old new : Parts B) (domain : new.domain ≡ old.domain) (properties : new.properties ≡ old.properties) (message number : ℕ) where
  pub deliver_done : (what : Message) (answer : Received) (reply : Reply) → numbered old.messages.items message ≡ Some what
      → ReceivesAt (map in_memory old.clones.items) (map in_memory new.clones.items) number what answer
      → ((steps : ℕ) → Tells (memory_of (running_of old steps)) message number (map in_memory new.clones.items) (map message_value new.messages.items) answer reply)
      → IsCarriedAt old.clones.items new.clones.items number → Does log old (Deliver message number) new reply
  deliver_done what answer reply is received tells carried =
      does_carried log meter old new domain properties (Deliver message number) reply
      (λ steps. answered (memory_of (running_of old steps)) message number (map in_memory new.clones.items) (map message_value new.messages.items) what answer reply
      (value_at old.messages.items message what is) received (tells steps))
      tt carried

  -- there is no such message
  pub deliver_none : new.clones.items ≡ old.clones.items → new.messages.items ≡ old.messages.items → numbered old.messages.items message ≡ None → Does log old (Deliver message number) new replies.NoMessage
  deliver_none same sent none =
      does_still log meter old new domain properties (Deliver message number) replies.NoMessage
      (λ steps. moved (memory_of (running_of old steps)) (Deliver message number) model.NoMessage model.NoMessage (map in_memory old.clones.items) (map in_memory new.clones.items)
      (map message_value old.messages.items) (map message_value new.messages.items) refl
      (ap (λ (l : List (BankedState B)). map in_memory l) (sym same)) (ap (λ (m : List Message). map message_value m) (sym sent))
      (no_message (memory_of (running_of old steps)) message number (map in_memory old.clones.items) (map message_value old.messages.items) (no_value_at old.messages.items message none)))
      tt same

-- one who asks took the message
module _ {B : Type 0} (meter : B → Meter) (old new : List (BankedState B)) (number : ℕ) (asking : BankedAsker B) (sent : Message) where
  -- its banks
  pub adopted_banks : (what : Adopted B) (told : BankedState B × Result Received WorldFault) → IsToldOf number what told → banks_of_state told.0 ≡ banks_of_adopted what
  adopted_banks (adopted.Joined clone) told is = ap banks_of_state is.0
  adopted_banks (adopted.Ignored same) told is = ap banks_of_state is.0
  adopted_banks (adopted.Refused fault banks) told is = ap banks_of_state is.0

  -- it was in one state, and is in another
  pub asking_becomes : (told : BankedState B × Result Received WorldFault) → HasState old number (states.Asking asking) → new ≡ set old number told.0 → Becomes old new number (states.Asking asking) told.0
  asking_becomes told at now = record { was = at; now = now }

  -- what it does is what one who asks does
  pub asking_received : (what : Adopted B) (told : BankedState B × Result Received WorldFault) → HasState old number (states.Asking asking) → new ≡ set old number told.0
      → LocallyAdopts asking sent what → IsToldOf number what told → IfOk told.1 (ReceivesAt (map in_memory old) (map in_memory new) number sent)
  asking_received (adopted.Joined clone) told at now adopts is =
      let r : Result Received WorldFault = Ok (received.Told (replies.Joined clone.local.path)) in
      subst (λ (x : Result Received WorldFault). IfOk x (ReceivesAt (map in_memory old) (map in_memory new) number sent)) (sym is.1)
      (WhereAsking (states.Asking asking.asker) (states.Live clone.local)
      (memory_becomes old new number (states.Asking asking) (states.Live clone) (record { was = at; now = now ∙ ap (λ (s : BankedState B). set old number s) is.0 }))
      (record {
        asker = asking.asker;
        was = refl;
        give = adopts.0;
        is = adopts.1;
        live = clone.local;
        joins = adopts.2;
        now = refl;
        at = refl;
      }))
  asking_received (adopted.Ignored same) told at now adopts is =
      subst (λ (x : Result Received WorldFault). IfOk x (ReceivesAt (map in_memory old) (map in_memory new) number sent)) (sym is.1)
      (WhereAsking (states.Asking asking.asker) (states.Asking same.asker)
      (memory_becomes old new number (states.Asking asking) (states.Asking same) (record { was = at; now = now ∙ ap (λ (s : BankedState B). set old number s) is.0 }))
      (record { asker = asking.asker; was = refl; none = adopts.0; same = ap (λ (a : BankedAsker B). states.Asking a.asker) adopts.1 }))
  asking_received (adopted.Refused fault banks) told at now adopts is =
      subst (λ (x : Result Received WorldFault). IfOk x (ReceivesAt (map in_memory old) (map in_memory new) number sent)) (sym is.1) tt

  -- and it may be carried
  pub asking_carried : (what : Adopted B) (told : BankedState B × Result Received WorldFault) → HasState old number (states.Asking asking) → new ≡ set old number told.0
      → LocallyAdopts asking sent what → IsToldOf number what told → OnOk told.1 (IsCarriedAt old new number)
  asking_carried (adopted.Joined clone) told at now adopts is =
      subst (λ (x : Result Received WorldFault). OnOk x (IsCarriedAt old new number)) (sym is.1)
      (record { state = states.Live clone; now = now ∙ ap (λ (s : BankedState B). set old number s) is.0; carried = record { opened = adopts.3; next = is_first adopts.4 } })
  asking_carried (adopted.Ignored same) told at now adopts is =
      subst (λ (x : Result Received WorldFault). OnOk x (IsCarriedAt old new number)) (sym is.1)
      (record { state = states.Asking same; now = now ∙ ap (λ (s : BankedState B). set old number s) is.0; carried = tt })
  asking_carried (adopted.Refused fault banks) told at now adopts is =
      subst (λ (x : Result Received WorldFault). OnOk x (IsCarriedAt old new number)) (sym is.1) tt

  -- its meter
  pub asking_on : (what : Adopted B) (told : BankedState B × Result Received WorldFault) → IsToldOf number what told
      → Metered (adopting_calls what) (meter asking.banks) (meter (banks_of_adopted what)) (AdoptsWhole what) (FailsToAdopt what) → MeterGoesOn (meter asking.banks) (meter (banks_of_state told.0))
  asking_on what told is metered =
      subst (λ (b : B). MeterGoesOn (meter asking.banks) (meter b)) (sym (adopted_banks what told is))
      (goes_on (adopting_calls what) (meter asking.banks) (meter (banks_of_adopted what)) (AdoptsWhole what) (FailsToAdopt what) metered)

  -- what its meter counted
  asking_by : (what : Adopted B) (told : BankedState B × Result Received WorldFault) → IsToldOf number what told
      → Metered (adopting_calls what) (meter asking.banks) (meter (banks_of_adopted what)) (AdoptsWhole what) (FailsToAdopt what)
      → HasFaultsAt number (meter asking.banks) (meter (banks_of_adopted what)) told.1
  asking_by (adopted.Joined clone) told is metered =
      subst (HasFaultsAt number (meter asking.banks) (meter clone.banks)) (sym is.1)
      (quiet_metered (adopting_calls (adopted.Joined clone)) (meter asking.banks) (meter clone.banks) (AdoptsWhole (adopted.Joined clone)) (FailsToAdopt (adopted.Joined clone)) metered (λ fails. fails))
  asking_by (adopted.Ignored same) told is metered =
      subst (HasFaultsAt number (meter asking.banks) (meter same.banks)) (sym is.1)
      (quiet_metered (adopting_calls (adopted.Ignored same)) (meter asking.banks) (meter same.banks) (AdoptsWhole (adopted.Ignored same)) (FailsToAdopt (adopted.Ignored same)) metered (λ fails. fails))
  asking_by (adopted.Refused fault banks) told is metered =
      subst (HasFaultsAt number (meter asking.banks) (meter banks)) (sym is.1)
      (faults_made number (adopting_calls (adopted.Refused fault banks)) (meter asking.banks) (meter banks) (AdoptsWhole (adopted.Refused fault banks)) fault metered)

  -- whether its banks had a fault
  pub asking_faults : (what : Adopted B) (told : BankedState B × Result Received WorldFault) → IsToldOf number what told
      → Metered (adopting_calls what) (meter asking.banks) (meter (banks_of_adopted what)) (AdoptsWhole what) (FailsToAdopt what)
      → HasFaultsAt number (meter asking.banks) (meter (banks_of_state told.0)) told.1
  asking_faults what told is metered =
      subst (λ (b : B). HasFaultsAt number (meter asking.banks) (meter b) told.1) (sym (adopted_banks what told is)) (asking_by what told is metered)
