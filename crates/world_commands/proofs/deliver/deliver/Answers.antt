use Rattle.std.proofs.Common.{◌∙◌, arith, List, None, Some, Result, Err, ap, inl, sym, subst, refl, map}
use Rattle.std.proofs.lemmas.Result.{IfOk-weaker}
use Rattle.std.specs.Result.{result_err}
use Rattle.mld_ops.specs.declared.messages.Message.{Message}
use Rattle.mld_model.specs.World.{numbered}
use Rattle.schedule_replies.specs.declared.replies.Reply.{Reply}
use Rattle.world_commands.specs.declared.faults.WorldFault.{WorldFault}
use Rattle.world_commands.specs.declared.deliver.Received.{Received}
use Rattle.world_commands.specs.declared.deliver.Received.TheVariants as received
use Rattle.world_commands.specs.Delivering.{ReceivesAt}
use Rattle.world_commands.specs.WorldBanks.{in_memory, banks_of_state}
use Rattle.world_commands.specs.Doings.{doing_deliver}
use Rattle.world_commands.proofs.BankLemmas.{faults_memory, quiet_same}
use Rattle.world_commands.proofs.DeliverLemmas.{is_fit, deliver_done, deliver_none}
use Rattle.world_commands.proofs.WorldLemmas.{keeps_banks, keeps_still}
use Rattle.world_commands.proofs.LeftLemmas.{left_there, memory_behind, numbered_left, silent_same, silent_memory}
use Rattle.world_commands.proofs.deliver.deliver.Goals as goal

pub returns-in_default : goal.returns-in_default
returns-in_default g c = record {
  keeps = keeps_still g.B.Banks.log g.B.Banks.meter c.args.parts.now _ refl refl c.args.number refl;
  done = deliver_none g.B.Banks.log g.B.Banks.meter c.args.parts.now _ refl refl c.args.message c.args.number refl refl
      (sym (c.in_default.ensures ∙ ap (λ (ms : List Message). numbered ms c.args.message) c.as_slice.ensures.value));
  faults = quiet_same g.B.Banks.meter (map banks_of_state c.args.parts.now.clones.items);
  left = left_there g.B.Banks.log g.B.Banks.meter (doing_deliver c.args.parts.now.messages.items c.args.message) None c.args.parts.now.clones.items c.args.number (omega (arith, c.requires.number))
      (λ state. inl (sym (c.in_default.ensures ∙ ap (λ (ms : List Message). numbered ms c.args.message) c.as_slice.ensures.value)));
  unsent = tt;
}

pub receive_at-requires-clause-fit : goal.receive_at-requires-clause-fit
receive_at-requires-clause-fit g c = λ κs outlives.
    is_fit g.B.Banks.log c.args.parts.now c.args.message c.args.number c.in-Some.message.now c.requires.left
    (sym (c.in-Some.ensures ∙ ap (λ (ms : List Message). numbered ms c.args.message) c.as_slice.ensures.value))

pub returns-in-Ok-Told : goal.returns-in-Ok-Told
returns-in-Ok-Told g c =
    let P : Received → Type 0 = λ answer. ReceivesAt (map in_memory c.args.parts.now.clones.items) (map in_memory c.receive_at.new.clones.items) c.args.number c.in-Some.message.now answer in
    record {
      keeps = keeps_banks g.B.Banks.log g.B.Banks.meter c.args.parts.now _ refl refl c.args.number c.receive_at.ensures.banks;
      done = deliver_done g.B.Banks.log g.B.Banks.meter c.args.parts.now _ refl refl c.args.message c.args.number c.in-Some.message.now (received.Told c.in-Ok-Told.reply) c.in-Ok-Told.reply
          (sym (c.in-Some.ensures ∙ ap (λ (ms : List Message). numbered ms c.args.message) c.as_slice.ensures.value))
          (subst P c.in-Ok-Told.field-0-is c.in-Ok-Told.ensures.ok) (λ steps. (refl, refl)) c.in-Ok-Told.ensures.carried;
      faults = c.in-Ok-Told.ensures.faults;
      left = numbered_left g.B.Banks.log g.B.Banks.meter c.args.parts.now.messages.items c.args.message c.in-Some.message.now None None c.args.number c.args.parts.now.clones.items c.receive_at.new.clones.items
          (sym (c.in-Some.ensures ∙ ap (λ (ms : List Message). numbered ms c.args.message) c.as_slice.ensures.value)) (inl refl) c.in-Ok-Told.ensures.left;
      unsent = tt;
    }

pub returns-in-Ok-Sends : goal.returns-in-Ok-Sends
returns-in-Ok-Sends g c =
    let P : Received → Type 0 = λ answer. ReceivesAt (map in_memory c.args.parts.now.clones.items) (map in_memory c.receive_at.new.clones.items) c.args.number c.in-Some.message.now answer in
    record {
      keeps = keeps_banks g.B.Banks.log g.B.Banks.meter c.args.parts.now _ refl refl c.args.number c.receive_at.ensures.banks;
      done = IfOk-weaker c.send_answers.result _ _ (λ reply h.
          deliver_done g.B.Banks.log g.B.Banks.meter c.args.parts.now _ refl refl c.args.message c.args.number c.in-Some.message.now (received.Sends c.in-Ok-Sends.answers) reply
          (sym (c.in-Some.ensures ∙ ap (λ (ms : List Message). numbered ms c.args.message) c.as_slice.ensures.value))
          (subst P c.in-Ok-Sends.field-0-is c.in-Ok-Sends.ensures.ok) (λ steps. h) c.in-Ok-Sends.ensures.carried)
          c.send_answers.ensures.sent;
      faults = faults_memory g.B.Banks.meter c.args.number (map banks_of_state c.args.parts.now.clones.items) (map banks_of_state c.receive_at.new.clones.items) c.send_answers.result
          c.in-Ok-Sends.ensures.faults c.send_answers.ensures.memory;
      left = numbered_left g.B.Banks.log g.B.Banks.meter c.args.parts.now.messages.items c.args.message c.in-Some.message.now None (result_err c.send_answers.result) c.args.number c.args.parts.now.clones.items c.receive_at.new.clones.items
          (sym (c.in-Some.ensures ∙ ap (λ (ms : List Message). numbered ms c.args.message) c.as_slice.ensures.value)) (memory_behind c.send_answers.result c.send_answers.ensures.memory)
          c.in-Ok-Sends.ensures.left;
      unsent = silent_memory c.send_answers.result c.args.parts.now.messages.items _ c.send_answers.ensures.memory;
    }

pub returns-in-Err : goal.returns-in-Err
returns-in-Err g c = record {
  keeps = keeps_banks g.B.Banks.log g.B.Banks.meter c.args.parts.now _ refl refl c.args.number c.receive_at.ensures.banks;
  done = tt;
  faults = c.in-Err.ensures.faults;
  left = numbered_left g.B.Banks.log g.B.Banks.meter c.args.parts.now.messages.items c.args.message c.in-Some.message.now (Some c.in-Err.error) (Some c.in-Err.error) c.args.number c.args.parts.now.clones.items c.receive_at.new.clones.items
      (sym (c.in-Some.ensures ∙ ap (λ (ms : List Message). numbered ms c.args.message) c.as_slice.ensures.value)) (inl refl) c.in-Err.ensures.left;
  unsent = let told : Result Reply WorldFault = Err c.in-Err.error in silent_same told c.args.parts.now.messages.items _ refl;
}
