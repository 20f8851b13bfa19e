use Rattle.std.proofs.Common.{◌∙◌, None, arith, refl, subst, map, List, ℕ}
use Rattle.std.specs.Result.{result_err}
use Rattle.mld_model.specs.declared.CloneState.TheVariants as states
use Rattle.world_commands.specs.Asking.{AsksFirst}
use Rattle.world_commands.specs.WorldBanks.{banks_of_state}
use Rattle.world_commands.specs.Doings.{doing_nothing}
use Rattle.world_commands.proofs.Places.{place_read}
use Rattle.world_commands.proofs.BankLemmas.{quiet_same, faults_memory}
use Rattle.world_commands.proofs.JoinLemmas.{join_again_done, join_first_done, join_first_keeps, join_first_faults, join_settled_done}
use Rattle.world_commands.proofs.WorldLemmas.{keeps_still}
use Rattle.world_commands.proofs.LeftLemmas.{left_there, memory_uncalled, nothing_uncalled, join_left}
use Rattle.world_commands.proofs.join.join.Goals as goal

pub returns-in-Asking : goal.returns-in-Asking
returns-in-Asking g c =
    let parts = c.args.parts.now in
    record {
      keeps = keeps_still g.B.Banks.log g.B.Banks.meter parts _ refl refl c.args.number refl;
      done = join_again_done g.B.Banks.log g.B.Banks.meter parts _ refl refl c.args.number c.in-Asking.asker c.ask.result c.send_question.result
          (place_read parts.clones.items c.args.number c.from.result c.index.result.now (states.Asking c.in-Asking.asker) c.from.ensures (omega (arith, c.requires.number)) c.index.ensures c.in-Asking.is)
          c.ask.ensures.asks refl c.send_question.ensures.sent;
      faults = faults_memory g.B.Banks.meter c.args.number (map banks_of_state parts.clones.items) (map banks_of_state parts.clones.items) c.send_question.result
          (quiet_same g.B.Banks.meter (map banks_of_state parts.clones.items)) c.send_question.ensures.memory;
      left = left_there g.B.Banks.log g.B.Banks.meter doing_nothing (result_err c.send_question.result) parts.clones.items c.args.number (omega (arith, c.requires.number))
          (nothing_uncalled c.send_question.result c.send_question.ensures.memory);
    }

pub returns-in_ok-named-in-Absent : goal.returns-in_ok-named-in-Absent
returns-in_ok-named-in-Absent g c =
    let parts = c.args.parts.now in
    let new = c.begin_to_ask-question.new.clones.items in
    let question = c.begin_to_ask-question.result in
    let named = c.in_ok-named-in-Absent.named in
    let P : List (List ℕ) → Type 0 = λ properties. AsksFirst named.domain properties c.args.number parts.clones.items new question in
    let Q : List ℕ → Type 0 = λ domain. AsksFirst domain parts.properties.items c.args.number parts.clones.items new question in
    let asks : AsksFirst parts.domain parts.properties.items c.args.number parts.clones.items new question =
    subst Q c.in_ok-named-in-Absent.ensures.domain (subst P (c.in_ok-named-in-Absent.ensures.properties ∙ c.as_slice.ensures.value) c.begin_to_ask-question.ensures) in
    record {
      keeps = join_first_keeps g.B.Banks.log g.B.Banks.meter parts _ refl refl c.args.number question asks;
      done = join_first_done g.B.Banks.log g.B.Banks.meter parts _ refl refl c.args.number question c.send_question-in-Absent.result c.requires.named asks c.send_question-in-Absent.ensures.sent;
      faults = join_first_faults g.B.Banks.meter parts.domain parts.properties.items parts.clones.items new c.args.number question c.send_question-in-Absent.result asks c.send_question-in-Absent.ensures.memory;
      left = join_left g.B.Banks.log g.B.Banks.meter c.send_question-in-Absent.result parts.domain parts.properties.items parts.clones.items new c.args.number question
          c.send_question-in-Absent.ensures.memory asks;
    }

pub returns-in_default : goal.returns-in_default
returns-in_default g c =
    let parts = c.args.parts.now in
    let state = c.index.result.now in
    record {
      keeps = keeps_still g.B.Banks.log g.B.Banks.meter parts _ refl refl c.args.number refl;
      done = join_settled_done g.B.Banks.log g.B.Banks.meter parts _ refl refl c.args.number state c.state_reply.result c.state_reply.ensures
          (place_read parts.clones.items c.args.number c.from.result state state c.from.ensures (omega (arith, c.requires.number)) c.index.ensures refl)
          c.in_default.not-Asking c.in_default.not-Absent refl refl;
      faults = quiet_same g.B.Banks.meter (map banks_of_state parts.clones.items);
      left = left_there g.B.Banks.log g.B.Banks.meter doing_nothing None parts.clones.items c.args.number (omega (arith, c.requires.number)) (λ state. tt);
    }

pub returns-in_err-named-in-Absent-clause-left : goal.returns-in_err-named-in-Absent-clause-left
returns-in_err-named-in-Absent-clause-left g c =
    left_there g.B.Banks.log g.B.Banks.meter doing_nothing (result_err c.from_residual.result) c.args.parts.now.clones.items c.args.number (omega (arith, c.requires.number))
    (memory_uncalled doing_nothing c.from_residual.result c.from_residual.ensures.1)
