use Rattle.std.proofs.Common.{None, arith, refl, map}
use Rattle.std.specs.Result.{result_err}
use Rattle.mld_model.specs.declared.CloneState.TheVariants as states
use Rattle.schedule_replies.specs.Replies.{reply_value}
use Rattle.world_commands.specs.WorldBanks.{banks_of_state}
use Rattle.world_commands.specs.Doings.{doing_nothing}
use Rattle.world_commands.proofs.AskLemmas.{ask_done, ask_missing_done}
use Rattle.world_commands.proofs.BankLemmas.{quiet_same}
use Rattle.world_commands.proofs.Places.{place_read}
use Rattle.world_commands.proofs.WorldLemmas.{keeps_still, missing_reply}
use Rattle.world_commands.proofs.LeftLemmas.{left_there, memory_uncalled, nothing_uncalled}
use Rattle.world_commands.proofs.ask.ask.Goals as goal

pub returns-in_ok-want-in-Live-clause-done : goal.returns-in_ok-want-in-Live-clause-done
returns-in_ok-want-in-Live-clause-done g c =
    let parts = c.args.parts.now in
    ask_done g.B.Banks.log g.B.Banks.meter parts _ refl refl c.args.number refl c.in-Live.clone c.in_ok-want-in-Live.want c.send_question.result
    (place_read parts.clones.items c.args.number c.from.result c.index.result.now (states.Live c.in-Live.clone) c.from.ensures (omega (arith, c.requires)) c.index.ensures c.in-Live.is)
    c.in_ok-want-in-Live.ensures.wants c.send_question.ensures.sent

pub returns-in_default : goal.returns-in_default
returns-in_default g c =
    let parts = c.args.parts.now in
    let state = c.index.result.now in
    record {
      keeps = keeps_still g.B.Banks.log g.B.Banks.meter parts _ refl refl c.args.number refl;
      done = ask_missing_done g.B.Banks.log g.B.Banks.meter parts _ refl refl c.args.number refl state c.state_reply.result
          (place_read parts.clones.items c.args.number c.from.result state state c.from.ensures (omega (arith, c.requires)) c.index.ensures refl)
          refl (missing_reply state (reply_value c.state_reply.result) c.state_reply.ensures c.in_default.not-Live);
      faults = quiet_same g.B.Banks.meter (map banks_of_state parts.clones.items);
      left = left_there g.B.Banks.log g.B.Banks.meter doing_nothing None parts.clones.items c.args.number (omega (arith, c.requires)) (λ state. tt);
    }

pub returns-in_err-want-in-Live-clause-left : goal.returns-in_err-want-in-Live-clause-left
returns-in_err-want-in-Live-clause-left g c =
    left_there g.B.Banks.log g.B.Banks.meter doing_nothing (result_err c.from_residual.result) c.args.parts.now.clones.items c.args.number (omega (arith, c.requires))
    (memory_uncalled doing_nothing c.from_residual.result c.from_residual.ensures.1)

pub returns-in_ok-want-in-Live-clause-left : goal.returns-in_ok-want-in-Live-clause-left
returns-in_ok-want-in-Live-clause-left g c =
    left_there g.B.Banks.log g.B.Banks.meter doing_nothing (result_err c.send_question.result) c.args.parts.now.clones.items c.args.number (omega (arith, c.requires))
    (nothing_uncalled c.send_question.result c.send_question.ensures.memory)
