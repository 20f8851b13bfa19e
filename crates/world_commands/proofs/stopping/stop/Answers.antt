use Rattle.std.proofs.Common.{None, arith, refl, map}
use Rattle.mld_model.specs.declared.CloneState.TheVariants as states
use Rattle.schedule_replies.specs.Replies.{reply_value}
use Rattle.world_commands.specs.WorldBanks.{banks_of_state}
use Rattle.world_commands.specs.Doings.{doing_nothing}
use Rattle.world_commands.proofs.BankLemmas.{quiet_same}
use Rattle.world_commands.proofs.Places.{place_read}
use Rattle.world_commands.proofs.StopLemmas.{stop_done, stop_keeps, stop_quiet, stop_missing_done}
use Rattle.world_commands.proofs.WorldLemmas.{keeps_still, missing_reply}
use Rattle.world_commands.proofs.LeftLemmas.{left_still, stop_left}
use Rattle.world_commands.proofs.stopping.stop.Goals as goal

pub stop_live-requires : goal.stop_live-requires
stop_live-requires g c =
    (c.in-Live.field-0, place_read c.args.parts.now.clones.items c.args.number c.from.result c.index.result.now (states.Live c.in-Live.field-0) c.from.ensures (omega (arith, c.requires)) c.index.ensures c.in-Live.is)

pub returns-in-Live : goal.returns-in-Live
returns-in-Live g c = record {
  keeps = stop_keeps g.B.Banks.log g.B.Banks.meter c.args.parts.now _ refl refl c.args.number c.stop_live.ensures;
  done = stop_done g.B.Banks.log g.B.Banks.meter c.args.parts.now _ refl refl c.args.number c.stop_live.ensures refl;
  quiet = stop_quiet g.B.Banks.log g.B.Banks.meter c.args.parts.now.clones.items c.stop_live.new.clones.items c.args.number c.stop_live.ensures;
  left = stop_left g.B.Banks.log g.B.Banks.meter c.args.parts.now.clones.items c.stop_live.new.clones.items c.args.number c.stop_live.ensures;
}

pub returns-in_default : goal.returns-in_default
returns-in_default g c =
    let parts = c.args.parts.now in
    let state = c.index.result.now in
    record {
      keeps = keeps_still g.B.Banks.log g.B.Banks.meter parts _ refl refl c.args.number refl;
      done = stop_missing_done g.B.Banks.log g.B.Banks.meter parts _ refl refl c.args.number state c.state_reply.result
          (place_read parts.clones.items c.args.number c.from.result state state c.from.ensures (omega (arith, c.requires)) c.index.ensures refl)
          refl refl (missing_reply state (reply_value c.state_reply.result) c.state_reply.ensures c.in_default.not-Live);
      quiet = quiet_same g.B.Banks.meter (map banks_of_state parts.clones.items);
      left = left_still g.B.Banks.log g.B.Banks.meter doing_nothing None parts.clones.items parts.clones.items c.args.number state
          (place_read parts.clones.items c.args.number c.from.result state state c.from.ensures (omega (arith, c.requires)) c.index.ensures refl) refl tt;
    }
