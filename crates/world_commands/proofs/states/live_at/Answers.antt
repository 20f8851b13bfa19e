use Rattle.std.proofs.Common.{refl, arith}
use Rattle.schedule_replies.specs.Replies.{reply_value}
use Rattle.world_commands.specs.WorldBanks.{in_memory}
use Rattle.world_commands.proofs.Places.{place_read}
use Rattle.world_commands.proofs.BankLemmas.{memory_at}
use Rattle.world_commands.proofs.WorldLemmas.{missing_reply}
use Rattle.world_commands.proofs.states.live_at.Goals as goal

pub returns-in_default : goal.returns-in_default
returns-in_default g c =
    let state = c.index-clones-from.result in
    record {
      state = in_memory state;
      at = memory_at c.args.clones.now c.args.number state
          (place_read c.args.clones.now c.args.number c.from.result state state c.from.ensures (omega (arith, c.requires)) c.index-clones-from.is refl);
      is = missing_reply state (reply_value c.state_reply.result) c.state_reply.ensures c.in_default.not-Live;
    }
