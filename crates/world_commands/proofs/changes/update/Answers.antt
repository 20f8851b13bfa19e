use Rattle.std.proofs.Common.{None, arith, ap, set, ℕ, refl}
use Rattle.std.specs.Result.{result_err}
use Rattle.mld_model.specs.declared.CloneState.TheVariants as states
use Rattle.schedule_replies.specs.Replies.{reply_value}
use Rattle.world_commands.specs.States.{Becomes}
use Rattle.world_commands.specs.Doings.{UpdatesNone, doing_update}
use Rattle.world_commands.proofs.ChangeLemmas.{update_done, update_missing_done}
use Rattle.world_commands.proofs.BankLemmas.{faults_set, quiet_still}
use Rattle.world_commands.proofs.Places.{place_read, read_back}
use Rattle.world_commands.proofs.WorldLemmas.{has_next_tick, is_open, missing_reply, keeps_set, keeps_still}
use Rattle.world_commands.proofs.LeftLemmas.{left_becomes, left_still, missing_idle}
use Rattle.world_commands.proofs.changes.update.Goals as goal

pub update_live-requires : goal.update_live-requires
update_live-requires g c =
    let at = place_read c.args.parts.now.clones.items c.args.number c.from.result c.index_mut.result.now (states.Live c.in-Live.clone) c.from.ensures (omega (arith, c.requires.number)) c.index_mut.ensures.value c.in-Live.is in
    record {
      opened = is_open g.B.Banks.log c.args.parts.now c.args.number c.in-Live.clone c.requires.left at;
      ticks = has_next_tick g.B.Banks.log c.args.parts.now c.args.number c.in-Live.clone c.requires.left at;
      form = c.requires.form;
    }

pub returns-in-Live : goal.returns-in-Live
returns-in-Live g c =
    let old = c.args.parts.now.clones.items in
    let before = c.in-Live.clone in
    let after = c.update_live.new.clone in
    let becomes : Becomes old (set old c.from.result (states.Live after)) c.args.number (states.Live before) (states.Live after) = record {
      was = place_read old c.args.number c.from.result c.index_mut.result.now (states.Live before) c.from.ensures (omega (arith, c.requires.number)) c.index_mut.ensures.value c.in-Live.is;
      now = ap (λ (k : ℕ). set old k (states.Live after)) c.from.ensures;
    } in
    record {
      keeps = keeps_set g.B.Banks.log g.B.Banks.meter c.args.parts.now _ refl refl c.args.number (states.Live before) (states.Live after) becomes c.update_live.ensures.meter;
      done = update_done g.B.Banks.log g.B.Banks.meter c.args.parts.now _ refl refl c.args.number c.args.plan.now before after c.update_live.result becomes c.update_live.ensures.done c.update_live.ensures.opened;
      faults = faults_set g.B.Banks.meter _ _ c.args.number (states.Live before) (states.Live after) c.update_live.result becomes c.update_live.ensures.faults;
      left = left_becomes g.B.Banks.log g.B.Banks.meter (doing_update c.args.plan.now) (result_err c.update_live.result) old _ c.args.number (states.Live before) (states.Live after) becomes c.update_live.ensures.left;
      unsent = c.update_live.ensures.unsent;
    }

pub returns-in_default : goal.returns-in_default
returns-in_default g c =
    let same = read_back c.args.parts.now.clones.items c.from.result c.index_mut.result.now c.index_mut.ensures.value in
    record {
      keeps = keeps_still g.B.Banks.log g.B.Banks.meter c.args.parts.now _ refl refl c.args.number same;
      done = update_missing_done g.B.Banks.log g.B.Banks.meter c.args.parts.now _ refl refl c.args.number c.args.plan.now c.index_mut.result.now c.state_reply.result
          (place_read c.args.parts.now.clones.items c.args.number c.from.result c.index_mut.result.now c.index_mut.result.now c.from.ensures (omega (arith, c.requires.number)) c.index_mut.ensures.value refl)
          same refl (missing_reply c.index_mut.result.now (reply_value c.state_reply.result) c.state_reply.ensures c.in_default.not-Live);
      faults = quiet_still g.B.Banks.meter c.args.parts.now.clones.items _ same;
      left = left_still g.B.Banks.log g.B.Banks.meter (doing_update c.args.plan.now) None c.args.parts.now.clones.items _ c.args.number c.index_mut.result.now
          (place_read c.args.parts.now.clones.items c.args.number c.from.result c.index_mut.result.now c.index_mut.result.now c.from.ensures (omega (arith, c.requires.number)) c.index_mut.ensures.value refl) same
          (missing_idle (λ clone. UpdatesNone clone c.args.plan.now) c.index_mut.result.now c.in_default.not-Live);
      unsent = tt;
    }
