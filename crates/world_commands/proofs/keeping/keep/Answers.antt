use Rattle.std.proofs.Common.{None, arith, ap, set, ℕ, refl}
use Rattle.std.specs.Result.{result_err}
use Rattle.mld_model.specs.declared.CloneState.TheVariants as states
use Rattle.schedule_replies.specs.Replies.{reply_value}
use Rattle.world_commands.specs.States.{Becomes}
use Rattle.world_commands.specs.Doings.{IsKeptAlready, doing_keep}
use Rattle.world_commands.proofs.BankLemmas.{faults_set, quiet_still}
use Rattle.world_commands.proofs.KeepLemmas.{keep_done, keep_missing_done}
use Rattle.world_commands.proofs.Places.{place_read, read_back}
use Rattle.world_commands.proofs.WorldLemmas.{has_generation, is_open, missing_reply, keeps_set, keeps_still}
use Rattle.world_commands.proofs.LeftLemmas.{left_becomes, left_still, missing_idle, silent_same}
use Rattle.world_commands.proofs.keeping.keep.Goals as goal

pub keep_live-requires : goal.keep_live-requires
keep_live-requires g c =
    let at = place_read c.args.parts.now.clones.items c.args.number c.from.result c.index_mut.result.now (states.Live c.in-Live.clone) c.from.ensures (omega (arith, c.requires.number)) c.index_mut.ensures.value c.in-Live.is in
    record {
      opened = is_open g.B.Banks.log c.args.parts.now c.args.number c.in-Live.clone c.requires.left at;
      left = has_generation g.B.Banks.log c.args.parts.now c.args.number c.in-Live.clone c.requires.left at;
    }

pub returns-in-Live : goal.returns-in-Live
returns-in-Live g c =
    let old = c.args.parts.now.clones.items in
    let before = c.in-Live.clone in
    let after = c.keep_live.new.clone in
    let becomes : Becomes old (set old c.from.result (states.Live after)) c.args.number (states.Live before) (states.Live after) = record {
      was = place_read old c.args.number c.from.result c.index_mut.result.now (states.Live before) c.from.ensures (omega (arith, c.requires.number)) c.index_mut.ensures.value c.in-Live.is;
      now = ap (λ (k : ℕ). set old k (states.Live after)) c.from.ensures;
    } in
    record {
      keeps = keeps_set g.B.Banks.log g.B.Banks.meter c.args.parts.now _ refl refl c.args.number (states.Live before) (states.Live after) becomes c.keep_live.ensures.meter;
      done = keep_done g.B.Banks.log g.B.Banks.meter c.args.parts.now _ refl refl c.args.number c.args.keeping refl before after c.keep_live.result becomes c.keep_live.ensures.done c.keep_live.ensures.opened;
      faults = faults_set g.B.Banks.meter _ _ c.args.number (states.Live before) (states.Live after) c.keep_live.result becomes c.keep_live.ensures.faults;
      left = left_becomes g.B.Banks.log g.B.Banks.meter (doing_keep c.args.keeping) (result_err c.keep_live.result) old _ c.args.number (states.Live before) (states.Live after) becomes c.keep_live.ensures.left;
      unsent = silent_same c.keep_live.result c.args.parts.now.messages.items _ refl;
    }

pub returns-in_default : goal.returns-in_default
returns-in_default g c =
    let same = read_back c.args.parts.now.clones.items c.from.result c.index_mut.result.now c.index_mut.ensures.value in
    record {
      keeps = keeps_still g.B.Banks.log g.B.Banks.meter c.args.parts.now _ refl refl c.args.number same;
      done = keep_missing_done g.B.Banks.log g.B.Banks.meter c.args.parts.now _ refl refl c.args.number c.args.keeping refl c.index_mut.result.now c.state_reply.result
          (place_read c.args.parts.now.clones.items c.args.number c.from.result c.index_mut.result.now c.index_mut.result.now c.from.ensures (omega (arith, c.requires.number)) c.index_mut.ensures.value refl)
          same (missing_reply c.index_mut.result.now (reply_value c.state_reply.result) c.state_reply.ensures c.in_default.not-Live);
      faults = quiet_still g.B.Banks.meter c.args.parts.now.clones.items _ same;
      left = left_still g.B.Banks.log g.B.Banks.meter (doing_keep c.args.keeping) None c.args.parts.now.clones.items _ c.args.number c.index_mut.result.now
          (place_read c.args.parts.now.clones.items c.args.number c.from.result c.index_mut.result.now c.index_mut.result.now c.from.ensures (omega (arith, c.requires.number)) c.index_mut.ensures.value refl) same
          (missing_idle (λ clone. IsKeptAlready c.args.keeping clone) c.index_mut.result.now c.in_default.not-Live);
      unsent = tt;
    }
