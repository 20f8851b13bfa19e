use Rattle.std.proofs.Common.{List, subst, map}
use Rattle.mld_model.specs.declared.CloneState.TheVariants as states
use Rattle.schedule_replies.specs.Replies.{reply_value}
use Rattle.world_commands.specs.States.{HasState, IsMissingAt}
use Rattle.world_commands.specs.WorldBanks.{BankedState, banks_of_state, in_memory}
use Rattle.world_commands.proofs.BankLemmas.{faults_memory, quiet_same}
use Rattle.world_commands.proofs.LookLemmas.{query_done, query_missing_done}
use Rattle.world_commands.proofs.WorldLemmas.{is_open}
use Rattle.world_commands.proofs.query.query.Goals as goal

pub answer_live-requires : goal.answer_live-requires
answer_live-requires g c =
    let P : List (BankedState g.row.B.Denot) → Type 0 = λ clones. HasState clones c.args.number (states.Live c.in-Ok.clone.now) in
    (c.type_bounds.sync-R, (is_open g.B.Banks.log c.args.parts.now c.args.number c.in-Ok.clone.now c.requires.left (subst P c.as_slice.ensures.value c.in-Ok.ensures), c.requires.form))

pub returns-in-Ok : goal.returns-in-Ok
returns-in-Ok g c =
    let P : List (BankedState g.row.B.Denot) → Type 0 = λ clones. HasState clones c.args.number (states.Live c.in-Ok.clone.now) in
    let banks = map banks_of_state c.args.parts.now.clones.items in
    record {
      done = query_done g.B.Banks.log g.B.Banks.meter c.args.parts.now c.args.number c.args.read.now c.in-Ok.clone.now c.answer_live.result
          (subst P c.as_slice.ensures.value c.in-Ok.ensures) c.answer_live.ensures.answers;
      faults = faults_memory g.B.Banks.meter c.args.number banks banks c.answer_live.result (quiet_same g.B.Banks.meter banks) c.answer_live.ensures.cause;
      cause = c.answer_live.ensures.cause;
    }

pub returns-in-Err : goal.returns-in-Err
returns-in-Err g c =
    let P : List (BankedState g.row.B.Denot) → Type 0 = λ clones. IsMissingAt (map in_memory clones) c.args.number (reply_value c.in-Err.missing) in
    record {
      done = query_missing_done g.B.Banks.log g.B.Banks.meter c.args.parts.now c.args.number c.args.read.now c.in-Err.missing (subst P c.as_slice.ensures.value c.in-Err.ensures);
      faults = quiet_same g.B.Banks.meter (map banks_of_state c.args.parts.now.clones.items);
      cause = tt;
    }
