use Rattle.std.proofs.Common.{List, subst, map}
use Rattle.mld_model.specs.declared.CloneState.TheVariants as states
use Rattle.schedule_replies.specs.Replies.{reply_value}
use Rattle.world_commands.specs.States.{HasState, IsMissingAt}
use Rattle.world_commands.specs.WorldBanks.{BankedState, in_memory}
use Rattle.world_commands.proofs.LookLemmas.{show_done, show_missing_done}
use Rattle.world_commands.proofs.show.show.Goals as goal

pub returns-in-Ok : goal.returns-in-Ok
returns-in-Ok g c =
    let P : List (BankedState g.row.B.Denot) → Type 0 = λ clones. HasState clones c.args.number (states.Live c.in-Ok.clone.now) in
    show_done g.B.Banks.log g.B.Banks.meter c.args.parts.now c.args.number c.in-Ok.clone.now c.pairs.result (subst P c.as_slice.ensures.value c.in-Ok.ensures) c.pairs.ensures.pairs

pub returns-in-Err : goal.returns-in-Err
returns-in-Err g c =
    let P : List (BankedState g.row.B.Denot) → Type 0 = λ clones. IsMissingAt (map in_memory clones) c.args.number (reply_value c.in-Err.missing) in
    show_missing_done g.B.Banks.log g.B.Banks.meter c.args.parts.now c.args.number c.in-Err.missing (subst P c.as_slice.ensures.value c.in-Err.ensures)
