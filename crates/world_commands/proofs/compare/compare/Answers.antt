use Rattle.std.proofs.Common.{List, subst, map}
use Rattle.mld_model.specs.declared.CloneState.TheVariants as states
use Rattle.schedule_replies.specs.Replies.{reply_value}
use Rattle.world_commands.specs.States.{HasState, IsMissingAt}
use Rattle.world_commands.specs.WorldBanks.{BankedState, in_memory}
use Rattle.world_commands.proofs.LookLemmas.{compare_done, compare_first_missing_done, compare_second_missing_done}
use Rattle.world_commands.proofs.compare.compare.Goals as goal

pub returns-in-Err : goal.returns-in-Err
returns-in-Err g c =
    let P : List (BankedState g.row.B.Denot) → Type 0 = λ clones. IsMissingAt (map in_memory clones) c.args.number (reply_value c.in-Err.missing) in
    compare_first_missing_done g.B.Banks.log g.B.Banks.meter c.args.parts.now c.args.number c.args.other c.in-Err.missing (subst P c.as_slice.ensures.value c.in-Err.ensures)

pub returns-in-Ok-live_at : goal.returns-in-Ok-live_at
returns-in-Ok-live_at g c =
    let P : List (BankedState g.row.B.Denot) → Type 0 = λ clones. HasState clones c.args.number (states.Live c.in-Ok.first.now) in
    let Q : List (BankedState g.row.B.Denot) → Type 0 = λ clones. HasState clones c.args.other (states.Live c.in-Ok-live_at.second.now) in
    compare_done g.B.Banks.log g.B.Banks.meter c.args.parts.now c.args.number c.args.other c.in-Ok.first.now c.in-Ok-live_at.second.now c.compared.result
    (subst P c.as_slice.ensures.value c.in-Ok.ensures) (subst Q c.as_slice-2.ensures.value c.in-Ok-live_at.ensures) c.compared.ensures

pub returns-in-Err-live_at : goal.returns-in-Err-live_at
returns-in-Err-live_at g c =
    let P : List (BankedState g.row.B.Denot) → Type 0 = λ clones. HasState clones c.args.number (states.Live c.in-Ok.first.now) in
    let Q : List (BankedState g.row.B.Denot) → Type 0 = λ clones. IsMissingAt (map in_memory clones) c.args.other (reply_value c.in-Err-live_at.missing) in
    compare_second_missing_done g.B.Banks.log g.B.Banks.meter c.args.parts.now c.args.number c.args.other c.in-Ok.first.now c.in-Err-live_at.missing
    (subst P c.as_slice.ensures.value c.in-Ok.ensures) (subst Q c.as_slice-2.ensures.value c.in-Err-live_at.ensures)
