use Rattle.std.proofs.Common.{◌∙◌, ◌++◌, ◌<◌, List, length, ap, arith}
use Rattle.std.proofs.lemmas.List.{take_all}
use Rattle.std.specs.List.{flat_map}
use Rattle.mld_ops.specs.declared.tagged.Tagged.{Tagged}
use Rattle.schedule_model.specs.ReplyText.{pair_line}
use Rattle.schedule_replies.proofs.RepliesShown.{lines_more, still_in_front}
use Rattle.schedule_replies.proofs.replies.push_lines.Goals as goal

pub loop-place-preserved : goal.loop-place-preserved
loop-place-preserved c =
    let within : c.loop-place.place < length c.args.pairs.now = omega (arith, c.loop-place-test.true, c.len-place-end.ensures) in (
      lines_more c.args.out.now.items c.loop-place.out.items c.push_at.new.out.items c.args.pairs.now c.loop-place.place within c.loop-place.invariant.0 c.in_ok-push_at.ensures.ok,
      omega (arith, within),
    )

pub returns-clause-ok : goal.returns-clause-ok
returns-clause-ok c =
    c.loop-place.invariant.0
    ∙ ap (λ (ps : List Tagged). c.args.out.now.items ++ flat_map pair_line ps) (take_all c.loop-place.place c.args.pairs.now (omega (arith, c.loop-place-test.false, c.len-place-end.ensures)))

pub returns-in_err-push_at-clause-err : goal.returns-in_err-push_at-clause-err
returns-in_err-push_at-clause-err c =
    still_in_front c.from_residual.result c.args.out.now.items _ c.loop-place.out.items c.push_at.new.out.items c.loop-place.invariant.0 c.in_err-push_at.ensures.err
