use Rattle.std.proofs.Common.{◌∙◌, sym, ap}
use Rattle.mld_replay.proofs.EndLemmas.{ends_whole}
use Rattle.mld_replay.proofs.run.end_at_stage.Goals as goal

pub returns-in-Ok-clause-ends : goal.returns-in-Ok-clause-ends
returns-in-Ok-clause-ends g c =
    ends_whole g.B.Banks.log c.end_of.result c.in-Ok.field-0 c.tells.result c.args.fault c.args.stage c.end_run.result c.in-Ok.is c.tells.ensures c.end_of.ensures.tells c.end_of.ensures.silent c.end_of.ensures.banks c.end_of.ensures.kept
    c.end_run.ensures.fault (c.end_run.ensures.banks ∙ sym (ap (λ e. e.banks) c.in-Ok.field-0-is)) (c.end_run.ensures.world ∙ sym (ap (λ e. e.world) c.in-Ok.field-0-is))
