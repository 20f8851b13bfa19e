use Rattle.std.proofs.Common.{◌∙◌, ◌++◌, ap, List, ℕ}
use Rattle.schedule_text.specs.schedule_model.ReplyText.{reply_text}
use Rattle.mld_model.specs.Reply.{Ready}
use Rattle.mld_replay.proofs.StageLemmas.{set_up, still_waits, waiting_count}
use Rattle.mld_replay.proofs.stages.set_up.Goals as goal

pub returns-in-Setup-clause-ok : goal.returns-in-Setup-clause-ok
returns-in-Setup-clause-ok g c =
    set_up g.B.Banks.log c.args.line.now c.in_ok-setup.field-0 c.in-Setup.setup c.take_waiting-blanks.result c.push_ready.new.out.items c.in-Setup.is c.in_ok-setup.ensures.ok
    (c.in_ok-push_ready-in-Setup.ensures.ok ∙ ap (λ (t : List ℕ). t ++ reply_text (Ready c.in-Setup.setup.clones)) c.requires.empty)
    (waiting_count g.B.Banks.log c.args.stage.now c.take_waiting-blanks.result c.take_waiting-blanks.ensures c.requires.stands)

pub returns-clause-ok : goal.returns-clause-ok
returns-clause-ok g c =
    rw c.requires.empty (still_waits g.B.Banks.log c.args.line.now c.in_ok-setup.field-0 c.in-Other.field-0 c.args.stage.now c.in-Other.is c.in_ok-setup.ensures.ok c.requires.stands)
