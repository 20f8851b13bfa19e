use Rattle.std.proofs.Common.{[]}
use Rattle.shell_session.specs.ShellStep.{AnswersUpdate, AppendsUpdate}
use Rattle.shell_session.specs.SessionReplies.{shell_value}
use Rattle.shell_session.proofs.LiveLaws.{short, update_due}
use Rattle.shell_session.proofs.live.update.Goals as goal

pub returns-clause-stopped : goal.returns-clause-stopped
returns-clause-stopped g c =
    let old = c.args.clone.now in
    let plan = c.args.plan.now in
    let new = c.updated.new.clone in
    let reply = shell_value c.in_ok-reply.reply in
    short g.B.Banks.log g.B.Banks.meter old new (AnswersUpdate old.local plan) (AppendsUpdate old.local plan) [] [] c.tell.result reply
    c.in_ok-reply.ensures.done (λ steps does. update_due old.local plan reply steps new.local does)
