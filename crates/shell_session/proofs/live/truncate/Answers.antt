use Rattle.std.proofs.Common.{[]}
use Rattle.shell_session.specs.ShellStep.{TruncatesAs, IsDueTruncation}
use Rattle.shell_session.specs.SessionReplies.{shell_value}
use Rattle.shell_session.proofs.LiveLaws.{short, journal_due}
use Rattle.shell_session.proofs.live.truncate.Goals as goal

pub returns-clause-stopped : goal.returns-clause-stopped
returns-clause-stopped g c =
    let old = c.args.clone.now in
    let new = c.truncated.new.clone in
    let reply = shell_value c.in_ok-reply.reply in
    short g.B.Banks.log g.B.Banks.meter old new (TruncatesAs c.args.keep old.generation old.local) (IsDueTruncation c.args.keep old.generation old.local) [] [] c.tell.result reply
    c.in_ok-reply.ensures.done (λ steps does. journal_due old.generation old.local reply steps new.local does)
