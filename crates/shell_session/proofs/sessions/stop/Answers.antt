use Rattle.std.proofs.Common.{◌≡◌, ◌∙◌, ◌++◌, ap}
use Rattle.crash_laws.proofs.of_journal_store.ClosingLaws.{told_same}
use Rattle.mld_model.specs.Reply.{Stopped}
use Rattle.shell_session.specs.declared.commands.ShellCommand.TheVariants as commands
use Rattle.shell_session.specs.Shells.{Shell}
use Rattle.shell_session.specs.ShellReply.{Says, shell_text}
use Rattle.shell_session.specs.declared.sessions.Session.{Session}
use Rattle.shell_session.specs.declared.sessions.Session.TheVariants as sessions
use Rattle.shell_session.specs.SessionLines.{DoesShellCommand, banks_after}
use Rattle.shell_session.specs.Sessions.{SessionStands}
use Rattle.shell_session.proofs.Answered.{answered_banks, handed_on}
use Rattle.shell_session.proofs.LineLaws.{stop_does}
use Rattle.shell_session.proofs.sessions.stop.Goals as goal

pub returns-clause-done : goal.returns-clause-done
returns-clause-done g c =
    let log = g.B.Banks.log in
    let old = c.args.clone in
    let before = c.args.out.now.items in
    let after = c.answer.new.out.items in
    handed_on {W = after ≡ before ++ shell_text (Says Stopped)}
    (λ (next : Session g.row.B.Denot). (it : Shell) → SessionStands log (sessions.Live old) it → DoesShellCommand log it commands.Stop old.banks before next after)
    c.answer.result (sessions.Shut c.stop-banks.result) c.answer.ensures.same c.answer.ensures.text
    (λ written. stop_does log g.B.Banks.meter old c.stop-banks.result before after c.stop-banks.ensures.banks c.requires c.stop-banks.ensures.kept written)

pub returns-clause-told : goal.returns-clause-told
returns-clause-told g c =
    let log = g.B.Banks.log in
    told_same (log c.args.clone.banks) (log (banks_after c.answer.result))
    (ap log (answered_banks c.answer.result (sessions.Shut c.stop-banks.result) c.answer.ensures.same c.answer.ensures.err ∙ c.stop-banks.ensures.banks))
