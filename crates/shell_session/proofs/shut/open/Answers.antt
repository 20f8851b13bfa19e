use Rattle.std.proofs.Common.{◌≡◌, ◌++◌, refl, sym, subst}
use Rattle.mld_model.specs.Reply.{Opened}
use Rattle.shell_session.specs.declared.commands.ShellCommand.TheVariants as commands
use Rattle.shell_session.specs.Shells.{Shell}
use Rattle.shell_session.specs.ShellReply.{Says, FoundNothing, shell_text}
use Rattle.shell_session.specs.declared.sessions.Session.{Session}
use Rattle.shell_session.specs.declared.sessions.Session.TheVariants as sessions
use Rattle.shell_session.specs.SessionLines.{DoesShellCommand, StopsShellCommand}
use Rattle.shell_session.specs.Sessions.{SessionStands}
use Rattle.shell_session.proofs.Answered.{handed_on, given_back, mount_refuses, refused_does, refused_stops}
use Rattle.shell_session.proofs.ShutLaws.{open_live, open_empty}
use Rattle.shell_session.proofs.shut.open.Goals as goal

pub returns-in-Live-clause-done : goal.returns-in-Live-clause-done
returns-in-Live-clause-done g c =
    let before = c.args.out.now.items in
    let after = c.answer.new.out.items in
    let at = c.in-Live in
    handed_on {W = after ≡ before ++ shell_text (Says Opened)}
    (λ (next : Session g.row.B.Denot). (it : Shell) → SessionStands g.B.Banks.log (sessions.Shut c.args.banks) it → DoesShellCommand g.B.Banks.log it commands.Open c.args.banks before next after)
    c.answer.result (sessions.Live at.clone) c.answer.ensures.same c.answer.ensures.text
    (λ written. open_live g.B.Banks.log c.args.banks at.clone before after at.ensures.tells at.ensures.opened at.ensures.synced at.ensures.moments written)

pub returns-in-Live-clause-stopped : goal.returns-in-Live-clause-stopped
returns-in-Live-clause-stopped g c =
    given_back
    (λ (b : g.row.B.Denot). (it : Shell) → SessionStands g.B.Banks.log (sessions.Shut c.args.banks) it → StopsShellCommand g.B.Banks.log it commands.Open c.args.banks b)
    c.answer.result c.in-Live.clone.banks c.answer.ensures.err
    (mount_refuses g.B.Banks.log c.args.banks c.in-Live.clone.banks commands.Open c.in-Live.ensures.moments)

pub returns-in-Empty-clause-done : goal.returns-in-Empty-clause-done
returns-in-Empty-clause-done g c =
    let before = c.args.out.now.items in
    let after = c.answer-in-Empty.new.out.items in
    let at = c.in-Empty in
    handed_on {W = after ≡ before ++ shell_text FoundNothing}
    (λ (next : Session g.row.B.Denot). (it : Shell) → SessionStands g.B.Banks.log (sessions.Shut c.args.banks) it → DoesShellCommand g.B.Banks.log it commands.Open c.args.banks before next after)
    c.answer-in-Empty.result (sessions.Shut c.into_banks.result) c.answer-in-Empty.ensures.same c.answer-in-Empty.ensures.text
    (λ written. subst (λ (b : g.row.B.Denot). (it : Shell) → SessionStands g.B.Banks.log (sessions.Shut c.args.banks) it
    → DoesShellCommand g.B.Banks.log it commands.Open c.args.banks before (sessions.Shut b) after) (sym c.into_banks.ensures.banks)
    (open_empty g.B.Banks.log c.args.banks at.blank at.ensures.moments at.ensures.synced before after at.ensures.tells written))

pub returns-in-Empty-clause-stopped : goal.returns-in-Empty-clause-stopped
returns-in-Empty-clause-stopped g c =
    given_back
    (λ (b : g.row.B.Denot). (it : Shell) → SessionStands g.B.Banks.log (sessions.Shut c.args.banks) it → StopsShellCommand g.B.Banks.log it commands.Open c.args.banks b)
    c.answer-in-Empty.result c.into_banks.result c.answer-in-Empty.ensures.err
    (subst (λ (b : g.row.B.Denot). (it : Shell) → SessionStands g.B.Banks.log (sessions.Shut c.args.banks) it → StopsShellCommand g.B.Banks.log it commands.Open c.args.banks b)
    (sym c.into_banks.ensures.banks) (mount_refuses g.B.Banks.log c.args.banks c.in-Empty.blank commands.Open c.in-Empty.ensures.moments))

pub returns-in-Refused-clause-done : goal.returns-in-Refused-clause-done
returns-in-Refused-clause-done g c =
    let at = c.in-Refused in
    refused_does g.B.Banks.log c.args.banks at.fault at.banks at.ensures.moments commands.Open c.args.out.now.items c.refuse.new.out.items c.refuse.result c.refuse.ensures.damaged
    at.ensures.tells at.ensures.synced (λ side place. (refl, refl, refl))

pub returns-in-Refused-clause-stopped : goal.returns-in-Refused-clause-stopped
returns-in-Refused-clause-stopped g c =
    let at = c.in-Refused in
    refused_stops g.B.Banks.log c.args.banks at.fault at.banks at.ensures.moments commands.Open c.refuse.result c.refuse.ensures.err
