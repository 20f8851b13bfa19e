use Rattle.std.proofs.Common.{◌≡◌, ◌++◌, refl, sym, subst}
use Rattle.crash_laws.proofs.of_journal_store.ClosingLaws.{told_then}
use Rattle.shell_session.specs.declared.commands.ShellCommand.TheVariants as commands
use Rattle.shell_session.specs.Shells.{Shell}
use Rattle.shell_session.specs.ShellReply.{NotEmpty, shell_text}
use Rattle.shell_session.specs.declared.sessions.Session.{Session}
use Rattle.shell_session.specs.declared.sessions.Session.TheVariants as sessions
use Rattle.shell_session.specs.SessionLines.{DoesShellCommand, StopsShellCommand, banks_after}
use Rattle.shell_session.specs.Sessions.{SessionStands}
use Rattle.shell_session.proofs.Answered.{handed_on, given_back, mount_refuses, refused_does, refused_stops, created_does, created_stops}
use Rattle.shell_session.proofs.ShutLaws.{create_found}
use Rattle.shell_session.proofs.shut.create.Goals as goal

pub returns-in-Live-clause-done : goal.returns-in-Live-clause-done
returns-in-Live-clause-done g c =
    let before = c.args.out.now.items in
    let after = c.answer.new.out.items in
    let at = c.in-Live in
    handed_on {W = after ≡ before ++ shell_text NotEmpty}
    (λ (next : Session g.row.B.Denot). (it : Shell) → SessionStands g.B.Banks.log (sessions.Shut c.args.banks) it → DoesShellCommand g.B.Banks.log it (commands.Create c.args.id c.args.domain c.args.properties) c.args.banks before next after)
    c.answer.result (sessions.Shut c.stop.result) c.answer.ensures.same c.answer.ensures.text
    (λ written. subst (λ (b : g.row.B.Denot). (it : Shell) → SessionStands g.B.Banks.log (sessions.Shut c.args.banks) it
    → DoesShellCommand g.B.Banks.log it (commands.Create c.args.id c.args.domain c.args.properties) c.args.banks before (sessions.Shut b) after) (sym c.stop.ensures.banks)
    (create_found g.B.Banks.log c.args.banks at.clone.banks at.ensures.moments at.ensures.synced before after (commands.Create c.args.id c.args.domain c.args.properties) at.clone at.ensures.tells (refl, refl, refl) written))

pub returns-in-Live-clause-stopped : goal.returns-in-Live-clause-stopped
returns-in-Live-clause-stopped g c =
    given_back
    (λ (b : g.row.B.Denot). (it : Shell) → SessionStands g.B.Banks.log (sessions.Shut c.args.banks) it → StopsShellCommand g.B.Banks.log it (commands.Create c.args.id c.args.domain c.args.properties) c.args.banks b)
    c.answer.result c.stop.result c.answer.ensures.err
    (subst (λ (b : g.row.B.Denot). (it : Shell) → SessionStands g.B.Banks.log (sessions.Shut c.args.banks) it → StopsShellCommand g.B.Banks.log it (commands.Create c.args.id c.args.domain c.args.properties) c.args.banks b)
    (sym c.stop.ensures.banks) (mount_refuses g.B.Banks.log c.args.banks c.in-Live.clone.banks (commands.Create c.args.id c.args.domain c.args.properties) c.in-Live.ensures.moments))

pub returns-in-Empty-clause-done : goal.returns-in-Empty-clause-done
returns-in-Empty-clause-done g c =
    let at = c.in-Empty in
    created_does g.B.Banks.log c.args.banks at.blank at.ensures.moments at.ensures.synced at.ensures.tells (commands.Create c.args.id c.args.domain c.args.properties) c.args.out.now.items c.found.new.out.items c.found.result c.found.ensures.done

pub returns-in-Empty-clause-stopped : goal.returns-in-Empty-clause-stopped
returns-in-Empty-clause-stopped g c =
    let at = c.in-Empty in
    created_stops g.B.Banks.log c.args.banks at.blank at.ensures.moments at.ensures.synced at.ensures.tells (commands.Create c.args.id c.args.domain c.args.properties) c.found.result c.found.ensures.stopped

pub returns-in-Empty-clause-told : goal.returns-in-Empty-clause-told
returns-in-Empty-clause-told g c =
    let log = g.B.Banks.log in
    told_then (log c.args.banks) (log c.in-Empty.blank) (log (banks_after c.found.result)) c.in-Empty.ensures.told c.found.ensures.told

pub returns-in-Refused-clause-done : goal.returns-in-Refused-clause-done
returns-in-Refused-clause-done g c =
    let at = c.in-Refused in
    refused_does g.B.Banks.log c.args.banks at.fault at.banks at.ensures.moments (commands.Create c.args.id c.args.domain c.args.properties) c.args.out.now.items c.refuse.new.out.items c.refuse.result c.refuse.ensures.damaged
    at.ensures.tells at.ensures.synced (λ side place. (refl, refl, refl))

pub returns-in-Refused-clause-stopped : goal.returns-in-Refused-clause-stopped
returns-in-Refused-clause-stopped g c =
    let at = c.in-Refused in
    refused_stops g.B.Banks.log c.args.banks at.fault at.banks at.ensures.moments (commands.Create c.args.id c.args.domain c.args.properties) c.refuse.result c.refuse.ensures.err
