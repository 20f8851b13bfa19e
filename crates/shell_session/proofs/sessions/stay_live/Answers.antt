use Rattle.std.proofs.Common.{sym, subst}
use Rattle.shell_session.specs.Shells.{Shell}
use Rattle.shell_session.specs.declared.sessions.Session.TheVariants as sessions
use Rattle.shell_session.specs.SessionLines.{StopsShellCommand}
use Rattle.shell_session.specs.Sessions.{SessionStands}
use Rattle.shell_session.proofs.LineLaws.{live_does, live_stops}
use Rattle.shell_session.proofs.sessions.stay_live.Goals as goal

pub returns-in-Ok-clause-done : goal.returns-in-Ok-clause-done
returns-in-Ok-clause-done g c =
    live_does g.B.Banks.log g.B.Banks.meter c.args.clone c.do_live.new.clone c.args.command.now c.args.out.now.items c.do_live.new.out.items
    c.requires.stays.stays c.in-Ok.ensures.done c.in-Ok.ensures.told c.tell_banks_keep.ensures

pub returns-in-Err-clause-stopped : goal.returns-in-Err-clause-stopped
returns-in-Err-clause-stopped g c =
    let log = g.B.Banks.log in
    let old = c.args.clone in
    subst (λ (b : g.row.B.Denot). (it : Shell) → SessionStands log (sessions.Live old) it → StopsShellCommand log it c.args.command.now old.banks b) (sym c.stop.ensures.banks)
    (live_stops log g.B.Banks.meter old c.do_live.new.clone.banks c.args.command.now c.in-Err.ensures.stopped)
