use Rattle.std.proofs.Common.{◌≡◌, IfOk, IfErr, sym, subst}
use Rattle.shell_session.specs.declared.commands.ShellCommand.{ShellCommand}
use Rattle.shell_session.specs.declared.commands.ShellCommand.TheVariants as commands
use Rattle.shell_session.specs.Shells.{Shell}
use Rattle.shell_session.specs.declared.sessions.Session.{Session}
use Rattle.shell_session.specs.declared.sessions.Session.TheVariants as sessions
use Rattle.shell_session.specs.SessionLines.{DoesShellCommand, StopsShellCommand}
use Rattle.shell_session.specs.Sessions.{session_banks, SessionStands}
use Rattle.shell_session.proofs.sessions.do_command.Goals as goal

pub returns-then-is_stop-clause-done : goal.returns-then-is_stop-clause-done
returns-then-is_stop-clause-done g c =
    let log = g.B.Banks.log in
    let P : Session g.row.B.Denot → ShellCommand → Type 0 = λ session command. IfOk c.stop.result (λ next. (it : Shell) → SessionStands log session it
    → DoesShellCommand log it command (session_banks session) c.args.out.now.items next c.stop.new.out.items) in
    let stops : c.args.command ≡ commands.Stop = c.is_stop.ensures.0 c.if-is_stop.true in
    subst (λ (session : Session g.row.B.Denot). P session c.args.command) (sym c.in-Live.is) (subst (λ (command : ShellCommand). P (sessions.Live c.in-Live.clone) command) (sym stops) c.stop.ensures.done)

pub returns-then-is_stop-clause-stopped : goal.returns-then-is_stop-clause-stopped
returns-then-is_stop-clause-stopped g c =
    let log = g.B.Banks.log in
    let P : Session g.row.B.Denot → ShellCommand → Type 0 = λ session command. IfErr c.stop.result (λ refused. (it : Shell) → SessionStands log session it
    → StopsShellCommand log it command (session_banks session) refused.1) in
    let stops : c.args.command ≡ commands.Stop = c.is_stop.ensures.0 c.if-is_stop.true in
    subst (λ (session : Session g.row.B.Denot). P session c.args.command) (sym c.in-Live.is) (subst (λ (command : ShellCommand). P (sessions.Live c.in-Live.clone) command) (sym stops) c.stop.ensures.stopped)
