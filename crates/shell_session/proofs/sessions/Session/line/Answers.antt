use Rattle.std.proofs.Common.{◌≡◌, ◌++◌, ℕ, List, Option, Err, Bor, subst}
use Rattle.std.specs.Prelude.{option_map}
use Rattle.shell_session.specs.declared.commands.ShellCommand.{ShellCommand}
use Rattle.shell_session.specs.ReadShell.{ShellIs}
use Rattle.shell_session.specs.Shells.{Shell}
use Rattle.shell_session.specs.ShellReply.{BadLine, shell_text}
use Rattle.shell_session.specs.declared.sessions.Session.{Session}
use Rattle.shell_session.specs.SessionLines.{DoesShellCommand, DoesLine, StopsShellCommand, StopsLine}
use Rattle.shell_session.specs.Sessions.{session_banks, SessionStands}
use Rattle.shell_session.proofs.Answered.{handed_on, weaken_ok, weaken_err}
use Rattle.shell_session.proofs.LineLaws.{nothing_line, bad_line, command_line, command_stops}
use Rattle.shell_session.proofs.sessions.Session.line.Goals as goal

pub returns-in-Ok-None-clause-done : goal.returns-in-Ok-None-clause-done
returns-in-Ok-None-clause-done g c = λ it stands.
    let domain : Option (List ℕ) = option_map (λ (name : Bor (List ℕ)). name.now) c.domain.result in
    nothing_line g.B.Banks.log c.args.self c.args.line.now domain c.domain.ensures.domain it stands c.args.out.now.items
    (subst (λ (read : Option ShellCommand). ShellIs domain c.args.line.now read) c.in-Ok-None.field-0-is c.in-Ok-None.ensures.ok)

pub returns-in-Ok-Some-clause-done : goal.returns-in-Ok-Some-clause-done
returns-in-Ok-Some-clause-done g c =
    let domain : Option (List ℕ) = option_map (λ (name : Bor (List ℕ)). name.now) c.domain.result in
    let log = g.B.Banks.log in
    let at = c.in-Ok-Some in
    let spells = subst (λ (read : Option ShellCommand). ShellIs domain c.args.line.now read) at.field-0-is at.ensures.ok in
    weaken_ok c.do_command.result
    (λ (next : Session g.row.B.Denot). (it : Shell) → SessionStands log c.args.self it → DoesShellCommand log it at.command (session_banks c.args.self) c.args.out.now.items next c.do_command.new.out.items)
    (λ (next : Session g.row.B.Denot). (it : Shell) → SessionStands log c.args.self it → DoesLine log it c.args.line.now (session_banks c.args.self) c.args.out.now.items next c.do_command.new.out.items)
    (λ next does it stands. command_line log c.args.self c.args.line.now domain c.domain.ensures.domain it stands at.command c.args.out.now.items c.do_command.new.out.items next spells (does it stands))
    c.do_command.ensures.done

pub returns-in-Ok-Some-clause-stopped : goal.returns-in-Ok-Some-clause-stopped
returns-in-Ok-Some-clause-stopped g c =
    let domain : Option (List ℕ) = option_map (λ (name : Bor (List ℕ)). name.now) c.domain.result in
    let log = g.B.Banks.log in
    let at = c.in-Ok-Some in
    let spells = subst (λ (read : Option ShellCommand). ShellIs domain c.args.line.now read) at.field-0-is at.ensures.ok in
    weaken_err c.do_command.result
    (λ (b : g.row.B.Denot). (it : Shell) → SessionStands log c.args.self it → StopsShellCommand log it at.command (session_banks c.args.self) b)
    (λ (b : g.row.B.Denot). (it : Shell) → SessionStands log c.args.self it → StopsLine log it c.args.line.now (session_banks c.args.self) b)
    (λ b stops it stands. command_stops log c.args.self c.args.line.now domain c.domain.ensures.domain it stands at.command b spells (stops it stands))
    c.do_command.ensures.stopped

pub returns-in-Err-BadLine-clause-done : goal.returns-in-Err-BadLine-clause-done
returns-in-Err-BadLine-clause-done g c =
    let domain : Option (List ℕ) = option_map (λ (name : Bor (List ℕ)). name.now) c.domain.result in
    let log = g.B.Banks.log in
    let before = c.args.out.now.items in
    let after = c.answer.new.out.items in
    handed_on {W = after ≡ before ++ shell_text BadLine}
    (λ (next : Session g.row.B.Denot). (it : Shell) → SessionStands log c.args.self it → DoesLine log it c.args.line.now (session_banks c.args.self) before next after)
    c.answer.result c.args.self c.answer.ensures.same c.answer.ensures.text
    (λ written it stands. bad_line log c.args.self c.args.line.now domain c.domain.ensures.domain it stands before after (c.in-Err-BadLine.ensures.bad (λ i. Err (c.in-Err-BadLine.field-0-is i))) written)
