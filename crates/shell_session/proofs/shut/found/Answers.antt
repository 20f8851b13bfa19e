use Rattle.std.proofs.Common.{◌≡◌, ◌++◌, refl, ◌∙◌}
use Rattle.shell_session.specs.declared.commands.ShellCommand.TheVariants as commands
use Rattle.shell_session.specs.Shells.{Nothing, Shut}
use Rattle.shell_session.specs.ShellReply.{MadeClone, shell_text}
use Rattle.shell_session.specs.ShellStep.{IsDueShut, first_clone}
use Rattle.shell_session.specs.declared.sessions.Session.{Session}
use Rattle.shell_session.specs.declared.sessions.Session.TheVariants as sessions
use Rattle.shell_session.specs.SessionLines.{DoesShellCommand, StopsShellCommand}
use Rattle.shell_session.specs.Sessions.{SessionStands}
use Rattle.shell_session.proofs.Answered.{one_kept, handed_on, given_back}
use Rattle.shell_session.proofs.ShutLaws.{founds_clone, founds_short}
use Rattle.shell_session.proofs.shut.found.Goals as goal

pub returns-in-Ok-clause-done : goal.returns-in-Ok-clause-done
returns-in-Ok-clause-done g c =
    let log = g.B.Banks.log in
    let before = c.args.out.now.items in
    let after = c.answer.new.out.items in
    let at = c.in-Ok in
    let command = commands.Create c.args.id c.args.domain c.args.properties in
    let kept = at.ensures.durable.0 in
    let same = one_kept c.args.properties.items at.clone.local.properties kept at.ensures.kept at.ensures.durable.1 in
    let local : at.clone.local ≡ first_clone c.args.id c.args.domain kept = at.ensures.blank ∙ (λ i. first_clone c.args.id c.args.domain (same i)) in
    handed_on {W = after ≡ before ++ shell_text MadeClone}
    (λ (next : Session g.row.B.Denot). SessionStands log (sessions.Shut c.args.blank) (Shut Nothing) → DoesShellCommand log (Shut Nothing) command c.args.blank before next after)
    c.answer.result (sessions.Live at.clone) c.answer.ensures.same c.answer.ensures.text
    (λ written. founds_clone log g.B.Banks.meter c.args.id c.args.domain c.args.properties.items c.args.blank command at.clone kept before after
    (λ steps next creates becomes. record { kept = kept; each = at.ensures.durable.1; replies = refl; creates = creates; becomes = becomes })
    local at.ensures.opened at.ensures.generation (c.tell_banks_keep.ensures at.ensures.opened) at.ensures.durable.2 written)

pub returns-in-Ok-clause-stopped : goal.returns-in-Ok-clause-stopped
returns-in-Ok-clause-stopped g c =
    let log = g.B.Banks.log in
    let at = c.in-Ok in
    let command = commands.Create c.args.id c.args.domain c.args.properties in
    given_back
    (λ (b : g.row.B.Denot). SessionStands log (sessions.Shut c.args.blank) (Shut Nothing) → StopsShellCommand log (Shut Nothing) command c.args.blank b)
    c.answer.result at.clone.banks c.answer.ensures.err
    (λ has. founds_short log g.B.Banks.meter c.args.id c.args.domain c.args.properties.items c.args.blank (IsDueShut Nothing command) at.ensures.durable.0 at.clone.banks at.ensures.durable.2
    (record { kept = at.ensures.durable.0; each = at.ensures.durable.1; creates = refl }))

pub returns-in-Err-Device-default-clause-stopped : goal.returns-in-Err-Device-default-clause-stopped
returns-in-Err-Device-default-clause-stopped g c = λ has.
    let at = c.in-Err-Device-default in
    let command = commands.Create c.args.id c.args.domain c.args.properties in
    founds_short g.B.Banks.log g.B.Banks.meter c.args.id c.args.domain c.args.properties.items c.args.blank (IsDueShut Nothing command) at.ensures.durable.0 at.banks at.ensures.durable.2
    (record { kept = at.ensures.durable.0; each = at.ensures.durable.1; creates = refl })

pub returns-in-Err-NoMemory-default-clause-stopped : goal.returns-in-Err-NoMemory-default-clause-stopped
returns-in-Err-NoMemory-default-clause-stopped g c = λ has.
    let at = c.in-Err-NoMemory-default in
    let command = commands.Create c.args.id c.args.domain c.args.properties in
    founds_short g.B.Banks.log g.B.Banks.meter c.args.id c.args.domain c.args.properties.items c.args.blank (IsDueShut Nothing command) at.ensures.durable.0 at.banks at.ensures.durable.2
    (record { kept = at.ensures.durable.0; each = at.ensures.durable.1; creates = refl })
