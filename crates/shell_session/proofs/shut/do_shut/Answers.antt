use Rattle.std.proofs.Common.{◌≡◌, ◌++◌}
use Rattle.shell_session.specs.ShellReply.{IsClosed, shell_text}
use Rattle.shell_session.specs.declared.sessions.Session.{Session}
use Rattle.shell_session.specs.declared.sessions.Session.TheVariants as sessions
use Rattle.shell_session.specs.Sessions.{MayDoLine}
use Rattle.shell_session.proofs.Answered.{handed_on, closed_does, closed_stops, closed_told, closed_meters}
use Rattle.shell_session.proofs.shut.do_shut.Goals as goal

pub returns : goal.returns
returns g c =
    let log = g.B.Banks.log in
    let meter = g.B.Banks.meter in
    let banks = c.args.banks in
    let before = c.args.out.now.items in
    let after = c.answer.new.out.items in
    let result = c.answer.result in
    let same = c.answer.ensures.same in
    let back = c.answer.ensures.err in
    let command = c.args.command in
    let not_open = c.in_default.not-Open in
    let not_create = c.in_default.not-Create in
    record {
      done = closed_does log meter banks command not_open not_create before after result same c.answer.ensures.text;
      standing = handed_on {W = after ≡ before ++ shell_text IsClosed} (λ (next : Session g.row.B.Denot). MayDoLine next) result (sessions.Shut banks) same c.answer.ensures.text (λ written. tt);
      stopped = closed_stops log meter banks command not_open not_create before after result back;
      told = closed_told log meter banks command not_open not_create before after result same back;
      fault = closed_meters log meter banks command not_open not_create before after result same back;
      out = c.answer.ensures.out;
    }
