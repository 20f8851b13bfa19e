use Rattle.std.proofs.Common.{◌<◌, Ok, Err, refl, sym, subst, length}
use Rattle.mld_model.specs.Local.{LocallyTruncates}
use Rattle.mld_model.specs.Reply.{Kept}
use Rattle.crash_laws.specs.clone_parts.declared.faults.KeepFault.{KeepFault}
use Rattle.shell_session.specs.ShellReply.{Says, GenerationsSpent}
use Rattle.shell_session.proofs.LiveLaws.{IsKeepReply, keep_goes, truncates_either}
use Rattle.shell_session.proofs.live.truncated.Goals as goal

pub unreachable-requires : goal.unreachable-requires
unreachable-requires g c = absurd (cc (c.requires, (c.in-Err-Closed.ensures.closed c.in-Err-Closed.field-0-0).0 (λ i. Err (c.in-Err-Closed.field-0-is i))))

pub returns-in-Ok-clause-done : goal.returns-in-Ok-clause-done
returns-in-Ok-clause-done g c =
    let log = g.B.Banks.log in
    let meter = g.B.Banks.meter in
    let old = c.args.clone.now in
    let new = c.truncate.new.self in
    keep_goes log meter old new (c.args.keep < length old.local.entries) (LocallyTruncates old.local c.args.keep) (Ok c.in-Ok.count) (Says (Kept c.in-Ok.count)) refl c.requires
    (truncates_either log meter old new c.args.keep c.in-Ok.ensures.ok.0, c.in-Ok.ensures.ok.1) c.in-Ok.ensures.spent tt c.in-Ok.ensures.durable

pub returns-in-Err-GenerationsSpent-clause-done : goal.returns-in-Err-GenerationsSpent-clause-done
returns-in-Err-GenerationsSpent-clause-done g c =
    let at = c.in-Err-GenerationsSpent in
    let old = c.args.clone.now in
    keep_goes g.B.Banks.log g.B.Banks.meter old c.truncate.new.self (c.args.keep < length old.local.entries) (LocallyTruncates old.local c.args.keep) (Err at.field-0) GenerationsSpent
    (subst (λ (f : KeepFault). IsKeepReply (Err f) GenerationsSpent) (sym at.field-0-is) refl) c.requires tt at.ensures.spent at.ensures.left at.ensures.durable
