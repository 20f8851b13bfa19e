use Rattle.std.proofs.Common.{Ok, Err, refl, sym, subst}
use Rattle.op_fusion.specs.Compacting.{HasNeighbours}
use Rattle.mld_model.specs.Local.{LocallyCompacts}
use Rattle.mld_model.specs.Reply.{Kept}
use Rattle.crash_laws.specs.clone_parts.declared.faults.KeepFault.{KeepFault}
use Rattle.shell_session.specs.ShellReply.{Says, GenerationsSpent}
use Rattle.shell_session.proofs.LiveLaws.{IsKeepReply, keep_goes, compacts_either}
use Rattle.shell_session.proofs.live.compacted.Goals as goal

pub unreachable-requires : goal.unreachable-requires
unreachable-requires g c = absurd (cc (c.requires, (c.in-Err-Closed.ensures.closed c.in-Err-Closed.field-0-0).0 (λ i. Err (c.in-Err-Closed.field-0-is i))))

pub returns-in-Ok-clause-done : goal.returns-in-Ok-clause-done
returns-in-Ok-clause-done g c =
    let log = g.B.Banks.log in
    let meter = g.B.Banks.meter in
    let old = c.args.clone.now in
    let new = c.compact.new.self in
    keep_goes log meter old new (HasNeighbours old.local.entries) (LocallyCompacts old.local) (Ok c.in-Ok.count) (Says (Kept c.in-Ok.count)) refl c.requires
    (compacts_either log meter old new c.in-Ok.ensures.ok.0, c.in-Ok.ensures.ok.1) c.in-Ok.ensures.spent tt c.in-Ok.ensures.durable

pub returns-in-Err-GenerationsSpent-clause-done : goal.returns-in-Err-GenerationsSpent-clause-done
returns-in-Err-GenerationsSpent-clause-done g c =
    let at = c.in-Err-GenerationsSpent in
    let old = c.args.clone.now in
    keep_goes g.B.Banks.log g.B.Banks.meter old c.compact.new.self (HasNeighbours old.local.entries) (LocallyCompacts old.local) (Err at.field-0) GenerationsSpent
    (subst (λ (f : KeepFault). IsKeepReply (Err f) GenerationsSpent) (sym at.field-0-is) refl) c.requires tt at.ensures.spent at.ensures.left at.ensures.durable
