use Rattle.std.proofs.Common.{Ok, Err, refl, sym, ap, subst}
use Rattle.tree_clock.specs.declared.dots.Dot.{Dot}
use Rattle.mld_model.specs.Reply.{NoOperation, TooMany, Single}
use Rattle.crash_laws.specs.clone_parts.declared.answers.Done.{Done}
use Rattle.crash_laws.specs.clone_parts.declared.faults.UpdateFault.{UpdateFault}
use Rattle.shell_session.specs.ShellReply.{Says, DidAt, TicksSpent}
use Rattle.shell_session.proofs.LiveLaws.{IsUpdateReply, update_goes}
use Rattle.shell_session.proofs.live.updated.Goals as goal

pub unreachable-requires : goal.unreachable-requires
unreachable-requires g c = absurd (cc (c.requires.opened, (c.in-Err-Closed.ensures.closed c.in-Err-Closed.field-0-0).0 (λ i. Err (c.in-Err-Closed.field-0-is i))))

pub returns-in-Ok-Nothing-clause-done : goal.returns-in-Ok-Nothing-clause-done
returns-in-Ok-Nothing-clause-done g c =
    let at = c.in-Ok-Nothing in
    update_goes g.B.Banks.log g.B.Banks.meter c.args.clone.now c.update.new.self c.args.plan.now (Ok at.field-0) (Says NoOperation)
    (subst (λ (d : Done). IsUpdateReply (Ok d) (Says NoOperation)) (sym at.field-0-is) refl) c.requires.opened at.ensures.ok at.ensures.opened at.ensures.spent tt tt at.ensures.durable

pub returns-in-Ok-Made-clause-done : goal.returns-in-Ok-Made-clause-done
returns-in-Ok-Made-clause-done g c =
    let at = c.in-Ok-Made in
    update_goes g.B.Banks.log g.B.Banks.meter c.args.clone.now c.update.new.self c.args.plan.now (Ok at.field-0) (DidAt c.dot_of.result)
    (subst (λ (d : Done). IsUpdateReply (Ok d) (DidAt c.dot_of.result)) (sym at.field-0-is) (ap (λ (d : Dot). DidAt d) c.dot_of.ensures))
    c.requires.opened at.ensures.ok at.ensures.opened at.ensures.spent tt tt at.ensures.durable

pub returns-in-Err-TooMany-clause-done : goal.returns-in-Err-TooMany-clause-done
returns-in-Err-TooMany-clause-done g c =
    let at = c.in-Err-TooMany in
    update_goes g.B.Banks.log g.B.Banks.meter c.args.clone.now c.update.new.self c.args.plan.now (Err at.field-0) (Says TooMany)
    (subst (λ (f : UpdateFault). IsUpdateReply (Err f) (Says TooMany)) (sym at.field-0-is) refl) c.requires.opened tt tt at.ensures.spent at.ensures.refused at.ensures.left at.ensures.durable

pub returns-in-Err-Single-clause-done : goal.returns-in-Err-Single-clause-done
returns-in-Err-Single-clause-done g c =
    let at = c.in-Err-Single in
    update_goes g.B.Banks.log g.B.Banks.meter c.args.clone.now c.update.new.self c.args.plan.now (Err at.field-0) (Says (Single at.s at.p))
    (subst (λ (f : UpdateFault). IsUpdateReply (Err f) (Says (Single at.s at.p))) (sym at.field-0-is) refl) c.requires.opened tt tt at.ensures.spent at.ensures.refused at.ensures.left at.ensures.durable

pub returns-in-Err-TicksSpent-clause-done : goal.returns-in-Err-TicksSpent-clause-done
returns-in-Err-TicksSpent-clause-done g c =
    let at = c.in-Err-TicksSpent in
    update_goes g.B.Banks.log g.B.Banks.meter c.args.clone.now c.update.new.self c.args.plan.now (Err at.field-0) TicksSpent
    (subst (λ (f : UpdateFault). IsUpdateReply (Err f) TicksSpent) (sym at.field-0-is) refl) c.requires.opened tt tt at.ensures.spent at.ensures.refused at.ensures.left at.ensures.durable
