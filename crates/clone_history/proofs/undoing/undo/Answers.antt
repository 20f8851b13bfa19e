use Rattle.std.proofs.lemmas.Result.{err_from_is_err_and}
use Rattle.clone_history.specs.Undoing.{IsDueUndo}
use Rattle.clone_core.specs.CloneClosing.{update_stop}
use Rattle.clone_core.specs.CloneUpdates.{IsDueUpdate}
use Rattle.clone_history.proofs.UndoLaws.{undo_restores, update_refuses, update_closed, done_closed, leaves_due, undo_steps, undoing_closed, undoing_steps, undoing_unspent}
use Rattle.clone_history.proofs.undoing.undo.Goals as goal

-- ---- no plan

pub returns-in_err-plan-clause-closed : goal.returns-in_err-plan-clause-closed
returns-in_err-plan-clause-closed g c =
    let p = err_from_is_err_and c.from_residual.result c.from_residual.ensures.1 in
    rw (p.1, p.2) (undoing_closed c.in_err-plan.field-0.0 c.args.clone.now.closed c.in_err-plan.ensures.closed)

pub returns-in_err-plan-clause-spent : goal.returns-in_err-plan-clause-spent
returns-in_err-plan-clause-spent g c =
    let p = err_from_is_err_and c.from_residual.result c.from_residual.ensures.1 in
    rw (p.1, p.2) (undoing_unspent c.args.clone.now c.args.dot.now c.in_err-plan.field-0.0 c.in_err-plan.ensures.refused c.in_err-plan.ensures.closed)

pub returns-in_err-plan-clause-durable : goal.returns-in_err-plan-clause-durable
returns-in_err-plan-clause-durable g c =
    let p = err_from_is_err_and c.from_residual.result c.from_residual.ensures.1 in
    rw (p.1, p.2)
    (undoing_steps g.B.Banks.log g.B.Banks.meter c.args.clone.now c.args.dot.now c.in_err-plan.field-0.0 c.in_err-plan.ensures.refused)

-- ---- an update that is refused

pub returns-in_err-update-clause-closed : goal.returns-in_err-update-clause-closed
returns-in_err-update-clause-closed g c =
    let p = err_from_is_err_and c.from_residual-in_err-update.result c.from_residual-in_err-update.ensures.1 in
    rw (p.1, p.2) (update_closed c.in_err-update.field-0.0 c.args.clone.now.closed c.in_err-update.ensures.closed)

pub returns-in_err-update-clause-refused : goal.returns-in_err-update-clause-refused
returns-in_err-update-clause-refused g c =
    let p = err_from_is_err_and c.from_residual-in_err-update.result c.from_residual-in_err-update.ensures.1 in
    rw (p.1, p.2)
    (update_refuses c.args.clone.now.local c.args.dot.now c.in_ok-plan.plan c.in_err-update.field-0.0 c.in_ok-plan.ensures.plan c.in_err-update.ensures.refused)

pub returns-in_err-update-clause-left : goal.returns-in_err-update-clause-left
returns-in_err-update-clause-left g c =
    let p = err_from_is_err_and c.from_residual-in_err-update.result c.from_residual-in_err-update.ensures.1 in
    rw (p.1, p.2)
    (leaves_due g.B.Banks.log g.B.Banks.meter (IsDueUpdate c.args.clone.now.local c.in_ok-plan.plan) (IsDueUndo c.args.clone.now.local c.args.dot.now) c.args.clone.now c.update.new.self
    (update_stop c.in_err-update.field-0.0) (λ due. record { plan = c.in_ok-plan.plan; undo = c.in_ok-plan.ensures.plan; due = due }) c.in_err-update.ensures.left)

pub returns-in_err-update-clause-durable : goal.returns-in_err-update-clause-durable
returns-in_err-update-clause-durable g c =
    let p = err_from_is_err_and c.from_residual-in_err-update.result c.from_residual-in_err-update.ensures.1 in
    rw (p.1, p.2)
    (undo_steps g.B.Banks.log g.B.Banks.meter c.args.clone.now c.update.new.self.banks c.args.dot.now c.in_ok-plan.plan c.in_err-update.field-0.0 c.in_ok-plan.ensures.plan
    c.in_err-update.ensures.durable)

-- ---- one that is done

pub returns-clause-restores : goal.returns-clause-restores
returns-clause-restores g c =
    undo_restores c.args.clone.now.local c.update.new.self.local c.args.dot.now c.in_ok-update.field-0 c.known.ensures.local
    (record { plan = c.in_ok-plan.plan; undo = c.in_ok-plan.ensures.plan; updates = c.in_ok-update.ensures.ok })

pub returns-clause-closed : goal.returns-clause-closed
returns-clause-closed g c = done_closed c.in_ok-update.field-0 c.args.clone.now.closed c.in_ok-update.ensures.closed
