use Rattle.std.proofs.Common.{List, subst}
use Rattle.mld_ops.specs.declared.tagged.Tagged.{Tagged}
use Rattle.clone_history.specs.UndoParts.{AreTemplates}
use Rattle.clone_history.specs.Undoing.{IsPutBack}
use Rattle.clone_history.proofs.UndoPlans.{plan_takes_back, takes_back_in_form}
use Rattle.clone_history.proofs.plans.plan_against.Goals as goal

pub returns-clause-plan : goal.returns-clause-plan
returns-clause-plan c =
    let pairs = c.args.pairs.now.pairs in
    let back = subst (λ (ds : List Tagged). AreTemplates (IsPutBack pairs) (λ (pair : Tagged). pair.triple) ds c.in_ok-back.back.items) c.deletes.ensures c.in_ok-back.ensures in
    plan_takes_back c.args.entry.now pairs (record { group = c.no_group.result; deletes = c.from_vec.result; inserts = c.from_vec-2.result; fresh = 0 })
    c.in_ok-gone.gone.items c.in_ok-back.back.items c.in_ok-gone.ensures back
    (λ i. record { group = c.no_group.ensures i; deletes = c.from_vec.ensures i; inserts = c.from_vec-2.ensures i; fresh = 0 })

pub returns-clause-form : goal.returns-clause-form
returns-clause-form c =
    takes_back_in_form c.args.entry.now c.args.pairs.now.pairs (record { group = c.no_group.result; deletes = c.from_vec.result; inserts = c.from_vec-2.result; fresh = 0 })
    (returns-clause-plan c)
