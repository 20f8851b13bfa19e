use Rattle.std.proofs.Common.{rules, ◌≡◌, List, subst}
use Rattle.mld_ops.specs.declared.tagged.Tagged.{Tagged}
use Rattle.clone_history.specs.Undoing.{TakesBack}
use Rattle.clone_history.proofs.undoing.undo_plan.Goals as goal

pub returns-clause-plan : goal.returns-clause-plan
returns-clause-plan g c =
    let entry = c.in-Some-entry_of.entry.now in
    let plan = c.in_ok-plan_against.field-0 in
    let own : c.args.dot.now.path ≡ c.args.clone.now.local.path = search rules in
    record {
      entry = entry;
      own = record { own = own; kept = c.in-Some-entry_of.ensures; is = c.in_ok-plan_against.ensures.entry };
      takes_back = subst (λ (ps : List Tagged). TakesBack entry ps plan) c.pairs.ensures.pairs c.in_ok-plan_against.ensures.plan;
    }
