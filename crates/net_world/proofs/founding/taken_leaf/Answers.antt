use Rattle.std.proofs.Common.{◌≡◌, ◌∙◌, ap, refl, rules, subst}
use Rattle.mld_ops.specs.Messages.{GiveValue, give_value}
use Rattle.mld_model.specs.Local.{joined_clone}
use Rattle.net_world.proofs.FoundingLemmas.{given_is}
use Rattle.clone_core.specs.clone_parts.KeptSteps.{LeavesMade}
use Rattle.clone_core.specs.Banked.{head_of}
use Rattle.net_world.proofs.FoundingFronts.{give_for, taking_stops}
use Rattle.net_world.proofs.founding.taken_leaf.Goals as goal

pub returns-in-Joined-clause-taken : goal.returns-in-Joined-clause-taken
returns-in-Joined-clause-taken g c = λ leaf gives.
    let adopts = c.in-Joined.ensures.adopts in
    let same : give_value adopts.0 ≡ leaf = given_is c.args.asker.asker leaf c.args.answer.now c.index-as_slice-0.result adopts.0 gives (search rules) adopts.1 in
    record {
      clone = c.in-Joined.clone;
      is = refl;
      opened = record { opened = adopts.3; first = adopts.4 };
      local = adopts.2 ∙ ap (λ (l : GiveValue). joined_clone c.args.asker.asker l) same;
    }

pub returns-in-Refused-clause-left : goal.returns-in-Refused-clause-left
returns-in-Refused-clause-left g c = λ leaf gives.
    let log = g.B.Banks.log in
    let meter = g.B.Banks.meter in
    let made = c.in-Refused.ensures.durable gives.give (give_for log meter c.args.asker.asker leaf c.args.answer.now c.index-as_slice-0.result gives (search rules)) in
    taking_stops log meter c.args.number c.args.asker leaf c.in-Refused.banks c.in-Refused.fault c.made_fault.result c.made_fault.ensures
    (subst (λ (l : GiveValue). LeavesMade log meter (head_of (joined_clone c.args.asker.asker l)) c.args.asker.banks c.in-Refused.banks) gives.is made.moments)
