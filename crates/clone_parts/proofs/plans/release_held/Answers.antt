use Rattle.clone_parts.proofs.Planning.{plans_none, plans_left}
use Rattle.clone_parts.proofs.plans.release_held.Goals as goal

pub returns-then-is_settled : goal.returns-then-is_settled
returns-then-is_settled c =
    let settled = c.is_settled.ensures.0 c.if-is_settled.true in
    plans_none c.args.pairs.now.pairs c.args.plan.now c.args.held.now settled.0 settled.1

pub returns : goal.returns
returns c =
    plans_left c.args.pairs.now.pairs c.args.plan.now c.release.new.plan c.args.held.now c.in_ok-left.left c.release.new.held c.in_ok-left.ensures c.in_ok-release.ensures
