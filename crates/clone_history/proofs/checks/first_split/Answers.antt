use Rattle.std.proofs.Common.{ℕ, List, subst}
use Rattle.tree_clock.specs.Clock.{Covers}
use Rattle.clone_history.specs.KeptMembers.{FindsFirst}
use Rattle.clone_history.specs.PastStates.{last_dots}
use Rattle.clone_history.proofs.PastSteps.{split_found}
use Rattle.clone_history.proofs.checks.first_split.Goals as goal

pub returns : goal.returns
returns c =
    let reached = c.in_ok-reached.reached.ticks in
    split_found c.args.clock.now.ticks c.args.base.now.ticks c.args.entries.now reached c.first_lacking.result c.requires.clock c.requires.part c.in_ok-reached.ensures
    (subst (λ (ends : List (List ℕ × ℕ)). FindsFirst (λ dot. ¬ Covers reached dot) (last_dots ends) c.first_lacking.result) c.requires.ends c.first_lacking.ensures)
