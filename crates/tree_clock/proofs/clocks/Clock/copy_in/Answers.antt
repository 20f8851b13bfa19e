use Rattle.std.proofs.Common.{subst}
use Rattle.tree_clock.specs.Clock.{ClockValue, IsClock}
use Rattle.tree_clock.proofs.TreeLemmas.{IsClock-listed}
use Rattle.tree_clock.proofs.clocks.Clock.copy_in.Goals as goal

pub returns-in_err-copy_in-clause-clock : goal.returns-in_err-copy_in-clause-clock
returns-in_err-copy_in-clause-clock c = subst (λ (v : ClockValue). IsClock v.ticks) c.self.view_is (IsClock-listed c.self.inside.root)

pub returns-clause-clock : goal.returns-clause-clock
returns-clause-clock c = subst (λ (v : ClockValue). IsClock v.ticks) c.self.view_is (IsClock-listed c.self.inside.root)
