use Rattle.std.proofs.Common.{◌≤◌, sym, ◌∙◌, ap, subst}
use Rattle.tree_clock.specs.Clock.{ticks_of, IsClock, ClockValue, HasRoom}
use Rattle.tree_clock.proofs.ClockLemmas.{Has-from_ticks}
use Rattle.tree_clock.proofs.TreeLemmas.{ticks_of-listed, IsClock-listed}
use Rattle.tree_clock.proofs.clocks.Clock.ticks.Goals as goal

pub returns-clause-value : goal.returns-clause-value
returns-clause-value c =
    let path = c.args.path.now in
    c.ticks.ensures ∙ sym (ticks_of-listed c.self.inside.root path) ∙ ap (λ (v : ClockValue). ticks_of v.ticks path) c.self.view_is

pub returns-clause-known : goal.returns-clause-known
returns-clause-known c =
    let path = c.args.path.now in
    subst (λ (v : ClockValue). 1 ≤ ticks_of v.ticks path → HasRoom v path) c.self.view_is (Has-from_ticks c.self.inside.root path)

pub returns-clause-clock : goal.returns-clause-clock
returns-clause-clock c = subst (λ (v : ClockValue). IsClock v.ticks) c.self.view_is (IsClock-listed c.self.inside.root)
