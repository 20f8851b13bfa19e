use Rattle.std.proofs.Common.{◌++◌, ◌∙◌, ap, subst}
use Rattle.tree_clock.specs.Clock.{ClockValue, IsClock}
use Rattle.tree_clock.specs.Trees.{listed, under}
use Rattle.tree_clock.proofs.TreeLemmas.{under-root, IsClock-listed}
use Rattle.tree_clock.proofs.clocks.Clock.to_list.Goals as goal

pub returns-in_err-append_to-clause-clock : goal.returns-in_err-append_to-clause-clock
returns-in_err-append_to-clause-clock c = subst (λ (v : ClockValue). IsClock v.ticks) c.self.view_is (IsClock-listed c.self.inside.root)

pub returns-clause-ok : goal.returns-clause-ok
returns-clause-ok c =
    let entries = listed c.self.inside.root in
    c.in_ok-append_to.ensures
    ∙ (λ i. c.new-list.ensures.items i ++ under (c.root.ensures i) entries)
    ∙ under-root entries
    ∙ ap (λ (v : ClockValue). v.ticks) c.self.view_is

pub returns-clause-clock : goal.returns-clause-clock
returns-clause-clock c = subst (λ (v : ClockValue). IsClock v.ticks) c.self.view_is (IsClock-listed c.self.inside.root)
