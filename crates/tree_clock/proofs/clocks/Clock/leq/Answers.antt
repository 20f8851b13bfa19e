use Rattle.std.proofs.Common.{ℕ, ◌<◌, ◌≤◌, List, MatchBool, subst}
use Rattle.tree_clock.specs.Clock.{ticks_of, ClockValue}
use Rattle.tree_clock.specs.Trees.{listed}
use Rattle.tree_clock.proofs.ClockLemmas.{paths_listed, dots_listed}
use Rattle.tree_clock.proofs.clocks.Clock.leq.Goals as goal

pub returns-clause-paths : goal.returns-clause-paths
returns-clause-paths c =
    let r = c.leq.result in
    subst (λ (v : ClockValue). MatchBool r ((path : List ℕ) → ticks_of v.ticks path ≤ ticks_of c.args.other.now.ticks path) ((path : List ℕ) × (ticks_of c.args.other.now.ticks path < ticks_of v.ticks path))) c.self.view_is
    (subst (λ (w : ClockValue). MatchBool r ((path : List ℕ) → ticks_of (listed c.self.inside.root) path ≤ ticks_of w.ticks path) ((path : List ℕ) × (ticks_of w.ticks path < ticks_of (listed c.self.inside.root) path))) c.other.view_is
    (paths_listed r c.self.inside.root c.other.inside.root c.leq.ensures))

pub returns-clause-dots : goal.returns-clause-dots
returns-clause-dots c = dots_listed c.leq.result c.args.self.now.ticks c.args.other.now.ticks (returns-clause-paths c)
