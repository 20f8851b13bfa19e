use Rattle.std.proofs.Common.{ℕ, List, sym, subst}
use Rattle.tree_clock.specs.Clock.{ClockValue, HasRoom, RaisesTo}
use Rattle.tree_clock.specs.Lists.{Has}
use Rattle.tree_clock.specs.Trees.{HasNode, listed, nodes}
use Rattle.tree_clock.proofs.ClockLemmas.{Has-kept, HasNode-raised, RaisesTo-listed}
use Rattle.tree_clock.proofs.TreeLemmas.{HasNode-from_nodes, IsClock-listed}
use Rattle.tree_clock.proofs.clocks.Clock.raise.Goals as goal

pub raise-requires-clause-node : goal.raise-requires-clause-node
raise-requires-clause-node c =
    let dot = c.args.dot.now in
    HasNode-from_nodes c.self.inside.root dot.path (subst (λ (v : ClockValue). HasRoom v dot.path) (sym c.self.view_is) c.requires)

pub returns-clause-raised : goal.returns-clause-raised
returns-clause-raised c =
    let dot = c.args.dot.now in
    let node : HasNode c.self.inside.root dot.path = HasNode-from_nodes c.self.inside.root dot.path (subst (λ (v : ClockValue). HasRoom v dot.path) (sym c.self.view_is) c.requires) in
    subst (λ (v : ClockValue). RaisesTo v.ticks (listed c.raise.new.self) dot) c.self.view_is
    (RaisesTo-listed c.self.inside.root c.raise.new.self dot node c.raise.ensures.raises)

pub returns-clause-keeps : goal.returns-clause-keeps
returns-clause-keeps c =
    let dot = c.args.dot.now in
    subst (λ (v : ClockValue). (other : List ℕ) → HasRoom v other → Has (nodes c.raise.new.self) other) c.self.view_is
    (Has-kept c.self.inside.root c.raise.new.self (HasNode-raised c.self.inside.root c.raise.new.self dot.path dot.tick c.raise.ensures.raises))

pub returns-clause-clock : goal.returns-clause-clock
returns-clause-clock c = IsClock-listed c.raise.new.self
