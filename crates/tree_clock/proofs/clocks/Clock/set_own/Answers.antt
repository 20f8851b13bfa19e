use Rattle.std.proofs.Common.{sym, subst}
use Rattle.tree_clock.specs.Clock.{ClockValue, HasRoom}
use Rattle.tree_clock.proofs.TreeLemmas.{HasNode-from_nodes}
use Rattle.tree_clock.proofs.clocks.Clock.set_own.Goals as goal

pub set_own-requires-clause-node : goal.set_own-requires-clause-node
set_own-requires-clause-node c =
    let path = c.args.path.now in
    HasNode-from_nodes c.self.inside.root path (subst (λ (v : ClockValue). HasRoom v path) (sym c.self.view_is) c.requires)
