use Rattle.std.proofs.Common.{ℕ, List, IsOk, ◌∙◌, ap, subst}
use Rattle.std.proofs.lemmas.Result.{on_ok_weaker}
use Rattle.tree_clock.specs.Clock.{ClockValue, HasRoom}
use Rattle.tree_clock.specs.Lists.{Has}
use Rattle.tree_clock.specs.Trees.{nodes, HasNode}
use Rattle.tree_clock.proofs.ClockLemmas.{Has-grown, listed-grown}
use Rattle.tree_clock.proofs.TreeLemmas.{Has-nodes, HasNode-from_nodes}
use Rattle.tree_clock.proofs.clocks.Clock.reserve.Goals as goal

pub returns-clause-ticks : goal.returns-clause-ticks
returns-clause-ticks c =
    listed-grown c.self.inside.root c.reserve.new.self c.reserve.ensures.grows ∙ ap (λ (v : ClockValue). v.ticks) c.self.view_is

pub returns-clause-ok : goal.returns-clause-ok
returns-clause-ok c =
    on_ok_weaker c.reserve.result (λ (h : HasNode c.reserve.new.self c.args.path.now). Has-nodes c.reserve.new.self c.args.path.now h) c.reserve.ensures.ok

pub returns-clause-succeeds : goal.returns-clause-succeeds
returns-clause-succeeds c =
    subst (λ (v : ClockValue). HasRoom v c.args.path.now → IsOk c.reserve.result) c.self.view_is
    (λ h. c.reserve.ensures.succeeds (HasNode-from_nodes c.self.inside.root c.args.path.now h))

pub returns-clause-keeps : goal.returns-clause-keeps
returns-clause-keeps c =
    subst (λ (v : ClockValue). (other : List ℕ) → HasRoom v other → Has (nodes c.reserve.new.self) other) c.self.view_is
    (Has-grown c.self.inside.root c.reserve.new.self c.reserve.ensures.grows)
