use Rattle.std.proofs.Common.{◌≢◌, IsTrue, ◌↔◌, subst}
use Rattle.tree_clock.specs.Clock.{Covers, ClockValue}
use Rattle.tree_clock.specs.Trees.{listed}
use Rattle.tree_clock.specs.declared.dots.Dot.{Dot}
use Rattle.tree_clock.proofs.ClockLemmas.{dots_elsewhere}
use Rattle.tree_clock.proofs.clocks.Clock.leq_elsewhere.Goals as goal

pub returns : goal.returns
returns c =
    let r = c.leq_elsewhere.result in
    let path = c.args.path.now in
    subst (λ (v : ClockValue). IsTrue r ↔ ((dot : Dot) → dot.path ≢ path → Covers v.ticks dot → Covers c.args.other.now.ticks dot)) c.self.view_is
    (subst (λ (w : ClockValue). IsTrue r ↔ ((dot : Dot) → dot.path ≢ path → Covers (listed c.self.inside.root) dot → Covers w.ticks dot)) c.other.view_is
    (dots_elsewhere r path c.self.inside.root c.other.inside.root c.leq_elsewhere.ensures))
