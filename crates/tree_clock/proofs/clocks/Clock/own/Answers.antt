use Rattle.std.proofs.Common.{ℕ, List, ◌++◌, ◌∙◌, ap}
use Rattle.std.specs.Option.{option_map}
use Rattle.tree_clock.specs.Clock.{own_dot}
use Rattle.tree_clock.specs.Trees.{own_of, ticks_at}
use Rattle.tree_clock.specs.declared.dots.Dot.{Dot}
use Rattle.tree_clock.proofs.ClockLemmas.{own_listed}
use Rattle.tree_clock.proofs.clocks.Clock.own.Goals as goal

pub returns : goal.returns
returns c =
    let tree = c.self.inside.root in
    c.own_dot.ensures
    ∙ ap (λ (path : List ℕ). option_map {U = Dot} (λ rest. record { path = path ++ rest; tick = ticks_at tree rest }) (own_of tree)) c.root.ensures
    ∙ own_listed tree (own_of tree)
    ∙ ap own_dot c.self.view_is
