use Rattle.std.proofs.Common.{◌≡◌, ℕ, List, max, ◌∙◌, ap, subst}
use Rattle.tree_clock.specs.Clock.{ticks_of, ClockValue, HasRoom}
use Rattle.tree_clock.specs.Lists.{Has}
use Rattle.tree_clock.specs.Trees.{listed, nodes}
use Rattle.tree_clock.proofs.ClockLemmas.{Has-kept, Has-grown, HasNode-merged, listed-grown, ticks_of-merged, on_err_always}
use Rattle.tree_clock.proofs.TreeLemmas.{HasNode-grown, IsClock-listed}
use Rattle.tree_clock.proofs.clocks.Clock.merge.Goals as goal

pub returns-in_err-reserve_in-clause-err : goal.returns-in_err-reserve_in-clause-err
returns-in_err-reserve_in-clause-err c =
    on_err_always c.from_residual.result (listed-grown c.self.inside.root c.reserve_in.new.into c.reserve_in.ensures.grows ∙ ap (λ (v : ClockValue). v.ticks) c.self.view_is)

pub returns-in_err-reserve_in-clause-keeps : goal.returns-in_err-reserve_in-clause-keeps
returns-in_err-reserve_in-clause-keeps c =
    subst (λ (v : ClockValue). (path : List ℕ) → HasRoom v path → Has (nodes c.reserve_in.new.into) path) c.self.view_is
    (Has-grown c.self.inside.root c.reserve_in.new.into c.reserve_in.ensures.grows)

pub returns-clause-ok : goal.returns-clause-ok
returns-clause-ok c =
    let new = listed c.raise_in.new.into in
    subst (λ (v : ClockValue). (path : List ℕ) → ticks_of new path ≡ max (ticks_of v.ticks path) (ticks_of c.args.other.now.ticks path)) c.self.view_is
    (subst (λ (w : ClockValue). (path : List ℕ) → ticks_of new path ≡ max (ticks_of (listed c.self.inside.root) path) (ticks_of w.ticks path)) c.other.view_is
    (ticks_of-merged c.self.inside.root c.reserve_in.new.into c.raise_in.new.into c.other.inside.root c.reserve_in.ensures.grows c.in_ok-reserve_in.ensures.ok c.raise_in.ensures.raises))

pub returns-clause-keeps : goal.returns-clause-keeps
returns-clause-keeps c =
    subst (λ (v : ClockValue). (path : List ℕ) → HasRoom v path → Has (nodes c.raise_in.new.into) path) c.self.view_is
    (Has-kept c.self.inside.root c.raise_in.new.into (λ path h.
    HasNode-merged c.reserve_in.new.into c.raise_in.new.into c.other.inside.root c.raise_in.ensures.raises path (HasNode-grown c.self.inside.root c.reserve_in.new.into path c.reserve_in.ensures.grows h)))

pub returns-in_err-reserve_in-clause-clock : goal.returns-in_err-reserve_in-clause-clock
returns-in_err-reserve_in-clause-clock c = IsClock-listed c.reserve_in.new.into

pub returns-clause-clock : goal.returns-clause-clock
returns-clause-clock c = IsClock-listed c.raise_in.new.into
