use Rattle.std.proofs.Common.{◌≡◌, ℕ, List, sym, subst}
use Rattle.mld_ops.specs.declared.tagged.Tagged.{Tagged}
use Rattle.suset.specs.SnapshotJoin.{CoversAll}
use Rattle.mld_model.specs.Local.{LeadsTo}
use Rattle.clone_parts.proofs.replays.led_to.Goals as goal

pub from_pairs-requires : goal.from_pairs-requires
from_pairs-requires c = c.requires.ascending

pub take_all-requires-clause-covered : goal.take_all-requires-clause-covered
take_all-requires-clause-covered c =
    subst (λ (ps : List Tagged). CoversAll c.in_ok-clock.clock.ticks ps) (sym c.in_ok-graph.ensures)
    (subst (λ (ts : List (List ℕ × ℕ)). CoversAll ts c.args.pairs.now) (sym c.in_ok-clock.ensures.ok) c.requires.covered)

pub returns-clause-leads : goal.returns-clause-leads
returns-clause-leads c =
    let same : c.in_ok-graph.graph.pairs ≡ c.args.pairs.now = c.in_ok-graph.ensures in
    let ticks = c.take_all.new.clock.ticks in
    let entries = c.args.entries.now in
    subst (λ (ps : List Tagged). LeadsTo c.args.base.now.ticks c.args.pairs.now entries ticks ps) (sym c.in_ok-led.ensures.pairs)
    (subst (λ (ts : List (List ℕ × ℕ)). LeadsTo ts c.args.pairs.now entries ticks c.take_all.new.pairs.pairs) c.in_ok-clock.ensures.ok
    (subst (λ (ps : List Tagged). LeadsTo c.in_ok-clock.clock.ticks ps entries ticks c.take_all.new.pairs.pairs) same c.in_ok-take_all.ensures.leads))
