use Rattle.std.proofs.Common.{ℕ, List, sym, subst}
use Rattle.mld_ops.specs.declared.tagged.Tagged.{Tagged}
use Rattle.mld_ops.specs.Entry.{EntryValue}
use Rattle.suset.specs.SnapshotJoin.{CoversAll}
use Rattle.mld_model.specs.Local.{LeadsTo}
use Rattle.clone_parts.specs.Replays.{AreReadyEntries}
use Rattle.clone_parts.proofs.ReadyLaws.{good_ready}
use Rattle.clone_parts.proofs.replays.replay.Goals as goal

pub from_pairs-requires : goal.from_pairs-requires
from_pairs-requires c = c.requires.head.base.ascending

pub take_all-requires-clause-ready : goal.take_all-requires-clause-ready
take_all-requires-clause-ready c =
    let base = c.args.head.now.base.ticks in
    subst (λ (es : List EntryValue). AreReadyEntries c.in_ok-clock.clock.ticks es) (sym c.as_slice.ensures.value)
    (subst (λ (ts : List (List ℕ × ℕ)). AreReadyEntries ts c.args.entries.items) (sym c.in_ok-clock.ensures.ok) (good_ready base c.args.entries.items c.requires.entries))

pub take_all-requires-clause-covered : goal.take_all-requires-clause-covered
take_all-requires-clause-covered c =
    subst (λ (ps : List Tagged). CoversAll c.in_ok-clock.clock.ticks ps) (sym c.in_ok-pairs.ensures)
    (subst (λ (ts : List (List ℕ × ℕ)). CoversAll ts c.args.head.now.tagged) (sym c.in_ok-clock.ensures.ok) c.requires.head.base.covered)

pub returns-clause-leads : goal.returns-clause-leads
returns-clause-leads c =
    let ticks = c.take_all.new.clock.ticks in
    let pairs = c.take_all.new.pairs.pairs in
    subst (λ (ts : List (List ℕ × ℕ)). LeadsTo ts c.args.head.now.tagged c.args.entries.items ticks pairs) c.in_ok-clock.ensures.ok
    (subst (λ (ps : List Tagged). LeadsTo c.in_ok-clock.clock.ticks ps c.args.entries.items ticks pairs) c.in_ok-pairs.ensures
    (subst (λ (es : List EntryValue). LeadsTo c.in_ok-clock.clock.ticks c.in_ok-pairs.pairs.pairs es ticks pairs) c.as_slice.ensures.value c.in_ok-take_all.ensures.leads))
