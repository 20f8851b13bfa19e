use Rattle.std.proofs.Common.{ℕ, List, sym, subst}
use Rattle.tree_clock.specs.Lists.{IsAscending}
use Rattle.mld_ops.specs.declared.tagged.Tagged.{Tagged}
use Rattle.mld_ops.specs.Entry.{EntryValue}
use Rattle.mld_ops.specs.Tagged.{tagged_cmp}
use Rattle.clone_history.specs.PastParts.{AreReadyKept, LeadsToPairs}
use Rattle.clone_history.proofs.PastLaws.{ready_within, state_within}
use Rattle.clone_history.proofs.PastMeanings.{past_means}
use Rattle.clone_history.proofs.past.graph_as_of.Goals as goal

pub pairs_within-requires-clause-ascending : goal.pairs_within-requires-clause-ascending
pairs_within-requires-clause-ascending g c =
    subst (λ (ps : List Tagged). IsAscending tagged_cmp ps) (sym c.base_pairs.ensures) c.known.ensures.local.base_pairs

pub pairs_within-requires-clause-ready : goal.pairs_within-requires-clause-ready
pairs_within-requires-clause-ready g c =
    let clone = c.args.clone.now.local in
    let ticks = c.args.clock.now.ticks in
    subst (λ (ts : List (List ℕ × ℕ)). AreReadyKept ticks ts c.journal.result.now) (sym c.base.ensures)
    (subst (λ (es : List EntryValue). AreReadyKept ticks clone.base es) (sym c.journal.ensures) (ready_within clone ticks c.known.ensures.local c.in_ok-can_tell.ensures.ok))

pub returns-clause-state : goal.returns-clause-state
returns-clause-state g c =
    let clone = c.args.clone.now.local in
    let ticks = c.args.clock.now.ticks in
    let new = c.in_ok-pairs_within.field-0.pairs in
    state_within clone ticks c.known.ensures.local c.in_ok-can_tell.ensures.ok new c.in_ok-can_tell.ensures.clock
    (subst (λ (es : List EntryValue). LeadsToPairs ticks es clone.base clone.base_pairs new) c.journal.ensures
    (subst (λ (ts : List (List ℕ × ℕ)). LeadsToPairs ticks c.journal.result.now ts clone.base_pairs new) c.base.ensures
    (subst (λ (ps : List Tagged). LeadsToPairs ticks c.journal.result.now c.base.result.now.ticks ps new) c.base_pairs.ensures c.in_ok-pairs_within.ensures)))

pub returns-clause-meaning : goal.returns-clause-meaning
returns-clause-meaning g c = past_means c.args.clone.now.local c.args.clock.now.ticks c.in_ok-pairs_within.field-0.pairs (returns-clause-state g c)
