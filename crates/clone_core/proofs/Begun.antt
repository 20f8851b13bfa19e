-- Clones that begin with what a head has.
use Rattle.std.proofs.Common.{◌≡◌, ℕ, ◌≤◌, List, [], sym, subst, arith}
use Rattle.tree_clock.specs.Lists.{Has}
use Rattle.tree_clock.specs.Clock.{Covers, IsClock}
use Rattle.mld_ops.specs.declared.tagged.Tagged.{Tagged}
use Rattle.mld_ops.specs.Entry.{EntryValue}
use Rattle.mld_ops.specs.Held.{held_limit}
use Rattle.mld_ops.specs.Messages.{IsGoodSnapshot}
use Rattle.journal_sides.specs.Heads.{HeadValue}
use Rattle.mld_model.specs.Local.{IsLocal, IsNamed, LeadsTo}
use Rattle.suset.specs.SnapshotJoin.{CoversAll}
use Rattle.clone_core.specs.FoundClone.{found_clone}
use Rattle.clone_parts.specs.declared.replays.Replayed.{Replayed}

none_held : 0 ≤ held_limit
none_held = omega arith

-- a clone that has what the entries behind its head lead to
pub found_local : (head : HeadValue) (path : List ℕ) (replayed : Replayed) → IsNamed head.domain head.properties → IsClock head.base.ticks → IsGoodSnapshot head.base
    → LeadsTo head.base.ticks head.base.pairs replayed.entries.items replayed.clock.ticks replayed.pairs.pairs → CoversAll replayed.clock.ticks replayed.pairs.pairs
    → IsLocal (found_clone head path replayed)
found_local head path replayed named clock base leads covered = record {
  named = named;
  base = clock;
  base_pairs = base.ascending;
  base_covered = base.covered;
  leads = leads;
  covered = covered;
  held = none_held;
}

-- a clone that has no entries
pub begun_local : (head : HeadValue) (path : List ℕ) (replayed : Replayed) → IsNamed head.domain head.properties → IsClock head.base.ticks → IsGoodSnapshot head.base
    → replayed.clock.ticks ≡ head.base.ticks → replayed.pairs.pairs ≡ head.base.pairs → replayed.entries.items ≡ [] → IsLocal (found_clone head path replayed)
begun_local head path replayed named clock base ticks pairs none =
    found_local head path replayed named clock base
    (subst (λ (es : List EntryValue). LeadsTo head.base.ticks head.base.pairs es replayed.clock.ticks replayed.pairs.pairs) (sym none) (ticks, pairs))
    (λ pair h.
    subst (λ (ts : List (List ℕ × ℕ)). Covers ts pair.dot) (sym ticks)
    (base.covered pair (subst (λ (ps : List Tagged). Has ps pair) pairs h)))
