-- The state of a clone at a clock is what its entries lead to that the clock knows.
use Rattle.std.proofs.Common.{◌≡◌, ℕ, List, subst}
use Rattle.tree_clock.specs.Clock.{IsClock}
use Rattle.tree_clock.proofs.ClockLaws.{clock_from_ticks}
use Rattle.mld_ops.specs.declared.tagged.Tagged.{Tagged}
use Rattle.mld_model.specs.Local.{LocalClone, LeadsTo, IsLocal}
use Rattle.clone_history.specs.PastParts.{AreReadyKept, LeadsToPairs}
use Rattle.clone_history.specs.PastStates.{HasStateAt, IsStateAt, IsOpenIn}
use Rattle.clone_history.proofs.ClockEnds.{part_or_not}
use Rattle.clone_history.proofs.KeptLists.{none_has}
use Rattle.clone_history.proofs.KeptReady.{IsAlong, base_along, all_ready_kept, kept_reach}

module _ (clone : LocalClone) (ticks : List (List ℕ × ℕ)) (local : IsLocal clone) (has : HasStateAt clone ticks) where
  -- the base is along
  along : IsAlong ticks clone.base clone.base clone.entries
  along = base_along ticks clone has.base has.between

  -- those that the clock knows are ready one after another
  pub ready_within : AreReadyKept ticks clone.base clone.entries
  ready_within =
      all_ready_kept ticks clone.base clone.base clone.base_pairs clone.entries clone.ticks clone.pairs along local.leads
      (λ entry h known. part_or_not entry.time ticks (λ lacks. none_has (IsOpenIn ticks) clone.entries entry has.closed h (record { known = known; open_time = lacks })))

  -- what they lead to is the state
  pub state_within : (pairs : List Tagged) → IsClock ticks → LeadsToPairs ticks clone.entries clone.base clone.base_pairs pairs → IsStateAt clone ticks pairs
  state_within pairs is leads =
      let same : leads.after ≡ ticks =
      clock_from_ticks leads.after ticks leads.is is
      (kept_reach ticks clone.base clone.base clone.base_pairs clone.base_pairs clone.entries leads.leads.kept clone.ticks leads.after clone.pairs pairs along local.leads
      leads.leads.keeps leads.leads.leads) in
      record {
        entries = leads.leads.kept;
        kept = leads.leads.keeps;
        leads = subst (λ (ts : List (List ℕ × ℕ)). LeadsTo clone.base clone.base_pairs leads.leads.kept ts pairs) same leads.leads.leads;
      }
