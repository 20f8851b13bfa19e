-- The loop that takes the entries which a clock knows.
use Rattle.std.proofs.Common.{◌≡◌, ◌∙◌, ℕ, ◌+◌, ◌<◌, ◌≤◌, List, [], ◌∷◌, ◌++◌, length, get_or, take, drop, refl, sym, ap, subst}
use Rattle.std.proofs.lemmas.List.{drop_more}
use Rattle.tree_clock.specs.Clock.{ticks_of, RaisesTo}
use Rattle.mld_ops.specs.declared.tagged.Tagged.{Tagged}
use Rattle.mld_ops.specs.Cut.{IsCutOf}
use Rattle.mld_ops.specs.Entry.{EntryValue}
use Rattle.mld_ops.specs.Ready.{last_dot, IsKnownEntry}
use Rattle.mld_model.specs.Local.{LeadsTo}
use Rattle.clone_history.specs.PastParts.{AreReadyKept, LeadsWithin}
use Rattle.clone_history.proofs.KeptLists.{keeps_more, keeps_same, keeps_all}

-- what entries lead to with one more at their end
leads_more : (ticks : List (List ℕ × ℕ)) (pairs : List Tagged) (entries : List EntryValue) (entry : EntryValue) (middle : List (List ℕ × ℕ)) (half : List Tagged)
    (after : List (List ℕ × ℕ)) (new : List Tagged) → LeadsTo ticks pairs entries middle half → LeadsTo middle half (entry ∷ []) after new
    → LeadsTo ticks pairs (entries ++ entry ∷ []) after new
leads_more ticks pairs [] entry middle half after new leads last =
    subst (λ (ts : List (List ℕ × ℕ)). LeadsTo ts pairs (entry ∷ []) after new) leads.0
    (subst (λ (ps : List Tagged). LeadsTo middle ps (entry ∷ []) after new) leads.1 last)
leads_more ticks pairs (first ∷ entries) entry middle half after new leads last =
    (leads.0, leads.1, leads.2, leads.3, leads.4, leads_more leads.0 leads.1 entries entry middle half after new leads.5 last)

module _ (clock base : List (List ℕ × ℕ)) (first : List Tagged) (all : List EntryValue) where
  -- those of the first entries that the clock knows lead to the clock and the pairs, and those of the others are ready
  pub record IsTaking (i : ℕ) (own : List (List ℕ × ℕ)) (pairs : List Tagged) : Type 0 where
    pub within : LeadsWithin clock (take i all) base first own pairs
    pub ready : AreReadyKept clock own (drop i all)

  pub taking_none : AreReadyKept clock base all → IsTaking 0 base first
  taking_none ready = record { within = record { kept = []; keeps = refl; leads = (refl, refl) }; ready = ready }

  module _ (i : ℕ) (own : List (List ℕ × ℕ)) (pairs : List Tagged) (entry : EntryValue) (inside : i < length all) (is : entry ≡ get_or all i entry)
      (so : IsTaking i own pairs) where
    left_from : AreReadyKept clock own (entry ∷ drop (i + 1) all)
    left_from =
        subst (λ (es : List EntryValue). AreReadyKept clock own es)
        (drop_more all i entry inside ∙ ap (λ (w : EntryValue). w ∷ drop (i + 1) all) (sym is)) so.ready

    -- one more that the clock doesn't know
    pub taking_same : ¬ IsKnownEntry clock entry → IsTaking (i + 1) own pairs
    taking_same unknown = record {
      within = record {
        kept = so.within.kept;
        keeps = keeps_same (IsKnownEntry clock) all so.within.kept i entry inside is so.within.keeps unknown;
        leads = so.within.leads;
      };
      ready = left_from.1 unknown;
    }

    -- one more that it knows
    pub taking_more : (next : List (List ℕ × ℕ)) (new : List Tagged) → IsKnownEntry clock entry → RaisesTo own next (last_dot entry.range)
        → IsCutOf entry (ticks_of own entry.range.path) pairs new → IsTaking (i + 1) next new
    taking_more next new known raises cut = record {
      within = record {
        kept = so.within.kept ++ entry ∷ [];
        keeps = keeps_more (IsKnownEntry clock) all so.within.kept i entry inside is so.within.keeps known;
        leads = leads_more base first so.within.kept entry own pairs next new so.within.leads (next, new, (left_from.0 known).0, raises, cut, (refl, refl));
      };
      ready = (left_from.0 known).1 next raises;
    }

  pub taking_all : (i : ℕ) (own : List (List ℕ × ℕ)) (pairs : List Tagged) → length all ≤ i → IsTaking i own pairs → LeadsWithin clock all base first own pairs
  taking_all i own pairs past so = record {
    kept = so.within.kept;
    keeps = keeps_all (IsKnownEntry clock) all so.within.kept i past so.within.keeps;
    leads = so.within.leads;
  }
