-- A clone that truncates its journal stands for one of the model that does.
use Rattle.std.proofs.Common.{◌≡◌, ℕ, zero, suc, ◌-◌, List, [], ◌∷◌, ◌++◌, ◌↔◌, refl, sym, ap, subst, length, take, drop}
use Rattle.std.specs.List.{AllZip}
use Rattle.std.proofs.lemmas.List.{take-append-drop}
use Rattle.tree_clock.specs.declared.dots.Range.{Range}
use Rattle.tree_clock.specs.Dot.{Knows}
use Rattle.tree_clock.specs.Clock.{Covers, IsClock}
use Rattle.tree_clock.proofs.ClockLaws.{clock_from_ticks}
use Rattle.mld_ops.specs.declared.tagged.Tagged.{Tagged}
use Rattle.mld_ops.specs.Entry.{EntryValue}
use Rattle.mld_ops.specs.History.{Operation, IsLawful}
use Rattle.mld_ops.specs.Meaning.{IsMeaning}
use Rattle.suset.specs.SnapshotJoin.{CoversAll}
use Rattle.mld_model.specs.Clone.{Stored, known_of, truncated_to}
use Rattle.mld_model.specs.Sound.{IsSoundJournal, IsSoundClone}
use Rattle.mld_model.specs.Local.{LocalClone, LeadsTo, IsLocal, LocallyTruncates}
use Rattle.mld_model.specs.StandsFor.{EntryStandsFor, LocalStandsFor}
use Rattle.mld_model.proofs.JournalLaws.{journal_front}
use Rattle.mld_model.proofs.LeadsLaws.{AreSameTicks, LeadsOver, leads_over, leads_once, leads_from, leads_ascend, leads_knows}
use Rattle.mld_model.proofs.LocalLaws.{KnowsAs}
use Rattle.mld_model.proofs.MergedLaws.{known_truncated}
use Rattle.mld_model.proofs.PairsLaws.{pairs_count}

-- ---- fronts and rests of two lists that agree place by place

module _ {X Y : Type 0} (R : X → Y → Type 0) where
  pairs_front : (count : ℕ) (xs : List X) (ys : List Y) → AllZip R xs ys → AllZip R (take count xs) (take count ys)
  pairs_front zero xs ys all = tt
  pairs_front (suc count) [] [] all = tt
  pairs_front (suc count) (x ∷ xs) (y ∷ ys) all = (all.0, pairs_front count xs ys all.1)
  pairs_front (suc count) [] (y ∷ ys) all = absurd all
  pairs_front (suc count) (x ∷ xs) [] all = absurd all

  pairs_behind : (count : ℕ) (xs : List X) (ys : List Y) → AllZip R xs ys → AllZip R (drop count xs) (drop count ys)
  pairs_behind zero xs ys all = all
  pairs_behind (suc count) [] [] all = tt
  pairs_behind (suc count) (x ∷ xs) (y ∷ ys) all = pairs_behind count xs ys all.1
  pairs_behind (suc count) [] (y ∷ ys) all = absurd all
  pairs_behind (suc count) (x ∷ xs) [] all = absurd all

-- ---- a clone that truncates its journal

module _ (history : List Operation) (old new : LocalClone) (keep : ℕ) (stored : Stored) (held : List Range) (lawful : IsLawful history)
    (sound : IsSoundClone history stored) (stands : LocalStandsFor history old stored held) (truncates : LocallyTruncates old keep new) where
  -- as many entries are cut off as ranges are
  truncated_count : length old.entries - keep ≡ length stored.journal - keep
  truncated_count = ap (λ n. n - keep) (pairs_count (EntryStandsFor history) old.entries stored.journal stands.kept.entries)

  -- the clock and the pairs of its base are those of one who knows the model's base
  truncated_base : KnowsAs history (truncated_to stored keep).base new.base new.base_pairs
  truncated_base =
      let count : ℕ = length stored.journal - keep in
      let journal : IsSoundJournal history stored.base (take count stored.journal) =
      journal_front history stored.base (take count stored.journal) (drop count stored.journal)
      (subst (λ (ranges : List Range). IsSoundJournal history stored.base ranges) (sym (take-append-drop count stored.journal)) sound.journal) in
      leads_knows history stored.base (take count stored.journal) old.base old.base_pairs (take count old.entries) new.base new.base_pairs lawful journal
      (pairs_front (EntryStandsFor history) count old.entries stored.journal stands.kept.entries)
      (record { known = stands.kept.base; pairs = stands.kept.base_pairs })
      (subst (λ (n : ℕ). LeadsTo old.base old.base_pairs (take n old.entries) new.base new.base_pairs) truncated_count truncates.leads)

  -- and it stands for what the model's clone keeps then
  pub truncated_stands : LocalStandsFor history new (truncated_to stored keep) held
  truncated_stands =
      let after : Stored = truncated_to stored keep in
      let count : ℕ = length stored.journal - keep in
      let same : known_of stored ≡ known_of after = sym (known_truncated stored keep) in
      let cut : LocalClone = record old { base = new.base; base_pairs = new.base_pairs; entries = drop (length old.entries - keep) old.entries } in
      let now : LocalStandsFor history cut after held = record {
        kept = record {
          path = stands.kept.path;
          base = truncated_base.known;
          base_pairs = truncated_base.pairs;
          entries = subst (λ (n : ℕ). AllZip (EntryStandsFor history) (drop n old.entries) (drop count stored.journal)) (sym truncated_count)
              (pairs_behind (EntryStandsFor history) count old.entries stored.journal stands.kept.entries);
        };
        held = stands.held;
        known = λ dot. subst (λ (dots : List Range). Covers old.ticks dot ↔ Knows dots dot) same (stands.known dot);
        pairs = subst (λ (dots : List Range). IsMeaning history dots old.pairs) same stands.pairs;
      } in
      subst (λ (clone : LocalClone). LocalStandsFor history clone after held) (sym truncates.rest) now

-- ---- a clone alone

-- what entries lead to behind their front, from another clock with the ticks that the front leads to
rest_leads : (ticks other : List (List ℕ × ℕ)) (pairs : List Tagged) (entries : List EntryValue) (after : List (List ℕ × ℕ)) (new : List Tagged)
    → AreSameTicks ticks other → IsClock other → IsClock after → LeadsTo ticks pairs entries after new → LeadsTo other pairs entries after new
rest_leads ticks other pairs [] after new same other_is after_is leads =
    let at : AreSameTicks after other = subst (λ (ts : List (List ℕ × ℕ)). AreSameTicks ts other) (sym leads.0) same in
    (clock_from_ticks after other after_is other_is at, leads.1)
rest_leads ticks other pairs (entry ∷ entries) after new same other_is after_is leads = leads_from ticks other pairs entry entries after new same leads

-- a clone whose clocks are clocks is one once its journal is truncated, where its new base has the dots of the pairs: its clock and pairs
-- are what the rest of the journal leads to from there
pub truncated_local : (old new : LocalClone) (keep : ℕ) → CoversAll new.base new.base_pairs → IsClock old.ticks → IsClock new.base
    → IsLocal old → LocallyTruncates old keep new → IsLocal new
truncated_local old new keep base_covered ticks_are base_is local truncates =
    let count : ℕ = length old.entries - keep in
    let front : List EntryValue = take count old.entries in
    let rest : List EntryValue = drop count old.entries in
    let whole : front ++ rest ≡ old.entries = take-append-drop count old.entries in
    let over : LeadsOver old.base old.base_pairs front rest old.ticks old.pairs =
    leads_over old.base old.base_pairs front rest old.ticks old.pairs
    (subst (λ (es : List EntryValue). LeadsTo old.base old.base_pairs es old.ticks old.pairs) (sym whole) local.leads) in
    let same : AreSameTicks over.middle new.base × (over.half ≡ new.base_pairs) =
    leads_once old.base old.base old.base_pairs front over.middle new.base over.half new.base_pairs (λ path. refl) over.first truncates.leads in
    let behind : LeadsTo over.middle new.base_pairs rest old.ticks old.pairs =
    subst (λ (ps : List Tagged). LeadsTo over.middle ps rest old.ticks old.pairs) same.1 over.then in
    let now : IsLocal (record old { base = new.base; base_pairs = new.base_pairs; entries = rest }) = record {
      named = local.named;
      base = base_is;
      base_pairs = leads_ascend old.base old.base_pairs front new.base new.base_pairs truncates.leads local.base_pairs;
      base_covered = base_covered;
      leads = rest_leads over.middle new.base new.base_pairs rest old.ticks old.pairs same.0 base_is ticks_are behind;
      covered = local.covered;
      held = local.held;
    } in
    subst IsLocal (sym truncates.rest) now
