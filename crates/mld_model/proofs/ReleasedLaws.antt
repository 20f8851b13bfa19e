-- What a clone alone takes and releases is what the model's clone takes and releases.
use Rattle.std.proofs.Common.{◌≡◌, ℕ, ◌+◌, ◌≤◌, List, [], ◌∷◌, ◌++◌, ◌↔◌, refl, sym, ◌∙◌, subst, append-nil, append_assoc}
use Rattle.tree_clock.specs.declared.dots.Dot.{Dot}
use Rattle.tree_clock.specs.declared.dots.Range.{Range}
use Rattle.tree_clock.specs.Lists.{Has}
use Rattle.tree_clock.specs.Dot.{Knows}
use Rattle.tree_clock.specs.Clock.{ticks_of, Covers, RaisesTo}
use Rattle.mld_ops.specs.declared.tagged.Tagged.{Tagged}
use Rattle.mld_ops.specs.Entry.{EntryValue}
use Rattle.mld_ops.specs.History.{Operation, IsLawful}
use Rattle.mld_ops.specs.Meaning.{IsMeaning}
use Rattle.std.specs.List.{AllZip}
use Rattle.mld_ops.proofs.PickingLaws.{first_is, pairs_none, pairs_drop, pairs_first, pairs_as}
use Rattle.mld_ops.specs.Ready.{last_dot, IsKnownEntry, IsReadyEntry}
use Rattle.mld_model.specs.Clone.{Stored, known_of, with_range, IsKnown, IsReady, Releases}
use Rattle.mld_model.specs.Sound.{IsSoundClone, IsDoneRange}
use Rattle.mld_model.proofs.SoundLaws.{taker_stays_sound}
use Rattle.mld_model.specs.Local.{LocalClone, LeadsTo, LocallyReleases, LocallyAccepts}
use Rattle.mld_ops.specs.Held.{ranges_of}
use Rattle.mld_model.specs.StandsFor.{EntryStandsFor, LocalStandsFor}
use Rattle.mld_model.proofs.KnownLaws.{known_with}
use Rattle.mld_model.proofs.PairsLaws.{pairs_append}
use Rattle.mld_model.proofs.LocalLaws.{KnowsAs, known_alike, ready_alike, raised_knows, taker_knows}

-- an entry stands for a range that is done
pub record StandsDone (history : List Operation) (entry : EntryValue) (range : Range) : Type 0 where
  pub stands : EntryStandsFor history entry range
  pub done : IsDoneRange history range

-- entries that stand for ranges which are done
pub stand_done : (history : List Operation) (entries : List EntryValue) (ranges : List Range) → AllZip (EntryStandsFor history) entries ranges
    → ((range : Range) → Has ranges range → IsDoneRange history range)
    → AllZip (StandsDone history) entries ranges
stand_done history entries ranges all done =
    pairs_as (EntryStandsFor history) (StandsDone history) entries ranges all (λ entry range h stands. record { stands = stands; done = done range h })

-- and the other way
pub done_stand : (history : List Operation) (entries : List EntryValue) (ranges : List Range) → AllZip (StandsDone history) entries ranges
    → AllZip (EntryStandsFor history) entries ranges
done_stand history entries ranges all =
    pairs_as (StandsDone history) (EntryStandsFor history) entries ranges all (λ entry range h both. both.stands)

module _ (history : List Operation) (ticks : List (List ℕ × ℕ)) (known : List Range) (alike : (dot : Dot) → Covers ticks dot ↔ Knows known dot) where
  known_pair : (entry : EntryValue) (range : Range) → StandsDone history entry range → IsKnownEntry ticks entry ↔ IsKnown known range
  known_pair entry range both = known_alike history ticks known alike range entry both.stands

  ready_pair : (entry : EntryValue) (range : Range) → StandsDone history entry range → IsReadyEntry ticks entry ↔ IsReady history known range
  ready_pair entry range both = ready_alike history ticks known alike range entry both.stands both.done.positive

-- what the model's clone releases where a clone alone releases entries
pub record Released (history : List Operation) (stored : Stored) (held : List Range) (taken left : List EntryValue) (after : List (List ℕ × ℕ)) (pairs : List Tagged) : Type 0 where
  pub ranges : List Range
  pub rest : List Range
  pub releases : Releases history stored held ranges (record { path = stored.path; base = stored.base; journal = stored.journal ++ ranges }) rest
  pub told : ranges_of taken ≡ ranges
  pub knows : KnowsAs history (stored.base ++ (stored.journal ++ ranges)) after pairs
  pub entries : AllZip (EntryStandsFor history) taken ranges
  pub held_stand : AllZip (EntryStandsFor history) left rest

-- the same for a longer journal
longer : (history : List Operation) (stored : Stored) (range : Range) (held : List Range) (taken left : List EntryValue) (after : List (List ℕ × ℕ)) (pairs : List Tagged)
    → (released : Released history (with_range stored range) held taken left after pairs)
    → Releases history (with_range stored range) held released.ranges (record { path = stored.path; base = stored.base; journal = stored.journal ++ range ∷ released.ranges }) released.rest
    × KnowsAs history (stored.base ++ (stored.journal ++ range ∷ released.ranges)) after pairs
longer history stored range held taken left after pairs released =
    let same : (stored.journal ++ range ∷ []) ++ released.ranges ≡ stored.journal ++ range ∷ released.ranges = append_assoc stored.journal (range ∷ []) released.ranges in (
      subst (λ (journal : List Range). Releases history (with_range stored range) held released.ranges (record { path = stored.path; base = stored.base; journal = journal }) released.rest) same released.releases,
      subst (λ (journal : List Range). KnowsAs history (stored.base ++ journal) after pairs) same released.knows,
    )

-- a clone alone releases what the model's clone releases
pub release_stands : (history : List Operation) (stored : Stored) (held : List Range) (entries taken left : List EntryValue)
    (now ticks after : List (List ℕ × ℕ)) (pairs new : List Tagged)
    → IsLawful history → IsSoundClone history stored → AllZip (StandsDone history) entries held
    → ((dot : Dot) → Covers now dot ↔ Knows (known_of stored) dot) → KnowsAs history (known_of stored) ticks pairs
    → LocallyReleases now entries taken after left → LeadsTo ticks pairs taken after new
    → Released history stored held taken left after new
release_stands history stored held entries [] left now ticks after pairs new lawful sound all alike knows releases leads =
    let kept = pairs_drop (StandsDone history) (IsKnownEntry now) (IsKnown (known_of stored)) (known_pair history now (known_of stored) alike) entries held left all releases.0 in
    let none = pairs_none (StandsDone history) (IsReadyEntry now) (IsReady history (known_of stored)) (ready_pair history now (known_of stored) alike) left kept.0 kept.2 releases.1 in
    record {
      ranges = [];
      rest = kept.0;
      releases = (kept.1, none, (λ i. record { path = stored.path; base = stored.base; journal = append-nil stored.journal i }));
      told = refl;
      knows = subst (λ (journal : List Range). KnowsAs history (stored.base ++ journal) after new) (sym (append-nil stored.journal))
          (subst (λ (t : List (List ℕ × ℕ)). KnowsAs history (known_of stored) t new) (sym leads.0) (subst (λ (p : List Tagged). KnowsAs history (known_of stored) ticks p) (sym leads.1) knows));
      entries = tt;
      held_stand = done_stand history left kept.0 kept.2;
    }
release_stands history stored held entries (entry ∷ taken) left now ticks after pairs new lawful sound all alike knows releases leads =
    let kept = pairs_drop (StandsDone history) (IsKnownEntry now) (IsKnown (known_of stored)) (known_pair history now (known_of stored) alike) entries held releases.0 all releases.3 in
    let first = pairs_first (StandsDone history) (IsReadyEntry now) (IsReady history (known_of stored)) (ready_pair history now (known_of stored) alike) releases.0 kept.0 entry releases.1 kept.2 releases.4 in
    let range : Range = first.0 in
    let both : StandsDone history entry range = first.3 in
    let ready : IsReady history (known_of stored) range = first_is (IsReady history (known_of stored)) kept.0 range first.1 first.2 in
    let local : IsReadyEntry now entry = first_is (IsReadyEntry now) releases.0 entry releases.1 releases.4 in
    let before : range.first ≤ ticks_of now range.path + 1 = subst (λ (r : Range). r.first ≤ ticks_of now r.path + 1) both.stands.same local.before in
    let clock : RaisesTo now releases.2 (last_dot range) = subst (λ (r : Range). RaisesTo now releases.2 (last_dot r)) both.stands.same releases.5 in
    let again : (dot : Dot) → Covers releases.2 dot ↔ Knows (known_of (with_range stored range)) dot =
    subst (λ (dots : List Range). (dot : Dot) → Covers releases.2 dot ↔ Knows dots dot) (sym (known_with stored range))
    (raised_knows now releases.2 (known_of stored) range alike both.done.positive before clock) in
    let next : KnowsAs history (known_of (with_range stored range)) leads.0 leads.1 =
    subst (λ (dots : List Range). KnowsAs history dots leads.0 leads.1) (sym (known_with stored range))
    (taker_knows history (known_of stored) ticks pairs range entry leads.0 leads.1 knows both.stands both.done lawful sound.closed leads.2 leads.3 leads.4) in
    let more : Released history (with_range stored range) first.1 taken left after new =
    release_stands history (with_range stored range) first.1 releases.1 taken left releases.2 leads.0 after leads.1 new lawful
    (taker_stays_sound history stored range lawful both.done ready sound) first.4 again next releases.6 leads.5 in
    let grown = longer history stored range first.1 taken left after new more in
    record {
      ranges = range ∷ more.ranges;
      rest = more.rest;
      releases = (kept.0, first.1, kept.1, first.2, grown.0);
      told = λ i. both.stands.same i ∷ more.told i;
      knows = grown.1;
      entries = (both.stands, more.entries);
      held_stand = more.held_stand;
    }

-- ---- a clone that accepts an entry

module _ (history : List Operation) (live new : LocalClone) (stored : Stored) (held : List Range) (range : Range) (entry : EntryValue) (ranges : List Range)
    (stands : LocalStandsFor history live stored held) (both : StandsDone history entry range) (accepts : LocallyAccepts live entry new ranges) where
  -- the range is ready in the model
  pub accepted_ready : IsReady history (known_of stored) range
  accepted_ready = (ready_alike history live.ticks (known_of stored) stands.known range entry both.stands both.done.positive).0 accepts.ready

  -- the model's clone takes it and releases what the clone alone releases
  pub accepted_releases : AllZip (StandsDone history) live.held held → IsLawful history → IsSoundClone history stored
      → Released history (with_range stored range) held accepts.taken new.held new.ticks new.pairs
  accepted_releases all lawful sound =
      let before : range.first ≤ ticks_of live.ticks range.path + 1 = subst (λ (r : Range). r.first ≤ ticks_of live.ticks r.path + 1) both.stands.same accepts.ready.before in
      let clock : RaisesTo live.ticks accepts.raised (last_dot range) = subst (λ (r : Range). RaisesTo live.ticks accepts.raised (last_dot r)) both.stands.same accepts.clock in
      let alike : (dot : Dot) → Covers accepts.raised dot ↔ Knows (known_of (with_range stored range)) dot =
      subst (λ (dots : List Range). (dot : Dot) → Covers accepts.raised dot ↔ Knows dots dot) (sym (known_with stored range))
      (raised_knows live.ticks accepts.raised (known_of stored) range stands.known both.done.positive before clock) in
      let leads = accepts.leads in
      let knows : KnowsAs history (known_of stored) live.ticks live.pairs = record { known = stands.known; pairs = stands.pairs } in
      let taken_one : KnowsAs history (known_of (with_range stored range)) leads.0 leads.1 =
      subst (λ (dots : List Range). KnowsAs history dots leads.0 leads.1) (sym (known_with stored range))
      (taker_knows history (known_of stored) live.ticks live.pairs range entry leads.0 leads.1 knows both.stands both.done lawful sound.closed leads.2 leads.3 leads.4) in
      release_stands history (with_range stored range) held live.held accepts.taken new.held accepts.raised leads.0 new.ticks leads.1 new.pairs lawful
      (taker_stays_sound history stored range lawful both.done accepted_ready sound) all alike taken_one accepts.releases leads.5

  module _ (released : Released history (with_range stored range) held accepts.taken new.held new.ticks new.pairs) where
    -- the ranges that it tells of are those that the model's clone takes
    pub accepted_told : ranges ≡ range ∷ released.ranges
    accepted_told = accepts.told ∙ (λ i. both.stands.same i ∷ released.told i)

    -- and it stands for what the model's clone keeps and holds back then
    pub accepted_stands : LocalStandsFor history new (record { path = stored.path; base = stored.base; journal = (stored.journal ++ range ∷ []) ++ released.ranges }) released.rest
    accepted_stands =
        let journal : List Range = (stored.journal ++ range ∷ []) ++ released.ranges in
        let flat : journal ≡ stored.journal ++ range ∷ released.ranges = append_assoc stored.journal (range ∷ []) released.ranges in
        record {
          kept = record {
            path = accepts.same.path ∙ stands.kept.path;
            base = λ dot. subst (λ (ticks : List (List ℕ × ℕ)). Covers ticks dot ↔ Knows stored.base dot) (sym accepts.same.base) (stands.kept.base dot);
            base_pairs = subst (λ (pairs : List Tagged). IsMeaning history stored.base pairs) (sym accepts.same.base_pairs) stands.kept.base_pairs;
            entries = subst (λ (entries : List EntryValue). AllZip (EntryStandsFor history) entries journal) (sym accepts.entries)
                (subst (λ (rs : List Range). AllZip (EntryStandsFor history) (live.entries ++ entry ∷ accepts.taken) rs) (sym flat)
                (pairs_append (EntryStandsFor history) live.entries stored.journal (entry ∷ accepts.taken) (range ∷ released.ranges) stands.kept.entries (both.stands, released.entries)));
          };
          held = released.held_stand;
          known = released.knows.known;
          pairs = released.knows.pairs;
        }
