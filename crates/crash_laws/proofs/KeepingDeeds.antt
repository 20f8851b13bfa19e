-- A compaction and a truncation that were refused in the middle are steps of the model with one swap; where there is nothing to do they have no
-- durable steps.
use Rattle.std.proofs.Common.{◌≡◌, ◌≢◌, ℕ, ◌+◌, ◌-◌, ◌≤◌, ◌<◌, List, [], ◌∷◌, ◌++◌, inl, inr, refl, sym, ◌∙◌, ap, arith, subst, length, take, drop, Some, append-nil}
use Rattle.std.proofs.lemmas.List.{get_or-set_same, map-append, length-append, length-drop}
use Rattle.mld_io.specs.declared.banks.Side.{Side}
use Rattle.tree_clock.specs.declared.dots.Range.{Range}
use Rattle.mld_ops.specs.Entry.{EntryValue}
use Rattle.mld_ops.specs.Held.{ranges_of}
use Rattle.op_fusion.specs.Compacting.{AreCompacted, AreFusedRuns, EndsRun, HasNeighbours}
use Rattle.op_fusion.specs.Fusion.{AreNeighbours}
use Rattle.clone_core.specs.journal_sides.Pairs.{Keeps}
use Rattle.mld_model.specs.Clone.{Absent, Live, Stored, kept_of, truncated_to}
use Rattle.mld_model.specs.Durable.{Swaps}
use Rattle.mld_model.specs.Local.{LocalClone, stored_of, LocallyCompacts, LocallyTruncates}
use Rattle.mld_model.specs.Reply.{Kept as KeptReply}
use Rattle.mld_model.specs.Sound.{IsSoundClone, IsSound}
use Rattle.mld_model.specs.StandsFor.{kept_by, EntryStandsFor, StoredStandsFor, LocalStandsFor, LiveAt}
use Rattle.mld_model.specs.World.{World, clone_at, with_clone}
use Rattle.mld_model.proofs.CompactedJournals.{compacted_shrinks}
use Rattle.mld_model.proofs.CompactedStands.{same_ranges, journal_compacted, compacted_stands}
use Rattle.mld_model.proofs.LeafLaws.{live_keeps, place_of_clone}
use Rattle.mld_model.proofs.PairsLaws.{pairs_count}
use Rattle.mld_model.proofs.SoundLaws.{live_sound}
use Rattle.mld_model.proofs.StateLaws.{live_does}
use Rattle.mld_model.proofs.TruncatedStands.{truncated_stands}
use Rattle.schedule_model.specs.declared.Command.TheVariants.{Compact, Truncate}
use Rattle.schedule_model.specs.PlainDurable.{SwapsDurably, keeps_the_same, swaps_it}
use Rattle.schedule_model.specs.PlainStep.{PlainStep}
use Rattle.clone_core.specs.Banked.{head_of, kept_as}
use Rattle.clone_core.specs.clone_parts.KeptSteps.{Swapped}
use Rattle.crash_laws.specs.CarriedSteps.{owner_at, Carries}
use Rattle.crash_laws.specs.Deeds.{CarriedDeed}
use Rattle.crash_laws.proofs.Kept.{live_kept, carried_at}

-- ---- ranges that are compacted already

-- no range is a neighbour of the one right before it
abbrev LacksNeighbours : List Range → Type 0
LacksNeighbours [] = Unit {0}
LacksNeighbours (first ∷ []) = Unit {0}
LacksNeighbours (first ∷ next ∷ rest) = (¬ AreNeighbours first next) × LacksNeighbours (next ∷ rest)

lacks_behind : (first : Range) (others : List Range) → EndsRun first others → LacksNeighbours others → LacksNeighbours (first ∷ others)
lacks_behind first [] ends lacks = tt
lacks_behind first (next ∷ rest) ends lacks = (ends, lacks)

-- ranges that compact to themselves have no neighbours side by side
compacted_lacks : (ranges : List Range) → AreCompacted ranges ranges → LacksNeighbours ranges
compacted_lacks [] p = tt
compacted_lacks (whole ∷ others) p =
    let behind : others ≡ p.1 ++ p.2 = cc (p.3) in
    let counted : length others ≡ length p.1 + length p.2 = ap (λ (rs : List Range). length rs) behind ∙ length-append p.1 p.2 in
    elim (compacted_shrinks p.2 others p.6) [
      | inl same ↦
          lacks_behind whole others (subst (λ (rest : List Range). EndsRun whole rest) (sym same) p.5)
          (compacted_lacks others (subst (λ (rest : List Range). AreCompacted rest others) (sym same) p.6))
      | inr shorter ↦ absurd (omega (arith, shorter, counted))
    ]

-- so none at a place
lacks_at : (front : List Range) (first second : Range) (rest : List Range) → LacksNeighbours (front ++ first ∷ second ∷ rest) → ¬ AreNeighbours first second
lacks_at [] first second rest lacks = lacks.0
lacks_at (one ∷ []) first second rest lacks = lacks.1.0
lacks_at (one ∷ two ∷ front) first second rest lacks = lacks_at (two ∷ front) first second rest lacks.1

-- entries with neighbours side by side have other ranges once they are compacted
pub neighbours_fused : (entries : List EntryValue) → HasNeighbours entries → ¬ AreCompacted (ranges_of entries) (ranges_of entries)
neighbours_fused entries has p =
    let same : ranges_of entries ≡ ranges_of has.front ++ has.first.range ∷ has.second.range ∷ ranges_of has.rest =
    ap ranges_of has.stand ∙ map-append (λ (entry : EntryValue). entry.range) has.front (has.first ∷ has.second ∷ has.rest) in
    lacks_at (ranges_of has.front) has.first.range has.second.range (ranges_of has.rest)
    (subst LacksNeighbours same (compacted_lacks (ranges_of entries) p)) has.near

-- ---- truncated journals

-- a journal of no more ranges than are to be left stays
none_cut : (stored : Stored) (keep : ℕ) → length stored.journal ≤ keep → truncated_to stored keep ≡ stored
none_cut stored keep few =
    let none : length stored.journal - keep ≡ 0 = omega (arith, few) in
    let base : stored.base ++ take (length stored.journal - keep) stored.journal ≡ stored.base =
    ap (λ (n : ℕ). stored.base ++ take n stored.journal) none ∙ append-nil stored.base in
    let journal : drop (length stored.journal - keep) stored.journal ≡ stored.journal = ap (λ (n : ℕ). drop n stored.journal) none in
    λ i. record { path = stored.path; base = base i; journal = journal i }

-- one of more is another then
some_cut : (stored : Stored) (keep : ℕ) → keep < length stored.journal → truncated_to stored keep ≢ stored
some_cut stored keep more same =
    let left : length (drop (length stored.journal - keep) stored.journal) ≡ length stored.journal - (length stored.journal - keep) =
    length-drop (length stored.journal - keep) stored.journal in
    omega (arith, more, left, ap (λ (s : Stored). length s.journal) same)

-- ---- swaps

module _ (world : World) (number : ℕ) (old : LocalClone) (sound : IsSound world) (at : LiveAt world number old) where
  abbrev old_stored : Stored
  old_stored = kept_by old at.base at.journal

  old_sound : IsSoundClone world.history old_stored
  old_sound = live_sound world number old_stored at.held sound at.live

  -- what the clone keeps then that is live with this
  turned_keeps : (after : Stored) → kept_of (clone_at (with_clone world number (Live after at.held)) number) ≡ Some after
  turned_keeps after =
      ap kept_of (get_or-set_same world.clones number (Live after at.held) Absent
      (place_of_clone world.clones number old_stored (live_keeps world number old_stored at.held at.live)))

  -- it is swapped for that where that is another
  swaps_durably : (after : Stored) → after ≢ old_stored → SwapsDurably world (with_clone world number (Live after at.held)) number (Swaps after ∷ [])
  swaps_durably after differs =
      swaps_it after (turned_keeps after) (λ same. differs (one (sym (turned_keeps after) ∙ same ∙ ap kept_of at.live))) refl
    where
      one : Some after ≡ Some old_stored → after ≡ old_stored
      one same = cc

  stays_durably : (after : Stored) → after ≡ old_stored → SwapsDurably world (with_clone world number (Live after at.held)) number []
  stays_durably after same =
      keeps_the_same (turned_keeps after ∙ ap (λ (s : Stored). Some s) same ∙ sym (ap kept_of at.live)) refl

  -- the banks carry it where they are swapped for what stands for it
  swap_carried : (side : Side) (generation : ℕ) (new : LocalClone) (after : Stored) → new.id ≡ old.id → new.domain ≡ old.domain → new.properties ≡ old.properties
      → StoredStandsFor world.history (stored_of new) after
      → Carries (owner_at world number) world.history (Keeps (kept_as side generation old)) (kept_of (clone_at world number)) (Swapped (head_of new) new.entries ∷ []) (Swaps after ∷ [])
  swap_carried side generation new after id domain properties stands =
      carried_at world number (Live old_stored at.held) (Keeps (kept_as side generation old)) (Swapped (head_of new) new.entries ∷ []) (Swaps after ∷ []) at.live (
        live_kept world number old at side generation,
        refl,
        record { id = id ∙ at.is.id; domain = domain ∙ at.is.domain; properties = properties ∙ at.is.properties; stands = stands },
      )

  -- what they keep is carried where nothing changes
  pub none_carried : (side : Side) (generation : ℕ) → Carries (owner_at world number) world.history (Keeps (kept_as side generation old)) (kept_of (clone_at world number)) [] []
  none_carried side generation =
      carried_at world number (Live old_stored at.held) (Keeps (kept_as side generation old)) [] [] at.live (live_kept world number old at side generation)

  -- ---- a compaction

  abbrev compacted_to : List Range → Stored
  compacted_to ranges = record old_stored { journal = ranges }

  compacts_as : (ranges : List Range) → AreCompacted at.journal ranges
      → PlainStep world (Compact number) (KeptReply (length ranges)) (with_clone world number (Live (compacted_to ranges) at.held))
  compacts_as ranges compacted =
      let next : World = with_clone world number (Live (compacted_to ranges) at.held) in
      live_does world (clone_at world number) (KeptReply (length ranges)) next _ old_stored at.held at.live (ranges, compacted, refl, refl {a = next})

  -- its journal has neighbours side by side, and what the banks keep is swapped for the compacted journal
  pub compacted_deed : (new : LocalClone) → LocallyCompacts old new → HasNeighbours old.entries → (side : Side) (generation : ℕ)
      → CarriedDeed world (Compact number) number (Keeps (kept_as side generation old)) (Swapped (head_of new) new.entries ∷ [])
  compacted_deed new compacts due side generation =
      let ranges : List Range = ranges_of new.entries in
      let after : Stored = compacted_to ranges in
      let was : ranges_of old.entries ≡ at.journal = same_ranges world.history old.entries at.journal at.stands.kept.entries in
      let compacted : AreCompacted at.journal ranges = journal_compacted world.history old new old_stored at.held sound.lawful old_sound at.stands compacts in
      let differs : after ≢ old_stored = λ same.
      let stays : ranges ≡ at.journal = ap (λ (s : Stored). s.journal) same in
      neighbours_fused old.entries due
      (subst (λ (rs : List Range). AreCompacted rs rs) (sym was) (subst (λ (rs : List Range). AreCompacted at.journal rs) stays compacted)) in
      let now : LocalStandsFor world.history new after at.held = compacted_stands world.history old new old_stored at.held sound.lawful old_sound at.stands compacts in
      record {
        deed = record {
          reply = KeptReply (length ranges);
          after = with_clone world number (Live after at.held);
          does = compacts_as ranges compacted;
          steps = Swaps after ∷ [];
          are = swaps_durably after differs;
        };
        carries = swap_carried side generation new after (ap (λ (c : LocalClone). c.id) compacts.rest) (ap (λ (c : LocalClone). c.domain) compacts.rest)
            (ap (λ (c : LocalClone). c.properties) compacts.rest) now.kept;
        once = tt;
      }

  -- its journal is compacted already
  pub uncompacted_deed : AreFusedRuns old.entries old.entries → (side : Side) (generation : ℕ)
      → CarriedDeed world (Compact number) number (Keeps (kept_as side generation old)) []
  uncompacted_deed fused side generation =
      let was : ranges_of old.entries ≡ at.journal = same_ranges world.history old.entries at.journal at.stands.kept.entries in
      let compacts : LocallyCompacts old old = record { fused = fused; rest = refl {a = old} } in
      let compacted : AreCompacted at.journal (ranges_of old.entries) = journal_compacted world.history old old old_stored at.held sound.lawful old_sound at.stands compacts in
      record {
        deed = record {
          reply = KeptReply (length (ranges_of old.entries));
          after = with_clone world number (Live (compacted_to (ranges_of old.entries)) at.held);
          does = compacts_as (ranges_of old.entries) compacted;
          steps = [];
          are = stays_durably (compacted_to (ranges_of old.entries)) (λ i. record old_stored { journal = was i });
        };
        carries = none_carried side generation;
        once = tt;
      }

  -- ---- a truncation

  truncates_as : (keep : ℕ) → PlainStep world (Truncate number keep) (KeptReply (length (truncated_to old_stored keep).journal))
      (with_clone world number (Live (truncated_to old_stored keep) at.held))
  truncates_as keep =
      let next : World = with_clone world number (Live (truncated_to old_stored keep) at.held) in
      live_does world (clone_at world number) (KeptReply (length (truncated_to old_stored keep).journal)) next _ old_stored at.held at.live (refl, refl {a = next})

  counted : length old.entries ≡ length at.journal
  counted = pairs_count (EntryStandsFor world.history) old.entries at.journal at.stands.kept.entries

  -- its journal has more entries than are to be left, and what the banks keep is swapped for the truncated journal
  pub truncated_deed : (keep : ℕ) (new : LocalClone) → LocallyTruncates old keep new → keep < length old.entries → (side : Side) (generation : ℕ)
      → CarriedDeed world (Truncate number keep) number (Keeps (kept_as side generation old)) (Swapped (head_of new) new.entries ∷ [])
  truncated_deed keep new truncates due side generation =
      let after : Stored = truncated_to old_stored keep in
      let now : LocalStandsFor world.history new after at.held = truncated_stands world.history old new keep old_stored at.held sound.lawful old_sound at.stands truncates in
      record {
        deed = record {
          reply = KeptReply (length after.journal);
          after = with_clone world number (Live after at.held);
          does = truncates_as keep;
          steps = Swaps after ∷ [];
          are = swaps_durably after (some_cut old_stored keep (omega (arith, due, counted)));
        };
        carries = swap_carried side generation new after (ap (λ (c : LocalClone). c.id) truncates.rest) (ap (λ (c : LocalClone). c.domain) truncates.rest)
            (ap (λ (c : LocalClone). c.properties) truncates.rest) now.kept;
        once = tt;
      }

  -- its journal has no more
  pub untruncated_deed : (keep : ℕ) → length old.entries ≤ keep → (side : Side) (generation : ℕ)
      → CarriedDeed world (Truncate number keep) number (Keeps (kept_as side generation old)) []
  untruncated_deed keep few side generation = record {
    deed = record {
      reply = KeptReply (length (truncated_to old_stored keep).journal);
      after = with_clone world number (Live (truncated_to old_stored keep) at.held);
      does = truncates_as keep;
      steps = [];
      are = stays_durably (truncated_to old_stored keep) (none_cut old_stored keep (omega (arith, few, counted)));
    };
    carries = none_carried side generation;
    once = tt;
  }
