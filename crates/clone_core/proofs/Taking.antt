-- A clone takes an entry that is ready, or holds one back.
use Rattle.std.proofs.Common.{◌≡◌, ◌≢◌, ◌∙◌, ℕ, ◌+◌, ◌<◌, ◌≤◌, List, [], ◌∷◌, ◌++◌, length, get_or, take, ◌↔◌, Result, Ok, Err, IsErrOf, refl, sym, ap, subst, inl, inr, arith}
use Rattle.std.proofs.lemmas.List.{take_all}
use Rattle.tree_clock.specs.declared.dots.Range.{Range}
use Rattle.tree_clock.specs.Lists.{Has}
use Rattle.mld_ops.proofs.AscendingLaws.{has_take_more, has_at}
use Rattle.mld_ops.specs.declared.tagged.Tagged.{Tagged}
use Rattle.mld_ops.specs.Applies.{Applies}
use Rattle.mld_ops.specs.Entry.{EntryValue}
use Rattle.mld_ops.specs.Ready.{IsKnownEntry, IsReadyEntry}
use Rattle.causal_buffer.specs.declared.faults.HeldFault.{HeldFault}
use Rattle.causal_buffer.specs.declared.faults.HeldFault.TheVariants as held
use Rattle.causal_buffer.specs.declared.held.Kept.{Kept}
use Rattle.causal_buffer.specs.declared.held.Kept.TheVariants as kept
use Rattle.causal_buffer.specs.HeldEntries.{IsHeldRange, IsAddedTo, HasNoRoomFor as IsHeldFull}
use Rattle.mld_model.specs.Local.{LocalClone, IsLocal, LeadsTo, LocallyReleases, LocallyAccepts, LocallyHolds}
use Rattle.mld_ops.specs.Held.{ranges_of}
use Rattle.clone_core.specs.CloneCalls.{LacksRange}
use Rattle.clone_parts.proofs.MakingLaws.{local_ascends, local_taken, taken_by}
use Rattle.clone_parts.specs.Plans.{IsPlanOf, left_of}
use Rattle.clone_core.specs.CallParts.{IsFullAt}
use Rattle.op_fusion.proofs.Applied.{applied}
use Rattle.clone_parts.specs.declared.plans.Plan.{Plan}
use Rattle.clone_parts.proofs.Planning.{drops_shorter, first_shorter}

-- ---- an entry that is taken

-- no more are held back once some are released
pub releases_shorter : (ticks : List (List ℕ × ℕ)) (held taken : List EntryValue) (after : List (List ℕ × ℕ)) (left : List EntryValue)
    → LocallyReleases ticks held taken after left → length left ≤ length held
releases_shorter ticks held [] after left r = drops_shorter (IsKnownEntry ticks) held left r.0
releases_shorter ticks held (entry ∷ taken) after left r =
    let d = drops_shorter (IsKnownEntry ticks) held r.0 r.3 in
    let f = first_shorter (IsReadyEntry ticks) r.0 entry r.1 r.4 in
    let m = releases_shorter r.2 r.1 taken after left r.6 in
    omega (arith, d, f, m)

module _ (old : LocalClone) (entry : EntryValue) (plan : Plan) (pairs : List Tagged) (journal held : List EntryValue) (of : IsPlanOf old.ticks old.pairs old.held entry plan)
    (applies : Applies plan.cut.drops.items plan.cut.adds.items old.pairs pairs) (behind : journal ≡ old.entries ++ plan.entries.items) (is : held ≡ left_of plan.left old.held) where
  -- the clone then
  abbrev pub planned : LocalClone
  planned = record (taken_by old [] held plan.clock.ticks pairs) { entries = journal }

  -- it is one
  pub planned_local : IsLocal old → IsLocal planned
  planned_local local =
      subst (λ (es : List EntryValue). IsLocal (record (taken_by old [] held plan.clock.ticks pairs) { entries = es })) (sym behind)
      (local_taken old plan.entries.items held plan.clock.ticks pairs local of.leads.are_entries (of.leads.leads pairs applies)
      (let r = releases_shorter of.raised old.held of.taken plan.clock.ticks (left_of plan.left old.held) of.releases in
      let h = local.held in
      let e = ap length is in
      omega (arith, r, h, e)))

  -- and has taken the entry
  pub planned_accepts : IsReadyEntry old.ticks entry → LocallyAccepts old entry planned plan.ranges
  planned_accepts ready = record {
    same = record { id = refl; domain = refl; properties = refl; path = refl; base = refl; base_pairs = refl };
    ready = ready;
    taken = of.taken;
    raised = of.raised;
    clock = of.clock;
    releases = subst (λ (left : List EntryValue). LocallyReleases of.raised old.held of.taken plan.clock.ticks left) (sym is) of.releases;
    entries = behind ∙ ap (λ (es : List EntryValue). old.entries ++ es) of.entries;
    leads = subst (λ (es : List EntryValue). LeadsTo old.ticks old.pairs es plan.clock.ticks pairs) of.entries (of.leads.leads pairs applies);
    told = of.leads.ranges ∙ ap ranges_of of.entries;
  }

-- the step that the clone would make
pub planned_step : (old : LocalClone) (entry : EntryValue) (plan : Plan) → IsLocal old → IsPlanOf old.ticks old.pairs old.held entry plan → IsReadyEntry old.ticks entry
    → (new : LocalClone) × (ranges : List Range) × LocallyAccepts old entry new ranges × (new.entries ≡ old.entries ++ plan.entries.items)
planned_step old entry plan local of ready =
    let pairs = applied plan.cut.drops.items plan.cut.adds.items old.pairs (local_ascends old local) in
    let journal = old.entries ++ plan.entries.items in
    let held = left_of plan.left old.held in (
      planned old entry plan pairs.0 journal held of pairs.1 refl refl,
      plan.ranges,
      planned_accepts old entry plan pairs.0 journal held of pairs.1 refl refl ready,
      refl,
    )

-- ---- an entry that is held back

-- a range is held just where it is one of those of the entries
held_range : (entries : List EntryValue) (range : Range) → IsHeldRange entries range ↔ Has (ranges_of entries) range
held_range [] range = (λ h. h, λ h. h)
held_range (entry ∷ entries) range =
    let rest = held_range entries range in (
      λ h. elim h [ inl e ↦ inl e | inr k ↦ inr (rest.0 k) ],
      λ h. elim h [ inl e ↦ inl e | inr k ↦ inr (rest.1 k) ],
    )

-- why it isn't held
pub full_at : (clone : LocalClone) (entry : EntryValue) (result : Result Kept HeldFault) (fault : HeldFault) → result ≡ Err fault
    → IsErrOf result held.Full ↔ IsHeldFull clone.held entry.range → IsFullAt clone entry fault
full_at clone entry result held.Full e full =
    let f = full.0 e in record {
      lacks = λ h. f.unheld ((held_range clone.held entry.range).1 h);
      full = let n = f.full in omega (arith, n);
    }
full_at clone entry result held.NoMemory e full = tt

-- it comes at the end, or one of its range is held
pub holds_as : (old : LocalClone) (entry : EntryValue) (news : List EntryValue) (result : Result Kept HeldFault) (how : Kept) → result ≡ Ok how
    → (result ≡ Ok kept.Added → IsAddedTo old.held news entry) → (result ≡ Ok kept.Already) ↔ IsHeldRange old.held entry.range
    → (result ≢ Ok kept.Added → news ≡ old.held) → LocallyHolds old entry (record old { held = news })
holds_as old entry news result kept.Added e added already same =
    let a = added e in inr (
      λ h. a.unheld ((held_range old.held entry.range).1 h),
      a.room,
      ap (λ (hs : List EntryValue). record old { held = hs }) a.behind,
    )
holds_as old entry news result kept.Already e added already same = inl (
  (held_range old.held entry.range).0 (already.0 e),
  ap (λ (hs : List EntryValue). record old { held = hs }) (same (λ f. other (sym e ∙ f))),
)
  where
    other : ◌≡◌ {A = Result Kept HeldFault} (Ok kept.Already) (Ok kept.Added) → ⊥
    other f = cc

-- ---- an entry that is sought by its range

-- none so far
pub lacks_none : (entries : List EntryValue) (range : Range) → LacksRange (take 0 entries) range
lacks_none entries range entry h = absurd h

-- one more hasn't the range
pub lacks_more : (entries : List EntryValue) (range : Range) (i : ℕ) (entry : EntryValue) → i < length entries → entry ≡ get_or entries i entry
    → LacksRange (take i entries) range → entry.range ≢ range → LacksRange (take (i + 1) entries) range
lacks_more entries range i entry l e lacks n other h =
    elim ((has_take_more entries i entry other l).0 h) [
      | inl k ↦ lacks other k
      | inr s ↦ λ f. n (ap (λ (w : EntryValue). w.range) (e ∙ s) ∙ f)
    ]

-- none has it
pub lacks_all : (entries : List EntryValue) (range : Range) (i : ℕ) → length entries ≤ i → LacksRange (take i entries) range → LacksRange entries range
lacks_all entries range i past lacks = subst (λ (es : List EntryValue). LacksRange es range) (take_all i entries past) lacks

-- the entry at a place is one of the list
pub has_item : (entries : List EntryValue) (i : ℕ) (entry : EntryValue) → i < length entries → entry ≡ get_or entries i entry → Has entries entry
has_item entries i entry l e = subst (λ (w : EntryValue). Has entries w) (sym e) (has_at entries i entry l)
