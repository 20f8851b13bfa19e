-- Plans grow by entries that are ready.
use Rattle.std.proofs.Common.{◌≡◌, ◌∙◌, ℕ, ◌+◌, ◌≤◌, List, [], ◌∷◌, ◌++◌, length, append_assoc, append-nil, Option, refl, sym, ap, subst, inl, inr, arith}
use Rattle.std.specs.List.{AllByRecursion}
use Rattle.tree_clock.specs.declared.dots.Range.{Range}
use Rattle.tree_clock.specs.Clock.{ticks_of, RaisesTo}
use Rattle.tree_clock.specs.Lists.{IsAscending}
use Rattle.mld_ops.specs.declared.cuts.Cut.{Cut}
use Rattle.mld_ops.specs.declared.tagged.Tagged.{Tagged}
use Rattle.mld_ops.specs.Applies.{Applies}
use Rattle.mld_ops.specs.Entry.{EntryValue, IsEntry}
use Rattle.mld_ops.specs.Held.{ranges_of}
use Rattle.mld_ops.specs.Picking.{HasNone, DropsThose, TakesFirst}
use Rattle.mld_ops.proofs.AscendingLaws.{same_ascending}
use Rattle.mld_ops.proofs.PickingLaws.{none_drops}
use Rattle.mld_ops.proofs.TaggedLaws.{tagged_total, tagged_exact}
use Rattle.mld_ops.specs.Ready.{last_dot, IsKnownEntry, IsReadyEntry}
use Rattle.mld_ops.specs.Tagged.{tagged_cmp}
use Rattle.mld_model.specs.Local.{LeadsTo, LocallyReleases}
use Rattle.op_fusion.specs.Cutting.{AreCuts, AreCutsBehind}
use Rattle.op_fusion.proofs.Applied.{applied}
use Rattle.op_fusion.proofs.CutPairs.{cut_behind_is_applied}
use Rattle.clone_parts.specs.Plans.{IsGrownFrom, TakesNothing, StaysPlan, PlansEntry, PlansReleases, IsPlanOf, left_of}
use Rattle.clone_parts.specs.declared.plans.Growing.{Growing}
use Rattle.clone_parts.proofs.MakingLaws.{leads_append}

-- ---- one more entry

all_more : (entries : List EntryValue) (entry : EntryValue) → AllByRecursion IsEntry entries → IsEntry entry → AllByRecursion IsEntry (entries ++ entry ∷ [])
all_more [] entry all e = (e, tt)
all_more (x ∷ entries) entry all e = (all.0, all_more entries entry all.1 e)

pub ranges_more : (entries : List EntryValue) (entry : EntryValue) → ranges_of (entries ++ entry ∷ []) ≡ ranges_of entries ++ entry.range ∷ []
ranges_more [] entry = refl
ranges_more (e ∷ entries) entry = ap (λ (rs : List Range). e.range ∷ rs) (ranges_more entries entry)

-- the cut of an entry behind what is dropped and added so far, where of the pairs those are dropped too that it makes go, and its cut of
-- the adds is applied to them
pub put_behind_cuts : (entry : EntryValue) (known : ℕ) (pairs drops adds gone came own_drops own_adds more_drops more_adds : List Tagged)
    → AreCuts entry known pairs gone came → AreCuts entry known adds own_drops own_adds → Applies [] gone drops more_drops → Applies own_drops own_adds adds more_adds
    → AreCutsBehind entry known pairs drops adds more_drops more_adds
put_behind_cuts entry known pairs drops adds gone came own_drops own_adds more_drops more_adds base own gone_too changed = record {
  drops_ascend = gone_too.ascending;
  dropped = λ pair. (
    λ h. elim ((gone_too.members pair).0 h) [ inl k ↦ inl k.0 | inr k ↦ inr ((base.dropped pair).0 k) ],
    λ h. (gone_too.members pair).1 (elim h [ inl k ↦ inl (k, λ n. n) | inr k ↦ inr ((base.dropped pair).1 k) ]),
  );
  adds_ascend = changed.ascending;
  added = λ pair. (
    λ h. elim ((changed.members pair).0 h) [
      | inl k ↦ inl (k.0, λ g. k.1 ((own.dropped pair).1 (record { present = k.0; goes = g })))
      | inr k ↦ inr ((own.added pair).0 k)
    ],
    λ h. (changed.members pair).1 (elim h [
      | inl k ↦ inl (k.0, λ d. k.1 ((own.dropped pair).0 d).goes)
      | inr k ↦ inr ((own.added pair).1 k)
    ]),
  );
}

-- where the first cut leads through entries, the cut of one more entry behind it leads through that too
leads_more : (ticks middle after : List (List ℕ × ℕ)) (pairs drops adds more_drops more_adds : List Tagged) (entries : List EntryValue) (entry : EntryValue)
    → IsAscending tagged_cmp pairs → IsReadyEntry middle entry → RaisesTo middle after (last_dot entry.range)
    → AreCutsBehind entry (ticks_of middle entry.range.path) pairs drops adds more_drops more_adds
    → ((new : List Tagged) → Applies drops adds pairs new → LeadsTo ticks pairs entries middle new)
    → (new : List Tagged) → Applies more_drops more_adds pairs new → LeadsTo ticks pairs (entries ++ entry ∷ []) after new
leads_more ticks middle after pairs drops adds more_drops more_adds entries entry a ready raised cuts leads new both =
    let half = applied drops adds pairs a in
    let cut = cut_behind_is_applied entry (ticks_of middle entry.range.path) pairs drops adds half.0 more_drops more_adds new cuts half.1 both in
    leads_append ticks pairs entries (entry ∷ []) middle half.0 after new (leads half.0 half.1) (after, new, ready, raised, cut, (refl, refl))

-- the plan with one more entry
pub plans_more : (pairs : List Tagged) (old new : Growing) (entry : EntryValue) → IsEntry entry → IsReadyEntry old.clock.ticks entry
    → RaisesTo old.clock.ticks new.clock.ticks (last_dot entry.range)
    → AreCutsBehind entry (ticks_of old.clock.ticks entry.range.path) pairs old.drops old.adds new.drops new.adds
    → new.entries.items ≡ old.entries.items ++ entry ∷ [] → new.ranges ≡ old.ranges ++ entry.range ∷ [] → PlansEntry pairs old entry new
plans_more pairs old new entry e ready raised cuts entries ranges = record {
  leads = λ ticks a from. record {
    are_entries = subst (λ (es : List EntryValue). AllByRecursion IsEntry es) (sym entries) (all_more old.entries.items entry from.are_entries e);
    leads = λ news both. subst (λ (es : List EntryValue). LeadsTo ticks pairs es new.clock.ticks news) (sym entries)
        (leads_more ticks old.clock.ticks new.clock.ticks pairs old.drops old.adds new.drops new.adds old.entries.items entry
        a ready raised cuts from.leads news both);
    ranges = ranges ∙ ap (λ (rs : List Range). rs ++ entry.range ∷ []) from.ranges ∙ sym (ranges_more old.entries.items entry) ∙ ap ranges_of (sym entries);
  };
  entries = entries;
  clock = raised;
}

-- ---- what is released

-- nothing is released of entries of which none is known or ready
pub releases_none : (ticks : List (List ℕ × ℕ)) (held : List EntryValue) → HasNone (IsKnownEntry ticks) held → HasNone (IsReadyEntry ticks) held
    → LocallyReleases ticks held [] ticks held
releases_none ticks held known ready = (none_drops (IsKnownEntry ticks) held known, ready, refl)

-- a plan that is as it was, where nothing is released
pub plans_none : (pairs : List Tagged) (plan : Growing) (held : List EntryValue) → HasNone (IsKnownEntry plan.clock.ticks) held → HasNone (IsReadyEntry plan.clock.ticks) held
    → PlansReleases pairs plan held plan held
plans_none pairs plan held known ready = record {
  leads = λ ticks a from. from;
  taken = [];
  entries = sym (append-nil plan.entries.items);
  releases = releases_none plan.clock.ticks held known ready;
}

-- what is left of a list once some are dropped is no longer, and once one is taken out it is shorter
pub drops_shorter : {X : Type 0} (P : X → Type 0) (xs rest : List X) → DropsThose P xs rest → length rest ≤ length xs
drops_shorter P [] rest d = let e = ap length d in omega (arith, e)
drops_shorter P (x ∷ xs) rest (inl d) = let l = drops_shorter P xs rest d.1 in omega (arith, l)
drops_shorter P (x ∷ xs) rest (inr d) = let l = drops_shorter P xs d.1 d.2 in let e = ap length d.3 in omega (arith, l, e)

pub first_shorter : {X : Type 0} (P : X → Type 0) (xs : List X) (first : X) (rest : List X) → TakesFirst P xs first rest → length rest + 1 ≡ length xs
first_shorter P [] first rest t = absurd t
first_shorter P (x ∷ xs) first rest (inl t) = let e = ap length t.2 in omega (arith, e)
first_shorter P (x ∷ xs) first rest (inr t) = let l = first_shorter P xs first t.1 t.2 in let e = ap length t.3 in omega (arith, l, e)

-- ---- a loop that releases

-- what a loop that releases has done so far
pub record IsReleasing (pairs : List Tagged) (start : Growing) (begun : List EntryValue) (plan : Growing) (held : List EntryValue) : Type 0 where
  pub leads : StaysPlan pairs start plan
  pub taken : List EntryValue
  pub entries : plan.entries.items ≡ start.entries.items ++ taken
  pub releases : (more : List EntryValue) (after : List (List ℕ × ℕ)) (left : List EntryValue)
      → LocallyReleases plan.clock.ticks held more after left → LocallyReleases start.clock.ticks begun (taken ++ more) after left

-- nothing yet
pub releasing_none : (pairs : List Tagged) (plan : Growing) (held : List EntryValue) → IsReleasing pairs plan held plan held
releasing_none pairs plan held = record {
  leads = λ ticks a from. from;
  taken = [];
  entries = sym (append-nil plan.entries.items);
  releases = λ more after left r. r;
}

-- one more entry
pub releasing_more : (pairs : List Tagged) (start : Growing) (begun : List EntryValue) (plan next : Growing) (held kept rest : List EntryValue) (entry : EntryValue)
    → IsReleasing pairs start begun plan held → DropsThose (IsKnownEntry plan.clock.ticks) held kept → TakesFirst (IsReadyEntry plan.clock.ticks) kept entry rest
    → PlansEntry pairs plan entry next → IsReleasing pairs start begun next rest
releasing_more pairs start begun plan next held kept rest entry r d t p = record {
  leads = λ ticks a from. p.leads ticks a (r.leads ticks a from);
  taken = r.taken ++ entry ∷ [];
  entries = p.entries ∙ ap (λ (es : List EntryValue). es ++ entry ∷ []) r.entries ∙ append_assoc start.entries.items r.taken (entry ∷ []);
  releases = λ more after left m.
      subst (λ (es : List EntryValue). LocallyReleases start.clock.ticks begun es after left) (sym (append_assoc r.taken (entry ∷ []) more))
      (r.releases (entry ∷ more) after left (kept, rest, next.clock.ticks, d, t, p.clock, m));
}

-- none is left to be released
pub releasing_all : (pairs : List Tagged) (start : Growing) (begun : List EntryValue) (plan : Growing) (held kept : List EntryValue)
    → IsReleasing pairs start begun plan held → DropsThose (IsKnownEntry plan.clock.ticks) held kept → HasNone (IsReadyEntry plan.clock.ticks) kept
    → PlansReleases pairs start begun plan kept
releasing_all pairs start begun plan held kept r d n = record {
  leads = r.leads;
  taken = r.taken;
  entries = r.entries;
  releases = subst (λ (es : List EntryValue). LocallyReleases start.clock.ticks begun es plan.clock.ticks kept) (append-nil r.taken)
      (r.releases [] plan.clock.ticks kept (d, n, refl));
}

-- what is left of a copy of those held back
pub plans_left : (pairs : List Tagged) (old now : Growing) (held copy left : List EntryValue) → copy ≡ held → PlansReleases pairs old copy now left → PlansReleases pairs old held now left
plans_left pairs old now held copy left e r = subst (λ (h : List EntryValue). PlansReleases pairs old h now left) e r

-- ---- the whole plan

-- the cut of an entry stands behind nothing that was dropped or added
pub cuts_behind_nothing : (entry : EntryValue) (known : ℕ) (pairs drops adds : List Tagged) → AreCuts entry known pairs drops adds → AreCutsBehind entry known pairs [] [] drops adds
cuts_behind_nothing entry known pairs drops adds cuts = record {
  drops_ascend = cuts.drops_ascend;
  dropped = λ pair. (λ h. inr ((cuts.dropped pair).0 h), λ h. elim h [ inl none ↦ absurd none | inr d ↦ (cuts.dropped pair).1 d ]);
  adds_ascend = cuts.adds_ascend;
  added = λ pair. (λ h. inr ((cuts.added pair).0 h), λ h. elim h [ inl kept ↦ absurd kept.0 | inr came ↦ (cuts.added pair).1 came ]);
}

-- a change of nothing leaves ascending pairs as they are
applies_none : (pairs new : List Tagged) → IsAscending tagged_cmp pairs → Applies [] [] pairs new → new ≡ pairs
applies_none pairs new a h = same_ascending tagged_cmp tagged_total tagged_exact new pairs h.ascending a
    (λ pair k. elim ((h.members pair).0 k) [ inl m ↦ m.0 | inr m ↦ absurd m ])
    (λ pair k. (h.members pair).1 (inl (k, λ n. n)))

-- a plan that takes nothing yet leads nowhere
pub nothing_from : (ticks : List (List ℕ × ℕ)) (pairs : List Tagged) (empty : Growing) → IsAscending tagged_cmp pairs → TakesNothing ticks empty → IsGrownFrom ticks pairs empty
nothing_from ticks pairs empty a e = record {
  are_entries = subst (λ (es : List EntryValue). AllByRecursion IsEntry es) (sym e.entries) tt;
  leads = λ new h. subst (λ (es : List EntryValue). LeadsTo ticks pairs es empty.clock.ticks new) (sym e.entries)
      (e.clock, applies_none pairs new a (subst (λ (drops : List Tagged). Applies drops [] pairs new) e.drops (subst (λ (adds : List Tagged). Applies empty.drops adds pairs new) e.adds h)));
  ranges = e.ranges ∙ ap ranges_of (sym e.entries);
}

-- the plan that has grown by an entry and by those that it releases, once its drops and its adds are lists
pub plan_from : (ticks : List (List ℕ × ℕ)) (pairs : List Tagged) (held : List EntryValue) (entry : EntryValue) (empty one all : Growing) (left : Option (List EntryValue)) (cut : Cut)
    → IsAscending tagged_cmp pairs → TakesNothing ticks empty → PlansEntry pairs empty entry one → PlansReleases pairs one held all (left_of left held)
    → cut.drops.items ≡ all.drops → cut.adds.items ≡ all.adds
    → IsPlanOf ticks pairs held entry (record { clock = all.clock; left = left; entries = all.entries; cut = cut; ranges = all.ranges })
plan_from ticks pairs held entry empty one all left cut a e p r drops adds = record {
  leads = let grown = r.leads ticks a (p.leads ticks a (nothing_from ticks pairs empty a e)) in record {
    are_entries = grown.are_entries;
    leads = λ new h. grown.leads new (subst (λ (ds : List Tagged). Applies ds all.adds pairs new) drops (subst (λ (came : List Tagged). Applies cut.drops.items came pairs new) adds h));
    ranges = grown.ranges;
  };
  taken = r.taken;
  entries = r.entries ∙ ap (λ (es : List EntryValue). es ++ r.taken) (p.entries ∙ ap (λ (es : List EntryValue). es ++ entry ∷ []) e.entries);
  raised = one.clock.ticks;
  clock = subst (λ ts. RaisesTo ts one.clock.ticks (last_dot entry.range)) e.clock p.clock;
  releases = r.releases;
}
