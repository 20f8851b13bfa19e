-- Entries that a clock knows are ready one after another, where the clock ends between the ranges of the journal and has the times of those that it
-- knows: a dot that such an entry rests on is one of the base, or of the earliest range that reaches it, which ends within the clock.
use Rattle.std.proofs.Common.{◌≡◌, ℕ, ◌<◌, ◌≤◌, max, List, [], ◌∷◌, ◌⊎◌, inl, inr, refl, sym, ◌∙◌, ap, subst, arith}
use Rattle.std.proofs.lemmas.Bool.{cases_lt}
use Rattle.tree_clock.specs.declared.dots.Dot.{Dot}
use Rattle.tree_clock.specs.Clock.{ticks_of, Covers, RaisesTo}
use Rattle.tree_clock.specs.Lists.{Has}
use Rattle.tree_clock.proofs.ClockLaws.{Covers-raised, Covers-within}
use Rattle.mld_ops.specs.declared.tagged.Tagged.{Tagged}
use Rattle.mld_ops.specs.Entry.{EntryValue}
use Rattle.mld_ops.specs.History.{dot_at}
use Rattle.mld_ops.specs.Ready.{last_dot, IsKnownEntry, IsReadyEntry}
use Rattle.mld_model.specs.Local.{LocalClone, LeadsTo}
use Rattle.clone_history.specs.KeptMembers.{KeepsThose}
use Rattle.clone_history.specs.PastParts.{SomeEndsAt, AreReadyKept}
use Rattle.clone_history.specs.PastStates.{IsPartOf, last_dots, IsSplitAt, EndsBetween}
use Rattle.clone_history.proofs.ClockEnds.{same_path_or_not, has_last_dot, ends_or_not}
use Rattle.clone_history.proofs.KeptLists.{none_has}

-- what is known stays known
still_covers : (ticks next : List (List ℕ × ℕ)) (raised dot : Dot) → RaisesTo ticks next raised → Covers ticks dot → Covers next dot
still_covers ticks next raised dot raises covered = (Covers-raised ticks next raised dot raises).1 (inl covered)

-- of entries that lead somewhere none is known at the start
pub later_unknown : (ticks : List (List ℕ × ℕ)) (pairs : List Tagged) (entries : List EntryValue) (after : List (List ℕ × ℕ)) (new : List Tagged) (entry : EntryValue)
    → LeadsTo ticks pairs entries after new → Has entries entry → ¬ Covers ticks (last_dot entry.range)
later_unknown ticks pairs [] after new entry leads h = absurd h
later_unknown ticks pairs (first ∷ entries) after new entry leads (inl e) = subst (λ (x : EntryValue). ¬ Covers ticks (last_dot x.range)) e leads.2.unknown
later_unknown ticks pairs (first ∷ entries) after new entry leads (inr h) = λ covered.
    later_unknown leads.0 leads.1 entries after new entry leads.5 h (still_covers ticks leads.0 (last_dot first.range) (last_dot entry.range) leads.3 covered)

module _ (clock : List (List ℕ × ℕ)) where
  -- how far a clone has come with all entries up to a place, and with those alone that the clock knows: as far at each path where the first isn't beyond
  -- the clock; and each path is as far as the clock, or some entry will bring it there
  pub record IsAlong (all own : List (List ℕ × ℕ)) (rest : List EntryValue) : Type 0 where
    pub same : (path : List ℕ) → ticks_of all path ≤ ticks_of clock path → ticks_of own path ≡ ticks_of all path
    pub less : (path : List ℕ) → ticks_of own path ≤ ticks_of all path
    pub within : (path : List ℕ) → ticks_of own path ≤ ticks_of clock path
    pub reaches : (path : List ℕ) → (ticks_of clock path ≤ ticks_of own path) ⊎ SomeEndsAt rest (dot_at path (ticks_of clock path))

  -- ---- one entry

  module _ (all own : List (List ℕ × ℕ)) (entry : EntryValue) (rest : List EntryValue) (along : IsAlong all own (entry ∷ rest)) where
    -- one that the clock knows is ready behind those that it knows
    pub kept_ready : (pairs : List Tagged) (after : List (List ℕ × ℕ)) (new : List Tagged) → LeadsTo all pairs (entry ∷ rest) after new
        → IsKnownEntry clock entry → IsPartOf entry.time clock → IsReadyEntry own entry
    kept_ready pairs after new leads known part =
        let path : List ℕ = entry.range.path in
        let positive : 1 ≤ entry.range.last = known.positive in
        let upto : entry.range.last ≤ ticks_of clock path = known.within in
        let ready : IsReadyEntry all entry = leads.2 in
        record {
          unknown = λ k. ready.unknown (record { positive = k.positive; within = let w = k.within in let l = along.less path in omega (arith, w, l) });
          before = elim (cases_lt (ticks_of all path) entry.range.last) [
            | inl below ↦
                let same : ticks_of own path ≡ ticks_of all path = along.same path (omega (arith, below, upto)) in
                let b = ready.before in
                omega (arith, b, same)
            | inr reached ↦ absurd (ready.unknown (record { positive = positive; within = reached }))
          ];
          time = λ dot covered outside.
              let had : Covers all dot = ready.time dot covered outside in
              let has : Covers clock dot = part dot covered in
              elim (cases_lt (ticks_of clock dot.path) (ticks_of all dot.path)) [
                | inl beyond ↦ elim (along.reaches dot.path) [
                  | inl reached ↦ record { positive = had.positive; within = let w = has.within in omega (arith, w, reached) }
                  | inr ends ↦ absurd (later_unknown all pairs (entry ∷ rest) after new ends.entry leads ends.stands
                      (subst (λ (d : Dot). Covers all d) (sym ends.is)
                      (record { positive = let p = has.positive in let w = has.within in omega (arith, p, w); within = omega (arith, beyond) })))
                ]
                | inr upto_clock ↦
                    let same : ticks_of own dot.path ≡ ticks_of all dot.path = along.same dot.path upto_clock in
                    record { positive = had.positive; within = let w = had.within in omega (arith, w, same) }
              ];
        }

    module _ (next : List (List ℕ × ℕ)) (raises : RaisesTo all next (last_dot entry.range)) where
      -- where it is taken in both
      pub along_kept : (raised : List (List ℕ × ℕ)) → ¬ IsKnownEntry all entry → IsKnownEntry clock entry → RaisesTo own raised (last_dot entry.range)
          → IsAlong next raised rest
      along_kept raised unknown known takes = record {
        same = λ path low. elim (same_path_or_not path entry.range.path) [
          | inl e ↦ subst (λ (p : List ℕ). ticks_of raised p ≡ ticks_of next p) (sym e)
              (let o = takes.at in let a = raises.at in omega (arith, o, a, own_below, all_below))
          | inr n ↦
              let o : ticks_of raised path ≡ ticks_of own path = takes.others path n in
              let a : ticks_of next path ≡ ticks_of all path = raises.others path n in
              o ∙ along.same path (omega (arith, a, low)) ∙ sym a
        ];
        less = λ path. elim (same_path_or_not path entry.range.path) [
          | inl e ↦ subst (λ (p : List ℕ). ticks_of raised p ≤ ticks_of next p) (sym e)
              (let o = takes.at in let a = raises.at in omega (arith, o, a, own_below, all_below))
          | inr n ↦ let o = takes.others path n in let a = raises.others path n in let l = along.less path in omega (arith, o, a, l)
        ];
        within = λ path. elim (same_path_or_not path entry.range.path) [
          | inl e ↦ subst (λ (p : List ℕ). ticks_of raised p ≤ ticks_of clock p) (sym e)
              (let o = takes.at in let w = known.within in omega (arith, o, own_below, w))
          | inr n ↦ let o = takes.others path n in let l = along.within path in omega (arith, o, l)
        ];
        reaches = λ path. elim (along.reaches path) [
          | inl reached ↦ inl (let more : ticks_of own path ≤ ticks_of raised path = grows path in omega (arith, reached, more))
          | inr ends ↦ elim ends.stands [
            | inl is ↦
                let at : last_dot entry.range ≡ dot_at path (ticks_of clock path) = subst (λ (x : EntryValue). last_dot x.range ≡ dot_at path (ticks_of clock path)) (sym is) ends.is in
                let p : entry.range.path ≡ path = ap (λ (d : Dot). d.path) at in
                let t : entry.range.last ≡ ticks_of clock path = ap (λ (d : Dot). d.tick) at in
                let o : ticks_of raised entry.range.path ≡ max (ticks_of own entry.range.path) entry.range.last = takes.at in
                inl (subst (λ (q : List ℕ). ticks_of clock path ≤ ticks_of raised q) p (omega (arith, o, t)))
            | inr later ↦ inr (record { entry = ends.entry; stands = later; is = ends.is })
          ]
        ];
      }
        where
          all_below : ticks_of all entry.range.path < entry.range.last
          all_below = elim (cases_lt (ticks_of all entry.range.path) entry.range.last) [
            | inl below ↦ below
            | inr reached ↦ absurd (unknown (record { positive = known.positive; within = reached }))
          ]

          own_below : ticks_of own entry.range.path ≤ entry.range.last
          own_below = let l = along.less entry.range.path in let b = all_below in omega (arith, l, b)

          grows : (path : List ℕ) → ticks_of own path ≤ ticks_of raised path
          grows path = elim (same_path_or_not path entry.range.path) [
            | inl e ↦ subst (λ (p : List ℕ). ticks_of own p ≤ ticks_of raised p) (sym e) (let o = takes.at in omega (arith, o))
            | inr n ↦ let o = takes.others path n in omega (arith, o)
          ]

      -- where the clock doesn't know it
      pub along_left : ¬ IsKnownEntry clock entry → IsAlong next own rest
      along_left unknown = record {
        same = λ path low. elim (same_path_or_not path entry.range.path) [
          | inl e ↦ subst (λ (p : List ℕ). ticks_of own p ≡ ticks_of next p) (sym e)
              (let low_at : ticks_of next entry.range.path ≤ ticks_of clock entry.range.path = subst (λ (p : List ℕ). ticks_of next p ≤ ticks_of clock p) e low in
              let a : ticks_of next entry.range.path ≡ max (ticks_of all entry.range.path) entry.range.last = raises.at in
              let none : entry.range.last ≡ 0 = no_last (omega (arith, a, low_at)) in
              let s : ticks_of own entry.range.path ≡ ticks_of all entry.range.path = along.same entry.range.path (omega (arith, a, low_at)) in
              omega (arith, a, s, none))
          | inr n ↦ let a : ticks_of next path ≡ ticks_of all path = raises.others path n in along.same path (omega (arith, a, low)) ∙ sym a
        ];
        less = λ path. elim (same_path_or_not path entry.range.path) [
          | inl e ↦ subst (λ (p : List ℕ). ticks_of own p ≤ ticks_of next p) (sym e)
              (let a = raises.at in let l = along.less entry.range.path in omega (arith, a, l))
          | inr n ↦ let a = raises.others path n in let l = along.less path in omega (arith, a, l)
        ];
        within = along.within;
        reaches = λ path. elim (along.reaches path) [
          | inl reached ↦ inl reached
          | inr ends ↦ elim ends.stands [
            | inl is ↦
                let at : last_dot entry.range ≡ dot_at path (ticks_of clock path) = subst (λ (x : EntryValue). last_dot x.range ≡ dot_at path (ticks_of clock path)) (sym is) ends.is in
                let p : entry.range.path ≡ path = ap (λ (d : Dot). d.path) at in
                let t : entry.range.last ≡ ticks_of clock path = ap (λ (d : Dot). d.tick) at in
                let u : entry.range.last ≤ ticks_of clock entry.range.path = subst (λ (q : List ℕ). entry.range.last ≤ ticks_of clock q) (sym p) (omega (arith, t)) in
                let none : entry.range.last ≡ 0 = no_last u in
                inl (omega (arith, t, none))
            | inr later ↦ inr (record { entry = ends.entry; stands = later; is = ends.is })
          ]
        ];
      }
        where
          no_last : entry.range.last ≤ ticks_of clock entry.range.path → entry.range.last ≡ 0
          no_last upto = elim (cases_lt 0 entry.range.last) [
            | inl some ↦ absurd (unknown (record { positive = omega (arith, some); within = upto }))
            | inr none ↦ omega (arith, none)
          ]

  -- ---- all of them

  -- those of entries that the clock knows are ready one after another
  pub all_ready_kept : (all own : List (List ℕ × ℕ)) (pairs : List Tagged) (entries : List EntryValue) (after : List (List ℕ × ℕ)) (new : List Tagged)
      → IsAlong all own entries → LeadsTo all pairs entries after new → ((entry : EntryValue) → Has entries entry → IsKnownEntry clock entry → IsPartOf entry.time clock)
      → AreReadyKept clock own entries
  all_ready_kept all own pairs [] after new along leads closed = tt
  all_ready_kept all own pairs (entry ∷ entries) after new along leads closed = (
    λ known. (
      kept_ready all own entry entries along pairs after new leads known (closed entry (inl refl) known),
      λ next raises.
          all_ready_kept leads.0 next leads.1 entries after new (along_kept all own entry entries along leads.0 leads.3 next leads.2.unknown known raises) leads.5
          (λ other h. closed other (inr h)),
    ),
    λ unknown.
        all_ready_kept leads.0 own leads.1 entries after new (along_left all own entry entries along leads.0 leads.3 unknown) leads.5
        (λ other h. closed other (inr h)),
  )

  -- and they lead to the ticks of the clock
  pub kept_reach : (all own : List (List ℕ × ℕ)) (pairs half : List Tagged) (entries kept : List EntryValue) (after end : List (List ℕ × ℕ)) (new last : List Tagged)
      → IsAlong all own entries → LeadsTo all pairs entries after new → KeepsThose (IsKnownEntry clock) entries kept → LeadsTo own half kept end last
      → (path : List ℕ) → ticks_of end path ≡ ticks_of clock path
  kept_reach all own pairs half [] kept after end new last along leads keeps ends path =
      let same : end ≡ own = (subst (λ (es : List EntryValue). LeadsTo own half es end last) keeps ends).0 in
      let low = along.within path in
      let high : ticks_of clock path ≤ ticks_of own path = elim (along.reaches path) [ inl reached ↦ reached | inr none ↦ absurd none.stands ] in
      ap (λ (ts : List (List ℕ × ℕ)). ticks_of ts path) same ∙ (let e : ticks_of own path ≡ ticks_of clock path = omega (arith, low, high) in e)
  kept_reach all own pairs half (entry ∷ entries) kept after end new last along leads (inl keeps) ends path =
      let on : LeadsTo own half (entry ∷ keeps.1) end last = subst (λ (es : List EntryValue). LeadsTo own half es end last) keeps.3 ends in
      kept_reach leads.0 on.0 leads.1 on.1 entries keeps.1 after end new last
      (along_kept all own entry entries along leads.0 leads.3 on.0 leads.2.unknown keeps.0 on.3) leads.5 keeps.2 on.5 path
  kept_reach all own pairs half (entry ∷ entries) kept after end new last along leads (inr keeps) ends path =
      kept_reach leads.0 own leads.1 half entries kept after end new last (along_left all own entry entries along leads.0 leads.3 keeps.0) leads.5 keeps.1 ends path

  -- ---- from the base on

  -- the base is along
  pub base_along : (clone : LocalClone) → IsPartOf clone.base clock → EndsBetween clone clock → IsAlong clone.base clone.base clone.entries
  base_along clone part between = record {
    same = λ path low. refl;
    less = λ path. omega arith;
    within = (Covers-within clone.base clock).1 part;
    reaches = λ path. elim (cases_lt 0 (ticks_of clock path)) [
      | inl some ↦
          let dot : Dot = dot_at path (ticks_of clock path) in
          let whole : ¬ IsSplitAt clone.base clone.entries dot = none_has (IsSplitAt clone.base clone.entries) (last_dots clock) dot between (has_last_dot clock path (omega (arith, some))) in
          elim (ends_or_not clone.entries dot) [
            | inl ends ↦ inr ends
            | inr none ↦ elim (cases_lt (ticks_of clone.base path) (ticks_of clock path)) [
              | inl low ↦ absurd (whole (record { base_apart = λ e. omega (arith, low, e); ranges_apart = none }))
              | inr reached ↦ inl reached
            ]
          ]
      | inr none ↦ inl (omega (arith, none))
    ];
  }
