-- The loops that find out whether the state of a clone at a clock can be told.
use Rattle.std.proofs.Common.{◌≡◌, ℕ, ◌+◌, ◌<◌, ◌≤◌, max, List, ◌⊎◌, ◌↔◌, length, get_or, take, Option, None, Some, inl, inr, refl, sym, ◌∙◌, ap, subst, arith}
use Rattle.std.proofs.lemmas.Bool.{cases_lt}
use Rattle.std.proofs.lemmas.List.{take_all}
use Rattle.tree_clock.specs.declared.dots.Dot.{Dot}
use Rattle.tree_clock.specs.declared.dots.Range.{Range}
use Rattle.tree_clock.specs.Clock.{ticks_of, Covers, IsClock, RaisesTo}
use Rattle.tree_clock.specs.Lists.{Has}
use Rattle.tree_clock.proofs.ClockLaws.{Covers-raised, Covers-within}
use Rattle.mld_ops.specs.Entry.{EntryValue}
use Rattle.mld_ops.specs.History.{dot_at}
use Rattle.mld_ops.specs.Picking.{HasNone}
use Rattle.mld_ops.specs.Ready.{last_dot, IsKnownEntry}
use Rattle.mld_ops.proofs.AscendingLaws.{has_take_more}
use Rattle.mld_ops.proofs.OperationLaws.{same_dot}
use Rattle.mld_ops.proofs.Walking.{all_more, all_passed}
use Rattle.clone_history.specs.KeptMembers.{FindsFirst}
use Rattle.clone_history.specs.PastParts.{EndsWithin, ReachesWithin, FindsOpen}
use Rattle.clone_history.specs.PastStates.{IsPartOf, IsSplitAt, IsOpenIn, last_dots}
use Rattle.clone_history.proofs.ClockEnds.{same_path_or_not, last_dot_ticks}
use Rattle.clone_history.proofs.KeptLists.{first_at, first_as, first_mapped, none_as, none_mapped}

-- ---- the first one that is lacking

module _ (clock ends : List (List ℕ × ℕ)) where
  -- the dot of a path with ticks isn't one of the clock's
  abbrev pub IsLacking : List ℕ × ℕ → Type 0
  IsLacking end = ¬ Covers clock (dot_at end.0 end.1)

  pub lacking_found : (i : ℕ) (end : List ℕ × ℕ) → i < length ends → end ≡ get_or ends i end → HasNone IsLacking (take i ends) → IsLacking end
      → FindsFirst (λ dot. ¬ Covers clock dot) (last_dots ends) (Some (dot_at end.0 end.1))
  lacking_found i end l e none lacks =
      first_mapped (λ (one : List ℕ × ℕ). dot_at one.0 one.1) (λ dot. ¬ Covers clock dot) ends end (first_at IsLacking ends i end l e none lacks)

  pub lacking_more : (i : ℕ) (end : List ℕ × ℕ) → i < length ends → end ≡ get_or ends i end → HasNone IsLacking (take i ends) → Covers clock (dot_at end.0 end.1)
      → HasNone IsLacking (take (i + 1) ends)
  lacking_more i end l e none has = all_more (λ (one : List ℕ × ℕ). ¬ IsLacking one) ends i end l e none (λ lacks. lacks has)

  pub lacking_none : (i : ℕ) → length ends ≤ i → HasNone IsLacking (take i ends) → FindsFirst (λ dot. ¬ Covers clock dot) (last_dots ends) None
  lacking_none i l none =
      none_mapped (λ (one : List ℕ × ℕ). dot_at one.0 one.1) (λ dot. ¬ Covers clock dot) ends (all_passed (λ (one : List ℕ × ℕ). ¬ IsLacking one) ends i l none)

-- ---- how far a journal reaches within a clock

module _ (clock base : List (List ℕ × ℕ)) (entries : List EntryValue) where
  ends_later : (i : ℕ) (entry : EntryValue) (dot : Dot) → i < length entries → EndsWithin clock (take i entries) dot → EndsWithin clock (take (i + 1) entries) dot
  ends_later i entry dot l w = record {
    ends = record { entry = w.ends.entry; stands = (has_take_more entries i entry w.ends.entry l).1 (inl w.ends.stands); is = w.ends.is };
    known = w.known;
  }

  from_later : (i : ℕ) (entry : EntryValue) (ticks : List (List ℕ × ℕ)) (path : List ℕ) → i < length entries
      → (ticks_of ticks path ≡ ticks_of base path) ⊎ EndsWithin clock (take i entries) (dot_at path (ticks_of ticks path))
      → (ticks_of ticks path ≡ ticks_of base path) ⊎ EndsWithin clock (take (i + 1) entries) (dot_at path (ticks_of ticks path))
  from_later i entry ticks path l from = elim from [ inl same ↦ inl same | inr w ↦ inr (ends_later i entry (dot_at path (ticks_of ticks path)) l w) ]

  pub reaches_none : (ticks : List (List ℕ × ℕ)) → ticks ≡ base → ReachesWithin clock base (take 0 entries) ticks
  reaches_none ticks e = record {
    from = λ path. inl (ap (λ (ts : List (List ℕ × ℕ)). ticks_of ts path) e);
    over = λ path. let same : ticks_of ticks path ≡ ticks_of base path = ap (λ (ts : List (List ℕ × ℕ)). ticks_of ts path) e in omega (arith, same);
    each = λ entry h. absurd h;
  }

  -- one more that the clock doesn't know
  pub reaches_same : (i : ℕ) (entry : EntryValue) (ticks : List (List ℕ × ℕ)) → i < length entries → entry ≡ get_or entries i entry
      → ReachesWithin clock base (take i entries) ticks → ¬ IsKnownEntry clock entry → ReachesWithin clock base (take (i + 1) entries) ticks
  reaches_same i entry ticks l e so unknown = record {
    from = λ path. from_later i entry ticks path l (so.from path);
    over = so.over;
    each = λ other h known. elim ((has_take_more entries i entry other l).0 h) [
      | inl before ↦ so.each other before known
      | inr is ↦ absurd (unknown (subst (IsKnownEntry clock) (sym (e ∙ is)) known))
    ];
  }

  -- one more that it knows
  pub reaches_more : (i : ℕ) (entry : EntryValue) (ticks next : List (List ℕ × ℕ)) → i < length entries → entry ≡ get_or entries i entry
      → ReachesWithin clock base (take i entries) ticks → IsKnownEntry clock entry → RaisesTo ticks next (last_dot entry.range)
      → ReachesWithin clock base (take (i + 1) entries) next
  reaches_more i entry ticks next l e so known raises = record {
    from = λ path. elim (same_path_or_not path entry.range.path) [
      | inl p ↦ elim (cases_lt (ticks_of ticks entry.range.path) entry.range.last) [
        | inl below ↦
            let at : ticks_of next entry.range.path ≡ entry.range.last = let a = raises.at in omega (arith, a, below) in
            let tick : entry.range.last ≡ ticks_of next path = sym at ∙ ap (ticks_of next) (sym p) in
            inr (record {
              ends = record {
                entry = entry;
                stands = (has_take_more entries i entry entry l).1 (inr (sym e));
                is = same_dot (last_dot entry.range) (dot_at path (ticks_of next path)) (sym p) tick;
              };
              known = subst (Covers clock) (same_dot (last_dot entry.range) (dot_at path (ticks_of next path)) (sym p) tick) known;
            })
        | inr reached ↦
            let at : ticks_of next entry.range.path ≡ ticks_of ticks entry.range.path = let a = raises.at in omega (arith, a, reached) in
            let same : ticks_of next path ≡ ticks_of ticks path = ap (ticks_of next) p ∙ at ∙ ap (ticks_of ticks) (sym p) in
            unchanged path same
      ]
      | inr n ↦ unchanged path (raises.others path n)
    ];
    over = λ path. elim (same_path_or_not path entry.range.path) [
      | inl p ↦
          let at : ticks_of next path ≡ max (ticks_of ticks path) entry.range.last =
          subst (λ (q : List ℕ). ticks_of next q ≡ max (ticks_of ticks q) entry.range.last) (sym p) raises.at in
          let o = so.over path in
          omega (arith, at, o)
      | inr n ↦ let same = raises.others path n in let o = so.over path in omega (arith, same, o)
    ];
    each = λ other h own. elim ((has_take_more entries i entry other l).0 h) [
      | inl before ↦ (Covers-raised ticks next (last_dot entry.range) (last_dot other.range) raises).1 (inl (so.each other before own))
      | inr is ↦ subst (λ (x : EntryValue). Covers next (last_dot x.range)) (e ∙ is)
          ((Covers-raised ticks next (last_dot entry.range) (last_dot entry.range) raises).1 (inr (refl, known.positive, omega arith)))
    ];
  }
    where
      unchanged : (path : List ℕ) → ticks_of next path ≡ ticks_of ticks path
          → (ticks_of next path ≡ ticks_of base path) ⊎ EndsWithin clock (take (i + 1) entries) (dot_at path (ticks_of next path))
      unchanged path same =
          subst (λ (n : ℕ). (n ≡ ticks_of base path) ⊎ EndsWithin clock (take (i + 1) entries) (dot_at path n)) (sym same) (from_later i entry ticks path l (so.from path))

  pub reaches_all : (i : ℕ) (ticks : List (List ℕ × ℕ)) → length entries ≤ i → ReachesWithin clock base (take i entries) ticks → ReachesWithin clock base entries ticks
  reaches_all i ticks l so = subst (λ (es : List EntryValue). ReachesWithin clock base es ticks) (take_all i entries l) so

  -- a last dot of the clock isn't reached just where a range is split there
  split_alike : (ticks : List (List ℕ × ℕ)) (dot : Dot) → IsClock clock → IsPartOf base clock → ReachesWithin clock base entries ticks → Has (last_dots clock) dot
      → (¬ Covers ticks dot) ↔ IsSplitAt base entries dot
  split_alike ticks dot is part so h = (
    λ lacks. record {
      base_apart = λ same. lacks (record { positive = at.0; within = let o = so.over dot.path in omega (arith, same, o) });
      ranges_apart = λ entry stands ends. lacks (subst (Covers ticks) ends (so.each entry stands (subst (Covers clock) (sym ends) own)));
    },
    λ split covered. elim (so.from dot.path) [
      | inl same ↦
          let low : ticks_of base dot.path ≤ ticks_of clock dot.path = (Covers-within base clock).1 part dot.path in
          let w = covered.within in
          let e = at.1 in
          split.base_apart (omega (arith, low, w, e, same))
      | inr w ↦
          let high : ticks_of ticks dot.path ≤ ticks_of clock dot.path = w.known.within in
          let c = covered.within in
          let e = at.1 in
          let tick : ticks_of ticks dot.path ≡ dot.tick = omega (arith, high, c, e) in
          split.ranges_apart w.ends.entry w.ends.stands (w.ends.is ∙ same_dot (dot_at dot.path (ticks_of ticks dot.path)) dot refl tick)
    ],
  )
    where
      at : (1 ≤ dot.tick) × (ticks_of clock dot.path ≡ dot.tick)
      at = last_dot_ticks clock dot is h

      own : Covers clock dot
      own = record { positive = at.0; within = let e = at.1 in omega (arith, e) }

  -- so the first that isn't reached is the first one there
  pub split_found : (ticks : List (List ℕ × ℕ)) (found : Option Dot) → IsClock clock → IsPartOf base clock → ReachesWithin clock base entries ticks
      → FindsFirst (λ dot. ¬ Covers ticks dot) (last_dots clock) found → FindsFirst (IsSplitAt base entries) (last_dots clock) found
  split_found ticks None is part so finds =
      none_as (λ dot. ¬ Covers ticks dot) (IsSplitAt base entries) (last_dots clock) (λ dot h. (split_alike ticks dot is part so h).1) finds
  split_found ticks (Some dot) is part so finds =
      first_as (λ other. ¬ Covers ticks other) (IsSplitAt base entries) (last_dots clock) dot (λ other h. split_alike ticks other is part so h) finds

-- ---- the first one that is open

module _ (clock : List (List ℕ × ℕ)) (entries : List EntryValue) where
  pub open_found : (i : ℕ) (entry : EntryValue) (range : Range) → i < length entries → entry ≡ get_or entries i entry → HasNone (IsOpenIn clock) (take i entries)
      → IsOpenIn clock entry → range ≡ entry.range → FindsOpen clock entries (Some range)
  open_found i entry range l e none is same = (entry, first_at (IsOpenIn clock) entries i entry l e none is, same)

  pub open_more : (i : ℕ) (entry : EntryValue) → i < length entries → entry ≡ get_or entries i entry → HasNone (IsOpenIn clock) (take i entries)
      → ¬ IsOpenIn clock entry → HasNone (IsOpenIn clock) (take (i + 1) entries)
  open_more i entry l e none no_more = all_more (λ (x : EntryValue). ¬ IsOpenIn clock x) entries i entry l e none no_more

  pub open_none : (i : ℕ) → length entries ≤ i → HasNone (IsOpenIn clock) (take i entries) → FindsOpen clock entries None
  open_none i l none = all_passed (λ (x : EntryValue). ¬ IsOpenIn clock x) entries i l none
