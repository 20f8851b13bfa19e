-- The test of an entry that is ready and not known.
use Rattle.std.proofs.Common.{◌≡◌, ℕ, zero, suc, ◌+◌, ◌≤◌, List, [], ◌∷◌, true, false, ◌&&◌, ◌||◌, not, leb, nat_eq, refl, sym, ap, ◌∙◌, subst, inl, inr, ◌⊎◌, arith}
use Rattle.std.proofs.lemmas.Bool.{cases_Bool, le-leb, and_parts, and_from}
use Rattle.std.proofs.lemmas.Bool.Decides.{leb_tells}
use Rattle.std.proofs.lemmas.Slice.Eq.{bytes_eq-Decides}
use Rattle.std.specs.Cmp.Lexicographic.{pointwise}
use Rattle.mld_ops.specs.Entry.{EntryValue, IsEntry}
use Rattle.mld_ops.specs.Ready.{last_dot, IsReadyEntry}
use Rattle.tree_clock.specs.Clock.{ticks_of, Covers, entry_cmp}
use Rattle.tree_clock.proofs.ClockLaws.{same_test, apart_test, ticks_of-below}
use Rattle.tree_clock.specs.Dot.{IsIn}
use Rattle.tree_clock.specs.Lists.{IsAscending}
use Rattle.tree_clock.specs.declared.dots.Dot.{Dot}
use Rattle.journal_sides.specs.RecordBytes.{is_known_elsewhere, is_ready_entry}

-- ---- the other paths of a time

module _ (ticks : List (List ℕ × ℕ)) (path : List ℕ) where
  -- each other path has ticks that are known
  abbrev Elsewhere : List (List ℕ × ℕ) → Type 0
  Elsewhere time = (other : List ℕ) → ¬ (other ≡ path) → ticks_of time other ≤ ticks_of ticks other

  -- the test of an entry whose path is another one
  other_test : (entry : List ℕ × ℕ) → ¬ (entry.0 ≡ path) → (pointwise nat_eq entry.0 path || leb entry.1 (ticks_of ticks entry.0)) ≡ leb entry.1 (ticks_of ticks entry.0)
  other_test entry n = rw (apart_test entry.0 path n)

  -- a test that passed
  leb_passed : (m n : ℕ) → leb m n ≡ true → m ≤ n
  leb_passed m n t = elim (leb_tells m n) [
    | inl k ↦ k.1
    | inr k ↦ absurd (let e : false ≡ true = sym k.0 ∙ t in cc)
  ]

  -- what passes the test is known elsewhere
  elsewhere_known : (time : List (List ℕ × ℕ)) → is_known_elsewhere ticks path time ≡ true → Elsewhere time
  elsewhere_known [] t other n = omega arith
  elsewhere_known (entry ∷ time) t other n = by (and_parts _ _ t) (cases_Bool (pointwise nat_eq entry.0 other)) (elsewhere_known time)
    where
      by : ((pointwise nat_eq entry.0 path || leb entry.1 (ticks_of ticks entry.0)) ≡ true) × (is_known_elsewhere ticks path time ≡ true)
          → (pointwise nat_eq entry.0 other ≡ true) ⊎ (pointwise nat_eq entry.0 other ≡ false)
          → (is_known_elsewhere ticks path time ≡ true → Elsewhere time) → ticks_of (entry ∷ time) other ≤ ticks_of ticks other
      by parts (inr f) again = rw f (again parts.1 other n)
      by parts (inl s) again =
          let same : entry.0 ≡ other = (bytes_eq-Decides entry.0 other).0 s in
          let apart : ¬ (entry.0 ≡ path) = λ e. n (sym same ∙ e) in
          let l : entry.1 ≤ ticks_of ticks entry.0 = leb_passed entry.1 (ticks_of ticks entry.0) (sym (other_test entry apart) ∙ parts.0) in
          rw s (subst (λ (q : List ℕ). entry.1 ≤ ticks_of ticks q) same l)

  -- what is known elsewhere passes the test
  known_elsewhere : (time : List (List ℕ × ℕ)) → IsAscending entry_cmp time → Elsewhere time → is_known_elsewhere ticks path time ≡ true
  known_elsewhere [] a k = refl
  known_elsewhere (entry ∷ time) a k = and_from _ _ (first (cases_Bool (pointwise nat_eq entry.0 path))) (known_elsewhere time a.1 rest)
    where
      first : (pointwise nat_eq entry.0 path ≡ true) ⊎ (pointwise nat_eq entry.0 path ≡ false) → (pointwise nat_eq entry.0 path || leb entry.1 (ticks_of ticks entry.0)) ≡ true
      first (inl s) = rw s
      first (inr f) =
          let apart : ¬ (entry.0 ≡ path) = λ e. let t = (bytes_eq-Decides entry.0 path).1 e in let c : false ≡ true = sym f ∙ t in cc in
          let own : ticks_of (entry ∷ time) entry.0 ≡ entry.1 = rw (same_test entry.0) in
          rw f (le-leb entry.1 (ticks_of ticks entry.0) (subst (λ (m : ℕ). m ≤ ticks_of ticks entry.0) own (k entry.0 apart)))

      rest : Elsewhere time
      rest other n = elim (cases_Bool (pointwise nat_eq entry.0 other)) [
        | inl s ↦
            let same : entry.0 ≡ other = (bytes_eq-Decides entry.0 other).0 s in
            let none : ticks_of time other ≡ 0 = ap (ticks_of time) (sym same) ∙ ticks_of-below entry time a.0 in
            omega arith
        | inr f ↦
            let same : ticks_of (entry ∷ time) other ≡ ticks_of time other = rw f in
            subst (λ (m : ℕ). m ≤ ticks_of ticks other) same (k other n)
      ]

-- ---- entries

-- an entry that is ready passes its test
pub ready_tested : (ticks : List (List ℕ × ℕ)) (entry : EntryValue) → IsEntry entry → IsReadyEntry ticks entry → is_ready_entry ticks entry ≡ true
unfolding is_ready_entry
ready_tested ticks entry is ready =
    and_from _ _ (and_from _ _ unknown (le-leb entry.range.first (ticks_of ticks entry.range.path + 1) ready.before)) (known_elsewhere ticks entry.range.path entry.time is.clock.ascending known)
  where
    unknown : not (leb entry.range.last (ticks_of ticks entry.range.path)) ≡ true
    unknown = elim (leb_tells entry.range.last (ticks_of ticks entry.range.path)) [
      | inr k ↦ rw k.0
      | inl k ↦ absurd (ready.unknown (record { positive = omega (arith, is.first, is.last); within = k.1 }))
    ]

    known : Elsewhere ticks entry.range.path entry.time
    known other n = at (ticks_of entry.time other) refl
      where
        at : (m : ℕ) → ticks_of entry.time other ≡ m → m ≤ ticks_of ticks other
        at zero e = omega arith
        at (suc m) e =
            let dot : Dot = record { path = other; tick = suc m } in
            (ready.time dot (record { positive = omega arith; within = omega (arith, e) }) (λ inside. n inside.path)).within

-- what passes the test is ready
pub test_ready : (ticks : List (List ℕ × ℕ)) (entry : EntryValue) → IsEntry entry → is_ready_entry ticks entry ≡ true → IsReadyEntry ticks entry
unfolding is_ready_entry
test_ready ticks entry is t = by (and_parts _ _ t)
  where
    by : ((not (leb entry.range.last (ticks_of ticks entry.range.path)) && leb entry.range.first (ticks_of ticks entry.range.path + 1)) ≡ true) × (is_known_elsewhere ticks entry.range.path entry.time ≡ true) → IsReadyEntry ticks entry
    by parts = record {
      unknown = λ k. unknown (and_parts (not (leb entry.range.last (ticks_of ticks entry.range.path))) (leb entry.range.first (ticks_of ticks entry.range.path + 1)) parts.0).0 k.within;
      before = before;
      time = λ dot k outside. covers dot k outside (cases_Bool (pointwise nat_eq dot.path entry.range.path));
    }
      where
        unknown : not (leb entry.range.last (ticks_of ticks entry.range.path)) ≡ true → entry.range.last ≤ ticks_of ticks entry.range.path → ⊥
        unknown u l = let e = le-leb entry.range.last (ticks_of ticks entry.range.path) l in let c : false ≡ true = sym (ap not e) ∙ u in cc

        before : entry.range.first ≤ ticks_of ticks entry.range.path + 1
        before = leb_passed ticks entry.range.path entry.range.first (ticks_of ticks entry.range.path + 1) (and_parts (not (leb entry.range.last (ticks_of ticks entry.range.path))) (leb entry.range.first (ticks_of ticks entry.range.path + 1)) parts.0).1

        covers : (dot : Dot) → Covers entry.time dot → ¬ IsIn entry.range dot → (pointwise nat_eq dot.path entry.range.path ≡ true) ⊎ (pointwise nat_eq dot.path entry.range.path ≡ false) → Covers ticks dot
        covers dot k outside (inr f) =
            let apart : ¬ (dot.path ≡ entry.range.path) = λ e. let s = (bytes_eq-Decides dot.path entry.range.path).1 e in let c : false ≡ true = sym f ∙ s in cc in
            let l = elsewhere_known ticks entry.range.path entry.time parts.1 dot.path apart in
            record { positive = k.positive; within = omega (arith, k.within, l) }
        covers dot k outside (inl s) =
            let same : dot.path ≡ entry.range.path = (bytes_eq-Decides dot.path entry.range.path).0 s in
            let last : ticks_of entry.time dot.path ≡ entry.range.last = ap (ticks_of entry.time) same ∙ is.own in
            let own : ticks_of ticks dot.path ≡ ticks_of ticks entry.range.path = ap (ticks_of ticks) same in
            elim (leb_tells entry.range.first dot.tick) [
              | inl a ↦ absurd (outside (record { path = same; above = a.1; below = omega (arith, k.within, last) }))
              | inr a ↦ record { positive = k.positive; within = omega (arith, a.1, before, own) }
            ]

-- ---- ticks that are the same

-- a dot is covered by the ticks of its path
covers_same : (xs ys : List (List ℕ × ℕ)) (dot : Dot) → ticks_of xs dot.path ≡ ticks_of ys dot.path → Covers xs dot → Covers ys dot
covers_same xs ys dot e k = record { positive = k.positive; within = subst (λ (n : ℕ). dot.tick ≤ n) e k.within }

-- entries are ready by what ticks each path has
pub ready_same : (ticks other : List (List ℕ × ℕ)) (entry : EntryValue) → ((path : List ℕ) → ticks_of ticks path ≡ ticks_of other path) → IsReadyEntry ticks entry → IsReadyEntry other entry
ready_same ticks other entry same ready = record {
  unknown = λ k. ready.unknown (covers_same other ticks (last_dot entry.range) (sym (same entry.range.path)) k);
  before = subst (λ (n : ℕ). entry.range.first ≤ n + 1) (same entry.range.path) ready.before;
  time = λ dot h outside. covers_same ticks other dot (same dot.path) (ready.time dot h outside);
}
