-- The last dots of a clock.
use Rattle.std.proofs.Common.{◌≡◌, ◌≢◌, ℕ, ◌≤◌, List, [], ◌∷◌, ◌⊎◌, inl, inr, refl, sym, ◌∙◌, ap, subst, arith}
use Rattle.std.proofs.lemmas.Bool.{cases_lt}
use Rattle.tree_clock.specs.declared.dots.Dot.{Dot}
use Rattle.tree_clock.specs.Clock.{ticks_of, entry_cmp, IsClock}
use Rattle.tree_clock.specs.Lists.{Has, IsBelowAll}
use Rattle.tree_clock.proofs.ClockLaws.{by_order, less_apart, ticks_of-head, ticks_of-tail, Covers_or_not}
use Rattle.mld_ops.specs.Entry.{EntryValue}
use Rattle.mld_ops.specs.History.{dot_at}
use Rattle.mld_ops.specs.Ready.{last_dot}
use Rattle.mld_ops.proofs.OperationLaws.{same_dot}
use Rattle.clone_history.specs.PastParts.{SomeEndsAt}
use Rattle.clone_history.specs.PastStates.{IsPartOf, last_dots}

-- ---- paths and dots, the same or not

-- two paths are the same, or they are not
pub same_path_or_not : (p q : List ℕ) → (p ≡ q) ⊎ ¬ (p ≡ q)
same_path_or_not p q = by_order p q (λ l. inr (less_apart p q l)) (λ e. inl e) (λ l. inr (λ e. less_apart q p l (sym e)))

-- two dots are the same, or they are not
pub same_dot_or_not : (a b : Dot) → (a ≡ b) ⊎ ¬ (a ≡ b)
same_dot_or_not a b = elim (same_path_or_not a.path b.path) [
  | inl p ↦ elim (cases_lt a.tick b.tick) [
    | inl low ↦ inr (λ e. let t : a.tick ≡ b.tick = ap (λ (d : Dot). d.tick) e in omega (arith, low, t))
    | inr from ↦ elim (cases_lt b.tick a.tick) [
      | inl above ↦ inr (λ e. let t : a.tick ≡ b.tick = ap (λ (d : Dot). d.tick) e in omega (arith, above, t))
      | inr upto ↦ inl (same_dot a b p (omega (arith, from, upto)))
    ]
  ]
  | inr n ↦ inr (λ e. n (ap (λ (d : Dot). d.path) e))
]

-- ---- the last dots of a clock

-- each last dot of a clock is one of its dots, and has the ticks of its path
pub last_dot_ticks : (ticks : List (List ℕ × ℕ)) (dot : Dot) → IsClock ticks → Has (last_dots ticks) dot → (1 ≤ dot.tick) × (ticks_of ticks dot.path ≡ dot.tick)
last_dot_ticks [] dot is h = absurd h
last_dot_ticks (entry ∷ ticks) dot is (inl e) =
    let path : entry.0 ≡ dot.path = ap (λ (d : Dot). d.path) e in
    let tick : entry.1 ≡ dot.tick = ap (λ (d : Dot). d.tick) e in (
      subst (λ (n : ℕ). 1 ≤ n) tick is.positive.0,
      subst (λ (p : List ℕ). ticks_of (entry ∷ ticks) p ≡ dot.tick) path (ticks_of-head entry.0 entry.1 ticks ∙ tick),
    )
last_dot_ticks (entry ∷ ticks) dot is (inr h) =
    let rest : (1 ≤ dot.tick) × (ticks_of ticks dot.path ≡ dot.tick) = last_dot_ticks ticks dot (record { ascending = is.ascending.1; positive = is.positive.1 }) h in
    (rest.0, ticks_of-tail entry ticks dot.path (apart_from ticks is.ascending.0 h) ∙ rest.1)
  where
    apart_from : (others : List (List ℕ × ℕ)) → IsBelowAll entry_cmp entry others → Has (last_dots others) dot → ¬ (entry.0 ≡ dot.path)
    apart_from [] below k = absurd k
    apart_from (first ∷ others) below (inl s) = λ same. less_apart entry.0 first.0 below.0 (same ∙ sym (ap (λ (d : Dot). d.path) s))
    apart_from (first ∷ others) below (inr k) = apart_from others below.1 k

-- a path that has ticks has a last dot
pub has_last_dot : (ticks : List (List ℕ × ℕ)) (path : List ℕ) → 1 ≤ ticks_of ticks path → Has (last_dots ticks) (dot_at path (ticks_of ticks path))
has_last_dot [] path some = absurd (omega (arith, some))
has_last_dot (entry ∷ ticks) path some = elim (same_path_or_not entry.0 path) [
  | inl e ↦
      let at : ticks_of (entry ∷ ticks) path ≡ entry.1 = subst (λ (p : List ℕ). ticks_of (entry ∷ ticks) p ≡ entry.1) e (ticks_of-head entry.0 entry.1 ticks) in
      inl (same_dot (dot_at entry.0 entry.1) (dot_at path (ticks_of (entry ∷ ticks) path)) e (sym at))
  | inr n ↦
      let at : ticks_of (entry ∷ ticks) path ≡ ticks_of ticks path = ticks_of-tail entry ticks path n in
      inr (subst (λ (n : ℕ). Has (last_dots ticks) (dot_at path n)) (sym at) (has_last_dot ticks path (subst (λ (n : ℕ). 1 ≤ n) at some)))
]

-- ---- where entries end

-- some entry ends at a dot, or none
pub ends_or_not : (entries : List EntryValue) (dot : Dot) → SomeEndsAt entries dot ⊎ ((entry : EntryValue) → Has entries entry → last_dot entry.range ≢ dot)
ends_or_not [] dot = inr (λ entry h. absurd h)
ends_or_not (entry ∷ entries) dot = elim (same_dot_or_not (last_dot entry.range) dot) [
  | inl e ↦ inl (record { entry = entry; stands = inl refl; is = e })
  | inr n ↦ elim (ends_or_not entries dot) [
    | inl ends ↦ inl (record { entry = ends.entry; stands = inr ends.stands; is = ends.is })
    | inr none ↦ inr (λ other h. elim h [ inl e ↦ subst (λ (x : EntryValue). last_dot x.range ≢ dot) e n | inr k ↦ none other k ])
  ]
]

-- ---- parts of a clock

-- what isn't none is a part
pub part_or_not : (ticks other : List (List ℕ × ℕ)) → ¬ ¬ IsPartOf ticks other → IsPartOf ticks other
part_or_not ticks other some dot covered = elim (Covers_or_not other dot) [
  | inl has ↦ has
  | inr lacks ↦ absurd (some (λ part. lacks (part dot covered)))
]
