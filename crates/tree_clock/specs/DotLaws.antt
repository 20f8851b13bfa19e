-- The orders of paths and of dots are total, and equal under them is the same. Lists of ranges, joined and tested.
use Rattle.std.proofs.Common.{◌≡◌, ℕ, ◌<◌, ◌≤◌, List, [], ◌∷◌, ◌++◌, ◌⊎◌, ◌↔◌, Bool, true, false, ap, refl, inl, inr, ⊎_elim, nat_eq, arith}
use Rattle.std.specs.Bool.{Decides}
use Rattle.std.specs.Cmp.{IsTotalOrder}
use Rattle.std.specs.Cmp.Lexicographic.{pointwise, bytes_decides}
use Rattle.std.specs.Ordering.{nat_cmp}
use Rattle.std.proofs.lemmas.Bool.{cases_lt, false≢true}
use Rattle.std.proofs.lemmas.Cmp.{nat_list_cmp_total, then_total, on_total, nat_cmp_total}
use Rattle.std.proofs.lemmas.Map.Lookups.{CmpEqualImpliesEq, exact_bytes, exact_pairs, exact_unsigned}
use Rattle.tree_clock.specs.declared.dots.Dot.{Dot}
use Rattle.tree_clock.specs.declared.dots.Range.{Range}
use Rattle.tree_clock.specs.Dot.{dot_cmp, IsIn, Knows}
use Rattle.tree_clock.specs.Path.{path_cmp}

-- paths are in a total order
pub path_total : IsTotalOrder path_cmp
path_total = nat_list_cmp_total

-- equal paths are the same path
pub path_exact : CmpEqualImpliesEq path_cmp
path_exact = exact_bytes

-- the test `==` of paths tells whether they are the same
pub path_eq-Decides : (a b : List ℕ) → Decides (pointwise nat_eq a b) (a ≡ b)
path_eq-Decides = bytes_decides

-- dots are in a total order
pub dot_total : IsTotalOrder dot_cmp
dot_total = then_total (on_total (λ d. d.path) path_total) (on_total (λ d. d.tick) nat_cmp_total)

-- equal dots are the same dot
pub dot_exact : CmpEqualImpliesEq dot_cmp
dot_exact a b h =
    ap (λ (p : List ℕ × ℕ). record { path = p.0; tick = p.1 }) (exact_pairs path_cmp nat_cmp path_exact exact_unsigned (a.path, a.tick) (b.path, b.tick) h)

-- ---- lists of ranges

-- a dot is one of two lists of ranges where it is one of the first or of the second
pub Knows-append : (xs ys : List Range) (dot : Dot) → Knows (xs ++ ys) dot ↔ (Knows xs dot ⊎ Knows ys dot)
Knows-append [] ys dot = (λ h. inr h, ⊎_elim (λ h. absurd h) (λ h. h))
Knows-append (x ∷ xs) ys dot =
    let rest = Knows-append xs ys dot in (
      ⊎_elim (λ h. inl (inl h)) (λ h. ⊎_elim (λ k. inl (inr k)) (λ k. inr k) (rest.0 h)),
      ⊎_elim (⊎_elim (λ h. inl h) (λ h. inr (rest.1 (inl h)))) (λ h. inr (rest.1 (inr h))),
    )

-- a dot is one of a range, or it is not
pub IsIn_or_not : (range : Range) (dot : Dot) → IsIn range dot ⊎ (¬ IsIn range dot)
IsIn_or_not range dot =
    by (pointwise nat_eq dot.path range.path) (path_eq-Decides dot.path range.path) (cases_lt dot.tick range.first) (cases_lt range.last dot.tick)
  where
    by : (b : Bool) → Decides b (dot.path ≡ range.path) → (dot.tick < range.first) ⊎ (range.first ≤ dot.tick) → (range.last < dot.tick) ⊎ (dot.tick ≤ range.last) → IsIn range dot ⊎ (¬ IsIn range dot)
    by false d low high = inr (λ m. false≢true (d.1 m.path))
    by true d (inl l) high = inr (λ m. let a = m.above in omega arith)
    by true d (inr l) (inl h) = inr (λ m. let b = m.below in omega arith)
    by true d (inr l) (inr h) = inl (record { path = d.0 refl; above = l; below = h })

-- a dot is one of the ranges, or it is not
pub Knows_or_not : (ranges : List Range) (dot : Dot) → Knows ranges dot ⊎ (¬ Knows ranges dot)
Knows_or_not [] dot = inr (λ h. h)
Knows_or_not (range ∷ ranges) dot =
    ⊎_elim (λ h. inl (inl h)) (λ h. ⊎_elim (λ k. inl (inr k)) (λ k. inr (⊎_elim h k)) (Knows_or_not ranges dot)) (IsIn_or_not range dot)
