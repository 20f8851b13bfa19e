-- A loop over ranges that looks for a dot.
use Rattle.std.proofs.Common.{◌≡◌, ℕ, zero, suc, ◌+◌, ◌<◌, List, [], ◌∷◌, length, get_or, drop, ◌⊎◌, ⊎_elim, inl, inr, sym, ◌∙◌, ap, subst, arith}
use Rattle.std.proofs.lemmas.List.{drop_more}
use Rattle.tree_clock.specs.Dot.{IsIn, Knows}
use Rattle.tree_clock.specs.declared.dots.Dot.{Dot}
use Rattle.tree_clock.specs.declared.dots.Range.{Range}

-- a dot of a range is a dot of the ranges
pub Knows-at : (ranges : List Range) (i : ℕ) (range : Range) (dot : Dot) → i < length ranges → range ≡ get_or ranges i range → IsIn range dot → Knows ranges dot
Knows-at [] i range dot h e m = absurd (omega arith)
Knows-at (r ∷ rs) zero range dot h e m = inl (subst (λ q. IsIn q dot) e m)
Knows-at (r ∷ rs) (suc i) range dot h e m = inr (Knows-at rs i range dot (omega arith) e m)

-- a dot of the ranges from a place on, and not of the range there, is one of those after it
pub Knows-after : (ranges : List Range) (i : ℕ) (range : Range) (dot : Dot) → i < length ranges → range ≡ get_or ranges i range → ¬ IsIn range dot → Knows (drop i ranges) dot → Knows (drop (i + 1) ranges) dot
Knows-after ranges i range dot h e m k =
    let f : drop i ranges ≡ range ∷ drop (i + 1) ranges = drop_more ranges i range h ∙ ap (λ q. q ∷ drop (i + 1) ranges) (sym e) in
    let split : IsIn range dot ⊎ Knows (drop (i + 1) ranges) dot = subst (λ rs. Knows rs dot) f k in
    ⊎_elim (λ at. absurd (m at)) (λ rest. rest) split
