-- Elements with their hints beside them, in order. Private calls behind `sort_by_hints` cite it.
use Rattle.std.specs.Prelude.{◌≡◌, ℕ, List, map}
use Rattle.std.specs.List.{All}
use Rattle.std.specs.Ordering.{nat_cmp, then_cmp}
use Rattle.std.specs.declared.cmp.Ordering.{Ordering}
use Rattle.hinted_chunks.specs.Hinted.{ShareText, hint_of}

-- by hint, and where that is the same by the element
abbrev pub hinted_cmp : {X : Type 0} → (X → X → Ordering) → ℕ × X → ℕ × X → Ordering
hinted_cmp order = then_cmp (λ a b. nat_cmp a.0 b.0) (λ a b. order a.1 b.1)

-- beside each element stands what its text has behind the mark, up to which the elements have one text
pub record AreHintedFrom {X : Type 0} (text : X → List ℕ) (mark : ℕ) (hinted : List (ℕ × X)) : Type 0 where
  pub shared : ShareText text mark (map (λ pair. pair.1) hinted)
  pub hints : All (λ pair. pair.0 ≡ hint_of text mark pair.1) hinted
