-- Lists as sets, and lists in strict order.
use Rattle.std.specs.Prelude.{◌≡◌, List, [], ◌∷◌, ◌⊎◌}
use Rattle.std.specs.declared.cmp.Ordering.{Ordering}
use Rattle.std.specs.declared.cmp.Ordering.TheVariants.{Less}

-- the list has the value among its members
abbrev pub Has : {X : Type 0} → List X → X → Type 0
Has [] x = ⊥
Has (y ∷ ys) x = (y ≡ x) ⊎ Has ys x

-- the value is below each member
abbrev pub IsBelowAll : {X : Type 0} → (X → X → Ordering) → X → List X → Type 0
IsBelowAll order x [] = Unit {0}
IsBelowAll order x (y ∷ ys) = (order x y ≡ Less) × IsBelowAll order x ys

-- strictly ascending: each member is below every later one
abbrev pub IsAscending : {X : Type 0} → (X → X → Ordering) → List X → Type 0
IsAscending order [] = Unit {0}
IsAscending order (x ∷ xs) = IsBelowAll order x xs × IsAscending order xs
