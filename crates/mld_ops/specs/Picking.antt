-- Lists of which some members are left out, or the first of a kind is taken out.
use Rattle.std.specs.Prelude.{◌≡◌, List, [], ◌∷◌, ◌⊎◌}
use Rattle.std.specs.List.{AllByRecursion}

-- no member is of the kind
abbrev pub HasNone : {X : Type 0} → (X → Type 0) → List X → Type 0
HasNone P xs = AllByRecursion (λ x. ¬ P x) xs

-- the members that are of the kind are left out, and the others stay in order
abbrev pub DropsThose : {X : Type 0} → (X → Type 0) → List X → List X → Type 0
DropsThose P [] rest = rest ≡ []
DropsThose {X = X} P (x ∷ xs) rest =
    (P x × DropsThose P xs rest) ⊎ (¬ P x × (others : List X) × DropsThose P xs others × (rest ≡ x ∷ others))

-- the first member of the kind is taken out, and the others stay in order
abbrev pub TakesFirst : {X : Type 0} → (X → Type 0) → List X → X → List X → Type 0
TakesFirst P [] first rest = ⊥
TakesFirst {X = X} P (x ∷ xs) first rest =
    (P x × (first ≡ x) × (rest ≡ xs)) ⊎ (¬ P x × (others : List X) × TakesFirst P xs first others × (rest ≡ x ∷ others))
