-- Lists of which the members of a kind are kept, and the first of a kind. The past states and the plans of this crate are made of them.
use Rattle.std.specs.Prelude.{◌≡◌, List, [], ◌∷◌, ◌⊎◌, Option, MatchOption}
use Rattle.mld_ops.specs.Picking.{HasNone, TakesFirst}

-- the members that are of the kind are kept, in order
abbrev pub KeepsThose : {X : Type 0} → (X → Type 0) → List X → List X → Type 0
KeepsThose P [] kept = kept ≡ []
KeepsThose {X = X} P (x ∷ xs) kept =
    (P x × (others : List X) × KeepsThose P xs others × (kept ≡ x ∷ others)) ⊎ (¬ P x × KeepsThose P xs kept)

-- the first member of the kind
abbrev pub IsFirstMember : {X : Type 0} → (X → Type 0) → List X → X → Type 0
IsFirstMember {X = X} P xs x = (others : List X) × TakesFirst P xs x others

-- the first member of the kind is found, if there is one
abbrev pub FindsFirst : {X : Type 0} → (X → Type 0) → List X → Option X → Type 0
FindsFirst P xs found = MatchOption found (HasNone P xs) (λ x. IsFirstMember P xs x)
