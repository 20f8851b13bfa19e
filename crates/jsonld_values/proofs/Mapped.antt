-- A list whose elements are changed one after another.
use Rattle.std.proofs.Common.{◌≡◌, ◌∙◌, ℕ, zero, suc, ◌+◌, ◌<◌, List, [], ◌∷◌, ◌++◌, length, map, take, drop, get_or, set, refl, ap, arith}

abbrev changed : {X : Type 0} → (X → X) → ℕ → List X → List X
changed f i list = map f (take i list) ++ drop i list

-- one more is changed
one_changed : {X : Type 0} (f : X → X) (list : List X) (i : ℕ) (other : X) → i < length list
    → set (changed f i list) i (f (get_or (changed f i list) i other)) ≡ changed f (i + 1) list
one_changed f [] i other h = absurd (omega arith)
one_changed f (x ∷ list) zero other h = refl
one_changed f (x ∷ list) (suc i) other h =
    let next : suc i + 1 ≡ suc (i + 1) = omega arith in
    rw next (ap (λ l. f x ∷ l) (one_changed f list i other (omega arith)))

pub more_changed : {X : Type 0} (f : X → X) (list now : List X) (i : ℕ) (other y : X) → i < length list → now ≡ changed f i list
    → y ≡ f (get_or now i other) → set now i y ≡ changed f (i + 1) list
more_changed f list now i other y h is made =
    (λ j. set (is j) i ((made ∙ ap (λ l. f (get_or l i other)) is) j)) ∙ one_changed f list i other h
