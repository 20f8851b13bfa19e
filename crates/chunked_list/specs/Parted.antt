-- Lists that a test divides, and where.
use Rattle.std.specs.Prelude.{◌≡◌, ℕ, ◌<◌, List, [], ◌∷◌, ◌⊎◌, Bool, true, false, not, ◌&&◌, length, Option, None, Some}
use Rattle.std.specs.List.{AllByRecursion}
use Rattle.hinted_chunks.specs.tree_clock.Lists.{Has}
use Rattle.chunked_list.specs.Joined.{chunk_at, front_of, back_of}

-- no element behind one that fails the test passes it
abbrev pub IsParted : {X : Type 0} → (X → Bool) → List X → Type 0
IsParted p [] = Unit {0}
IsParted p (x ∷ xs) = (p x ≡ false → AllByRecursion (λ y. p y ≡ false) xs) × IsParted p xs

-- what passes the test is in front of the place, and what fails it is behind
pub record Divides {X : Type 0} (p : X → Bool) (chunks : List (List X)) (chunk at : ℕ) : Type 0 where
  pub front : (x : X) → Has (front_of chunks chunk at) x → p x ≡ true
  pub back : (x : X) → Has (back_of chunks chunk at) x → p x ≡ false

-- the place has an element right behind it, in its chunk
pub record IsElement {X : Type 0} (chunks : List (List X)) (chunk at : ℕ) : Type 0 where
  pub chunk_is : chunk < length chunks
  pub at_is : at < length (chunk_at chunks chunk)

-- the first element that fails the test, where one does
abbrev pub IsFirstOf : {X : Type 0} → (X → Bool) → List X → Option X → Type 0
IsFirstOf p [] first = first ≡ None
IsFirstOf p (x ∷ xs) first = ((p x ≡ true) × IsFirstOf p xs first) ⊎ ((p x ≡ false) × (first ≡ Some x))

-- an element that is not in front of the first of two places, and in front of the second
abbrev pub is_between : {X : Type 0} → (X → Bool) → (X → Bool) → X → Bool
is_between first second x = not (first x) && second x

-- some element fails the test
abbrev pub HasFailing : {X : Type 0} → (X → Bool) → List X → Type 0
HasFailing {X} p xs = (x : X) × Has xs x × (p x ≡ false)
