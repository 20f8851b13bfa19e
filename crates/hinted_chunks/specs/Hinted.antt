-- Numbers that stand beside the elements of a list, and tell of their texts.
use Rattle.std.specs.Prelude.{◌≡◌, ℕ, zero, suc, List, [], ◌∷◌, Bool, true, map, take, drop}
use Rattle.tree_clock.specs.Lists.{Has}
use Rattle.hinted_chunks.specs.declared.hints.Hints.{Hints}
use Rattle.hinted_chunks.specs.Leading.{leading}

-- what an element's text has behind the mark: its first bytes, as a number
abbrev pub hint_of : {X : Type 0} → (X → List ℕ) → ℕ → X → ℕ
hint_of key mark x = leading 8 (drop mark (key x))

-- up to the mark the elements have one text
abbrev pub ShareText : {X : Type 0} → (X → List ℕ) → ℕ → List X → Type 0
ShareText {X} key mark elements = (x y : X) → Has elements x → Has elements y → take mark (key x) ≡ take mark (key y)

-- beside each element stands what its text has behind the mark, up to which the elements have one text
pub record AreHinted {X : Type 0} (key : X → List ℕ) (mark : ℕ) (elements : List X) (numbers : List ℕ) : Type 0 where
  pub shared : ShareText key mark elements
  pub each : numbers ≡ map (hint_of key mark) elements

-- the hints are those of the elements
abbrev pub IsHinted : {X : Type 0} → (X → List ℕ) → List X → Hints → Type 0
IsHinted key elements hints = AreHinted key hints.mark elements hints.numbers.items

-- the text of a chunk: that of its first element
abbrev pub top_key : {X : Type 0} → (X → List ℕ) → List X → List ℕ
top_key key [] = []
top_key key (x ∷ xs) = key x

-- whether the first element passes, or there is none
abbrev pub first_passes : {X : Type 0} → (X → Bool) → List X → Bool
first_passes p [] = true
first_passes p (x ∷ xs) = p x

-- that of its first element behind an edit at a place, which brings an element to the front, where that is the place
abbrev pub top_after : {X : Type 0} → (X → List ℕ) → List X → ℕ → X → List ℕ
top_after key chunk zero x = key x
top_after key chunk (suc at) x = top_key key chunk
