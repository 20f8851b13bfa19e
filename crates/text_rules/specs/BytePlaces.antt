-- Which bytes stand at which places of a text.
use Rattle.std.specs.Prelude.{◌≡◌, ◌≢◌, ℕ, ◌+◌, ◌<◌, ◌≤◌, List, ◌∷◌, ◌⊎◌, length, drop}

-- a byte stands at a place of a text
pub record HasByte (text : List ℕ) (place byte : ℕ) : Type 0 where
  pub within : place < length text
  pub here : drop place text ≡ byte ∷ drop (place + 1) text

-- no such byte stands at a place
abbrev pub LacksByte : List ℕ → ℕ → ℕ → Type 0
LacksByte text place mark = (length text ≤ place) ⊎ ((byte : ℕ) × HasByte text place byte × (byte ≢ mark))
