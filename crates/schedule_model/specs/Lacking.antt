-- Texts that lack a byte. The readers of the words in a line cite it.
use Rattle.std.specs.Prelude.{◌≢◌, ℕ, List, [], ◌∷◌}

-- the text has no such byte
abbrev pub Lacks : ℕ → List ℕ → Type 0
Lacks byte [] = Unit {0}
Lacks byte (first ∷ rest) = (first ≢ byte) × Lacks byte rest
