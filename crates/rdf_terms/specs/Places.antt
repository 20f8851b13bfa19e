-- Where a text stops being the beginning of a triple's text, the limits on lengths aside.
use Rattle.std.specs.Prelude.{ℕ, List, ◌++◌, ◌<◌, ◌≤◌, length, take}
use Rattle.rdf_terms.specs.declared.terms.Triple.{Triple}
use Rattle.rdf_terms.specs.Grammar.{SpellsTriple}

-- the text goes on to one that spells a triple
abbrev pub BeginsTriple : List ℕ → Type 0
BeginsTriple text = (rest : List ℕ) × (triple : Triple) × SpellsTriple (text ++ rest) triple

-- the text up to here begins a triple, and no more of it does
pub record IsPlace (text : List ℕ) (place : ℕ) : Type 0 where
  pub within : place ≤ length text
  pub begins : BeginsTriple (take place text)
  pub longest : (longer : ℕ) → place < longer → longer ≤ length text → ¬ BeginsTriple (take longer text)
