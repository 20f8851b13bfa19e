-- A text stops being the beginning of a triple's text at one place.
use Rattle.std.proofs.Common.{◌≡◌, ℕ, List, inl, inr}
use Rattle.std.proofs.lemmas.Bool.{cases_order}
use Rattle.rdf_terms.specs.Places.{IsPlace}

pub one_place_only : (text : List ℕ) (m n : ℕ) → IsPlace text m → IsPlace text n → m ≡ n
one_place_only text m n a b = elim (cases_order m n) [
  | inr (inl less) ↦ absurd (a.longest n less b.within b.begins)
  | inl same ↦ same
  | inr (inr more) ↦ absurd (b.longest m more a.within a.begins)
]
