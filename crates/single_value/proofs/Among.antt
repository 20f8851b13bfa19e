-- Whether an IRI is one of a list, by the test of IRIs.
use Rattle.std.proofs.Common.{◌≡◌, ℕ, List, [], ◌∷◌, Bool, nat_eq, IsTrue, ◌↔◌, inl, inr}
use Rattle.std.proofs.lemmas.Bool.{or_cases, or_left, or_right, false≢true}
use Rattle.std.specs.Cmp.Lexicographic.{pointwise, bytes_decides}
use Rattle.std.specs.List.{list_any}
use Rattle.tree_clock.specs.Lists.{Has}

has_from_any : (iris : List (List ℕ)) (iri : List ℕ) → IsTrue (list_any (λ other. pointwise nat_eq other iri) iris) ↔ Has iris iri
has_from_any [] iri = (λ h. absurd (false≢true h), λ h. absurd h)
has_from_any (other ∷ iris) iri = (
  λ h. elim (or_cases (pointwise nat_eq other iri) (list_any (λ o. pointwise nat_eq o iri) iris) h) [
    | inl e ↦ inl ((bytes_decides other iri).0 e)
    | inr k ↦ inr ((has_from_any iris iri).0 k)
  ],
  λ h. elim h [
    | inl e ↦ or_left (pointwise nat_eq other iri) (list_any (λ o. pointwise nat_eq o iri) iris) ((bytes_decides other iri).1 e)
    | inr k ↦ or_right (pointwise nat_eq other iri) (list_any (λ o. pointwise nat_eq o iri) iris) ((has_from_any iris iri).1 k)
  ],
)

pub among_tells : (iris : List (List ℕ)) (iri : List ℕ) (r : Bool) → r ≡ list_any (λ other. pointwise nat_eq other iri) iris → IsTrue r ↔ Has iris iri
among_tells iris iri r e = rw e (has_from_any iris iri)
