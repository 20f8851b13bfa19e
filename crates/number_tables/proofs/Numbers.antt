-- The number of a value that stands at a place.
use Rattle.std.proofs.Common.{◌≡◌, ◌∙◌, ℕ, List, true, nat_eq, Some, refl, sym, ap}
use Rattle.std.specs.List.{IsDistinct, slice_get}
use Rattle.std.specs.Bool.{Decides}
use Rattle.std.specs.Cmp.Lexicographic.{pointwise, bytes_decides}
use Rattle.std.specs.Ordering.{eq_by_cmp, is_eq}
use Rattle.std.specs.declared.cmp.Ordering.{Ordering}
use Rattle.std.specs.declared.cmp.Ordering.TheVariants.{Less, Equal, Greater}
use Rattle.std.proofs.lemmas.Bool.{false≢true}
use Rattle.std.proofs.lemmas.Cmp.{tied_itself}
use Rattle.rdf_terms.specs.declared.terms.Term.{Term}
use Rattle.rdf_terms.specs.Order.{term_cmp}
use Rattle.rdf_terms.specs.OrderLaws.{term_total, term_exact}
use Rattle.number_tables.specs.TableNumbers.{number_of_term, number_of_path}
use Rattle.number_tables.proofs.Places.{at_place}

pub told_equal : (o : Ordering) → is_eq o ≡ true → o ≡ Equal
told_equal Less h = absurd (false≢true h)
told_equal Equal h = refl
told_equal Greater h = absurd (false≢true h)

-- the test of terms decides whether they are one
pub term_decides : (a b : Term) → Decides (eq_by_cmp term_cmp a b) (a ≡ b)
term_decides a b = (
  λ h. term_exact a b (told_equal (term_cmp a b) h),
  λ e. ap (λ w. is_eq (term_cmp a w)) (sym e) ∙ ap is_eq (tied_itself term_total a),
)

-- a value that is found at a place has that number
pub placed_term : (terms : List Term) (number : ℕ) (own term : Term) → IsDistinct (eq_by_cmp term_cmp) terms → slice_get terms number ≡ Some own → eq_by_cmp term_cmp term own ≡ true
    → number_of_term terms term ≡ Some number
placed_term terms number own term apart h e = at_place (eq_by_cmp term_cmp) term_decides terms number own term apart h e

pub placed_path : (paths : List (List ℕ)) (number : ℕ) (own path : List ℕ) → IsDistinct (pointwise nat_eq) paths → slice_get paths number ≡ Some own → pointwise nat_eq path own ≡ true
    → number_of_path paths path ≡ Some number
placed_path paths number own path apart h e = at_place (pointwise nat_eq) bytes_decides paths number own path apart h e
