-- The test whether a triple is one of some.
use Rattle.std.proofs.Common.{◌≡◌, ◌∙◌, ◌↔◌, ℕ, List, [], ◌∷◌, length, Bool, true, false, nat_eq, Result, refl, sym, ap, inl, inr}
use Rattle.std.specs.Cmp.Lexicographic.{bytes_decides, pointwise}
use Rattle.std.specs.List.Sorted.{IsBinarySearchResult, IsSearchInRange}
use Rattle.std.specs.Result.{is_ok}
use Rattle.std.specs.Ordering.{eq_by_cmp}
use Rattle.std.proofs.lemmas.Map.Views.{tells_apart}
use Rattle.std.proofs.lemmas.Bool.{cases_Bool, true≢false, or_cases, or_left, or_right, false≢true}
use Rattle.rdf_terms.specs.declared.terms.Term.{Term}
use Rattle.rdf_terms.specs.declared.terms.Term.TheVariants as terms
use Rattle.rdf_terms.specs.declared.terms.Triple.{Triple}
use Rattle.rdf_terms.specs.Literal.{LiteralValue}
use Rattle.rdf_terms.specs.Order.{triple_cmp}
use Rattle.rdf_terms.specs.OrderLaws.{term_exact, triple_total, triple_exact}
use Rattle.tree_clock.specs.Lists.{Has, IsAscending}
use Rattle.mld_ops.proofs.AscendingLaws.{sorted_from_ascending}
use Rattle.mld_ops.proofs.Equality.{triple_decides}
use Rattle.jrql_ast.specs.Solutions.{is_same_term}
use Rattle.jrql_ast.proofs.BoundSlots.{same_refl}
use Rattle.reply_rows.proofs.SearchLaws.{sorted_search}
use Rattle.watch_laws.specs.Touched.{is_one_of}

pub one_of : (triples : List Triple) (triple : Triple) → (is_one_of triples triple ≡ true) ↔ Has triples triple
one_of [] triple = (λ h. absurd (false≢true h), λ h. absurd h)
one_of (other ∷ triples) triple = (
  λ h. elim (or_cases (eq_by_cmp triple_cmp other triple) (is_one_of triples triple) h) [
    | inl e ↦ inl ((triple_decides other triple).0 e)
    | inr k ↦ inr ((one_of triples triple).0 k)
  ],
  λ h. elim h [
    | inl e ↦ or_left (eq_by_cmp triple_cmp other triple) (is_one_of triples triple) ((triple_decides other triple).1 e)
    | inr k ↦ or_right (eq_by_cmp triple_cmp other triple) (is_one_of triples triple) ((one_of triples triple).1 k)
  ],
)

-- tests that say the same
pub same_tests : (b c : Bool) → (b ≡ true → c ≡ true) → (c ≡ true → b ≡ true) → b ≡ c
same_tests true true f g = refl
same_tests true false f g = sym (f refl)
same_tests false true f g = g refl
same_tests false false f g = refl

-- a search by halves tells whether a triple is one of a list in order
pub triple_found : (xs : List Triple) (x : Triple) (r : Result ℕ ℕ) (b : Bool) → IsAscending triple_cmp xs → IsSearchInRange r (length xs) → IsBinarySearchResult (λ y. triple_cmp y x) xs r → b ≡ is_ok r
    → b ≡ is_one_of xs x
triple_found xs x r b up l h e =
    let d = sorted_search triple_cmp triple_total triple_exact xs x r b (sorted_from_ascending triple_cmp triple_total xs up) l h e in
    same_tests b (is_one_of xs x) (λ t. (one_of xs x).1 (d.0 t)) (λ t. d.1 ((one_of xs x).0 t))

-- ---- IRIs and literals as terms

abbrev iri_part : Term → List ℕ
iri_part (terms.Iri iri) = iri
iri_part (terms.Literal literal) = []

abbrev is_literal : Term → Bool
is_literal (terms.Iri iri) = false
is_literal (terms.Literal literal) = true

pub iris_alike : (a b : List ℕ) → pointwise nat_eq a b ≡ is_same_term (terms.Iri a) (terms.Iri b)
iris_alike a b = same_tests (pointwise nat_eq a b) (is_same_term (terms.Iri a) (terms.Iri b))
    (λ h. ap (λ c. is_same_term (terms.Iri a) (terms.Iri c)) (sym ((bytes_decides a b).0 h)) ∙ same_refl (terms.Iri a))
    (λ h. (bytes_decides a b).1 (ap iri_part (tells_apart term_exact (terms.Iri a) (terms.Iri b) h)))

pub literal_apart : (literal : LiteralValue) (iri : List ℕ) → is_same_term (terms.Literal literal) (terms.Iri iri) ≡ false
literal_apart literal iri = elim (cases_Bool (is_same_term (terms.Literal literal) (terms.Iri iri))) [
  | inl e ↦ absurd (true≢false (ap is_literal (tells_apart term_exact (terms.Literal literal) (terms.Iri iri) e)))
  | inr e ↦ e
]
