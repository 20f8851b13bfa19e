-- How the texts of the terms that have numbers compare.
use Rattle.std.proofs.Common.{◌≡◌, ◌∙◌, ℕ, ◌<◌, List, [], length, get_or, true, false, None, Some, refl, sym, ap, inl, inr}
use Rattle.std.proofs.Math.Dec.{ltb}
use Rattle.std.proofs.lemmas.Bool.{cases_lt, false≢true, le-ltb, lt-ltb}
use Rattle.std.proofs.lemmas.Option.{slice_get_past, slice_get-get_or}
use Rattle.std.specs.Cmp.Lexicographic.{slice_cmp}
use Rattle.std.specs.List.{slice_get}
use Rattle.std.specs.Ordering.{nat_cmp}
use Rattle.std.specs.declared.cmp.Ordering.{Ordering}
use Rattle.std.specs.declared.cmp.Ordering.TheVariants.{Less, Equal, Greater}
use Rattle.rdf_terms.specs.declared.terms.Term.{Term}
use Rattle.rdf_terms.specs.declared.terms.Term.TheVariants as terms
use Rattle.rdf_terms.specs.Literal.{LiteralValue, Typed, Tagged}
use Rattle.rdf_terms.specs.Order.{term_cmp}
use Rattle.rdf_terms.specs.Spelling.{term_text}
use Rattle.number_tables.specs.HashedTerms.{hashed_term_text, term_text_at}

-- no term has an empty text
pub below_term : (term : Term) → Less ≡ slice_cmp nat_cmp [] (term_text term)
unfolding term_text
below_term (terms.Iri iri) = refl
below_term (terms.Literal (Typed lexical datatype)) = refl
below_term (terms.Literal (Tagged lexical tag)) = refl

above_none : (term : Term) → Greater ≡ slice_cmp nat_cmp (term_text term) []
unfolding term_text
above_none (terms.Iri iri) = refl
above_none (terms.Literal (Typed lexical datatype)) = refl
above_none (terms.Literal (Tagged lexical tag)) = refl

none_is_less : (list : List Term) (number : ℕ) (term : Term) → slice_get list number ≡ None → Less ≡ slice_cmp nat_cmp (term_text_at list number) (term_text term)
none_is_less list number term e = below_term term ∙ ap (λ o. slice_cmp nat_cmp (hashed_term_text o) (term_text term)) (sym e)

-- a place behind the end has no term
past_end : (list : List Term) (number : ℕ) → false ≡ ltb number (length list) → slice_get list number ≡ None
past_end list number h = elim (cases_lt number (length list)) [
  | inl l ↦ absurd (false≢true (h ∙ lt-ltb number (length list) l))
  | inr g ↦ slice_get_past list number g
]

pub past_is_less : (list : List Term) (number : ℕ) (term : Term) → false ≡ ltb number (length list) → Less ≡ slice_cmp nat_cmp (term_text_at list number) (term_text term)
past_is_less list number term h = none_is_less list number term (past_end list number h)

pub past_is_none : (list : List Term) (number : ℕ) → false ≡ ltb number (length list) → [] ≡ term_text_at list number
past_is_none list number h = sym (ap hashed_term_text (past_end list number h))

-- a place in the list has the term there
pub within : (list : List Term) (number : ℕ) (term : Term) → true ≡ ltb number (length list) → term ≡ get_or list number term → slice_get list number ≡ Some term
within list number term t e = slice_get-get_or list number term (inside t) ∙ ap (λ t. Some t) (sym e)
  where
    inside : true ≡ ltb number (length list) → number < length list
    inside t = elim (cases_lt number (length list)) [
      | inl l ↦ l
      | inr g ↦ absurd (false≢true (sym (t ∙ le-ltb number (length list) g)))
    ]

pub same_as_none : (list : List Term) (number : ℕ) → false ≡ ltb number (length list) → Equal ≡ slice_cmp nat_cmp (term_text_at list number) []
same_as_none list number h = ap (λ t. slice_cmp nat_cmp t []) (past_is_none list number h)

pub more_than_none : (list : List Term) (number : ℕ) (term : Term) → true ≡ ltb number (length list) → term ≡ get_or list number term → Greater ≡ slice_cmp nat_cmp (term_text_at list number) []
more_than_none list number term l e = above_none term ∙ ap (λ o. slice_cmp nat_cmp (hashed_term_text o) []) (sym (within list number term l e))

-- how a term compares with the one at a place
pub compared_within : (list : List Term) (result : Ordering) (text : List ℕ) (number : ℕ) (term : Term) → true ≡ ltb number (length list) → term ≡ get_or list number term
    → result ≡ slice_cmp nat_cmp text (term_text term) → result ≡ slice_cmp nat_cmp text (term_text_at list number)
compared_within list result text number term l e r = r ∙ ap (λ o. slice_cmp nat_cmp text (hashed_term_text o)) (sym (within list number term l e))

pub compared_past : (list : List Term) (result : Ordering) (text : List ℕ) (number : ℕ) → false ≡ ltb number (length list)
    → result ≡ slice_cmp nat_cmp text [] → result ≡ slice_cmp nat_cmp text (term_text_at list number)
compared_past list result text number h r = r ∙ ap (λ t. slice_cmp nat_cmp text t) (past_is_none list number h)

-- terms are compared by their texts
pub terms_by_text : (a b : Term) → term_cmp a b ≡ slice_cmp nat_cmp (term_text a) (term_text b)
unfolding term_cmp
terms_by_text a b = refl

-- a literal is less than an IRI
pub literal_is_less : (l : LiteralValue) (iri : List ℕ) → Less ≡ slice_cmp nat_cmp (term_text (terms.Literal l)) (term_text (terms.Iri iri))
unfolding term_text
literal_is_less (Typed lexical datatype) iri = refl
literal_is_less (Tagged lexical tag) iri = refl
