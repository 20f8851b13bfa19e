-- Where the texts of two rows differ, they decide how the rows compare. The private orders of rows name these laws.
use Rattle.std.specs.Prelude.{◌≡◌, ℕ, ℤ, pos, List, [], ◌∷◌, Option, None, Some, if◌then◌else◌}
use Rattle.std.proofs.Common.{sym}
use Rattle.std.specs.Cmp.Lexicographic.{slice_cmp}
use Rattle.std.specs.Option.{is_some, option_cmp, unwrap_or}
use Rattle.std.specs.Ordering.{int_cmp, nat_cmp, ordering_then}
use Rattle.std.specs.declared.cmp.Ordering.{Ordering}
use Rattle.std.specs.declared.cmp.Ordering.TheVariants.{Less, Equal, Greater}
use Rattle.rdf_terms.specs.declared.terms.Term.{Term}
use Rattle.rdf_terms.specs.declared.terms.Term.TheVariants as terms
use Rattle.rdf_terms.specs.Order.{term_cmp}
use Rattle.rdf_terms.specs.Literal.{lexical_form}
use Rattle.rdf_terms.specs.ReplyOrder.{literal_integer, reply_cmp}
use Rattle.graph_index.specs.hinted_chunks.ClosedTexts.{closed_text}
use Rattle.graph_index.specs.hinted_chunks.FrontLaws.{terms_tell}
use Rattle.graph_index.specs.hinted_chunks.TermFronts.{plain_front, term_front}
use Rattle.jrql_ast.specs.QueryAnswers.{place_cmp, reply_place_cmp}
use Rattle.jrql_rows.specs.RowFronts.{first_place, front_in_place, reply_front}

-- where two texts differ, they tell the order
abbrev Tells : {X : Type 0} → (X → X → Ordering) → (X → List ℕ) → Type 0
Tells {X} order text = (a b : X) (r : Ordering) → ¬ (r ≡ Equal) → slice_cmp nat_cmp (text a) (text b) ≡ r → order a b ≡ r

less_by : (text : List ℕ) (r : Ordering) → ¬ (r ≡ Equal) → slice_cmp nat_cmp [] text ≡ r → Less ≡ r
less_by [] r n e = absurd (n (sym e))
less_by (x ∷ text) r n e = e

more_by : (text : List ℕ) (r : Ordering) → ¬ (r ≡ Equal) → slice_cmp nat_cmp text [] ≡ r → Greater ≡ r
more_by [] r n e = absurd (n (sym e))
more_by (x ∷ text) r n e = e

first_tells : (o p r : Ordering) → ¬ (r ≡ Equal) → o ≡ r → ordering_then o p ≡ r
first_tells Less p r n e = e
first_tells Equal p r n e = absurd (n (sym e))
first_tells Greater p r n e = e

module _ (order : Term → Term → Ordering) (front : Term → List ℕ) (tells : Tells order front) where
  places_tell : Tells (option_cmp order) (front_in_place front)
  places_tell None None r n e = absurd (n (sym e))
  places_tell None (Some b) r n e = less_by (front b) r n e
  places_tell (Some a) None r n e = more_by (front a) r n e
  places_tell (Some a) (Some b) r n e = tells a b r n e

  rows_tell : Tells (slice_cmp (option_cmp order)) (λ row. front_in_place front (first_place row))
  rows_tell [] [] r n e = absurd (n (sym e))
  rows_tell [] (b ∷ others) r n e = less_by (front_in_place front b) r n e
  rows_tell (a ∷ rest) [] r n e = more_by (front_in_place front a) r n e
  rows_tell (a ∷ rest) (b ∷ others) r n e = first_tells (option_cmp order a b) _ r n (places_tell a b r n e)

-- rows in the plain order
pub plain_rows_tell : Tells (slice_cmp place_cmp) (λ row. front_in_place term_front (first_place row))
plain_rows_tell = rows_tell term_cmp term_front terms_tell

-- a literal and another term, by whether literals are integers
both_literals : (o p : Option ℤ) (s t : List ℕ) (cmp r : Ordering) → ¬ (r ≡ Equal) → (slice_cmp nat_cmp s t ≡ r → cmp ≡ r)
    → slice_cmp nat_cmp (if is_some o then 0 ∷ [] else 34 ∷ s) (if is_some p then 0 ∷ [] else 34 ∷ t) ≡ r
    → ordering_then (nat_cmp (if is_some o then 0 else 1) (if is_some p then 0 else 1)) (ordering_then (int_cmp (unwrap_or o (pos 0)) (unwrap_or p (pos 0))) cmp) ≡ r
both_literals None None s t cmp r n tells e = tells e
both_literals None (Some y) s t cmp r n tells e = e
both_literals (Some x) None s t cmp r n tells e = e
both_literals (Some x) (Some y) s t cmp r n tells e = absurd (n (sym e))

literal_behind : (p : Option ℤ) (s t : List ℕ) (cmp r : Ordering) → slice_cmp nat_cmp (60 ∷ s) (if is_some p then 0 ∷ [] else 34 ∷ t) ≡ r
    → ordering_then (nat_cmp 2 (if is_some p then 0 else 1)) (ordering_then (int_cmp (pos 0) (unwrap_or p (pos 0))) cmp) ≡ r
literal_behind None s t cmp r e = e
literal_behind (Some y) s t cmp r e = e

literal_before : (o : Option ℤ) (s t : List ℕ) (cmp r : Ordering) → slice_cmp nat_cmp (if is_some o then 0 ∷ [] else 34 ∷ s) (60 ∷ t) ≡ r
    → ordering_then (nat_cmp (if is_some o then 0 else 1) 2) (ordering_then (int_cmp (unwrap_or o (pos 0)) (pos 0)) cmp) ≡ r
literal_before None s t cmp r e = e
literal_before (Some x) s t cmp r e = e

replies_tell : Tells reply_cmp reply_front
unfolding reply_cmp
replies_tell (terms.Iri i) (terms.Iri j) r n e = terms_tell (terms.Iri i) (terms.Iri j) r n e
replies_tell (terms.Iri i) (terms.Literal m) r n e = literal_behind (literal_integer m) (closed_text i) (plain_front (lexical_form m)) (term_cmp (terms.Iri i) (terms.Literal m)) r e
replies_tell (terms.Literal l) (terms.Iri j) r n e = literal_before (literal_integer l) (plain_front (lexical_form l)) (closed_text j) (term_cmp (terms.Literal l) (terms.Iri j)) r e
replies_tell (terms.Literal l) (terms.Literal m) r n e =
    both_literals (literal_integer l) (literal_integer m) (plain_front (lexical_form l)) (plain_front (lexical_form m)) (term_cmp (terms.Literal l) (terms.Literal m)) r n
    (λ h. terms_tell (terms.Literal l) (terms.Literal m) r n h) e

-- rows in the order of replies
pub reply_rows_tell : Tells (slice_cmp reply_place_cmp) (λ row. front_in_place reply_front (first_place row))
reply_rows_tell = rows_tell reply_cmp reply_front replies_tell
