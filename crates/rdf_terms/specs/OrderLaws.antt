-- The orders of terms and triples are total, and what they find equal is the same. These hold for all values.
use Rattle.std.specs.Prelude.{◌≡◌, ℕ, List, [], ◌∷◌, ◌++◌, refl}
use Rattle.std.proofs.Common.{sym, ap, ◌∙◌, inl, inr, arith, get_or}
use Rattle.std.proofs.lemmas.Bool.{cases_Bool}
use Rattle.std.specs.Cmp.{IsTotalOrder}
use Rattle.std.specs.Cmp.Lexicographic.{slice_cmp, nat_list_cmp_total}
use Rattle.std.specs.Ordering.{nat_cmp, ordering_then}
use Rattle.std.specs.declared.cmp.Ordering.{Ordering}
use Rattle.std.specs.declared.cmp.Ordering.TheVariants.{Less, Equal, Greater}
use Rattle.std.proofs.lemmas.Cmp.{on_total, then_total}
use Rattle.std.proofs.lemmas.Map.Lookups.{CmpEqualImpliesEq, exact_bytes, exact_unsigned}
use Rattle.std.proofs.lemmas.List.{same_from_push}
use Rattle.std.proofs.lemmas.Slice.Eq.{bytes_eq-Decides}
use Rattle.rdf_terms.specs.declared.terms.Term.TheVariants as terms
use Rattle.rdf_terms.specs.declared.terms.Triple.{Triple}
use Rattle.rdf_terms.specs.Literal.{LiteralValue, Typed, Tagged, xsd_string, is_same}
use Rattle.text_rules.specs.CompareLaws.{escaped_cmp, same_from_rank}
use Rattle.text_rules.specs.Escaped.{escaped}
use Rattle.rdf_terms.specs.Spelling.{iri_text, datatype_text, literal_text, term_text}
use Rattle.rdf_terms.specs.Order.{literal_cmp, term_cmp, triple_cmp}

-- the order of literals is total
pub literal_total : IsTotalOrder literal_cmp
literal_total = on_total literal_text nat_list_cmp_total

-- the order of terms is total
pub term_total : IsTotalOrder term_cmp
unfolding term_cmp
term_total = on_total term_text nat_list_cmp_total

-- the order of triples is total
pub triple_total : IsTotalOrder triple_cmp
unfolding triple_cmp
triple_total =
    then_total (on_total (λ (t : Triple). iri_text t.s) nat_list_cmp_total)
    (then_total (on_total (λ (t : Triple). iri_text t.p) nat_list_cmp_total) (on_total (λ (t : Triple). t.o) term_total))

-- IRIs that are written alike are one
pub iri_text_injective : (a b : List ℕ) → iri_text a ≡ iri_text b → a ≡ b
iri_text_injective a b e = (same_from_push a b 62 62 (tail_of e)).0
  where
    tail_of : 60 ∷ (a ++ 62 ∷ []) ≡ 60 ∷ (b ++ 62 ∷ []) → a ++ 62 ∷ [] ≡ b ++ 62 ∷ []
    tail_of e = cc

-- what two orders in a row find equal, each finds equal
pub both_equal : (o p : Ordering) → ordering_then o p ≡ Equal → (o ≡ Equal) × (p ≡ Equal)
both_equal Less p h = cc
both_equal Equal p h = (refl, h)
both_equal Greater p h = cc

-- literals that are written alike are one
datatype_text_injective : (d e : List ℕ) → datatype_text d ≡ datatype_text e → d ≡ e
datatype_text_injective d e h =
    elim (cases_Bool (is_same d xsd_string)) [
      | inl a ↦ elim (cases_Bool (is_same e xsd_string)) [
        | inl b ↦ (bytes_eq-Decides d xsd_string).0 a ∙ sym ((bytes_eq-Decides e xsd_string).0 b)
        | inr b ↦ let g = rw (a, b) at h in absurd (none g)
      ]
      | inr a ↦ elim (cases_Bool (is_same e xsd_string)) [
        | inl b ↦ let g = rw (a, b) at h in absurd (none (sym g))
        | inr b ↦ let g = rw (a, b) at h in iri_text_injective d e (tail2 g)
      ]
    ]
  where
    none : {x : ℕ} {xs : List ℕ} → ([] ≡ x ∷ xs) → ⊥
    none g = cc

    tail2 : {xs ys : List ℕ} → (94 ∷ 94 ∷ xs ≡ 94 ∷ 94 ∷ ys) → xs ≡ ys
    tail2 g = cc

no_tag : (d tag : List ℕ) → datatype_text d ≡ 64 ∷ tag → ⊥
no_tag d tag h =
    elim (cases_Bool (is_same d xsd_string)) [
      | inl a ↦ let g = rw a at h in none g
      | inr a ↦ let g = rw a at h in other g
    ]
  where
    none : ([] ≡ 64 ∷ tag) → ⊥
    none g = cc

    other : {xs : List ℕ} → (94 ∷ xs ≡ 64 ∷ tag) → ⊥
    other g = absurd (omega (arith, ap (λ l. get_or l 0 0) g))

-- what compares alike has the same lexical form and the same end
parts : (a b u v : List ℕ) → slice_cmp nat_cmp (34 ∷ (escaped a ++ 34 ∷ u)) (34 ∷ (escaped b ++ 34 ∷ v)) ≡ Equal → (a ≡ b) × (u ≡ v)
parts a b u v h =
    let g = both_equal _ _ (sym (escaped_cmp a b u v) ∙ h) in
    (same_from_rank a b (exact_unsigned _ _ g.0), exact_bytes u v g.1)

-- literals that compare alike are one
pub literal_exact : CmpEqualImpliesEq literal_cmp
literal_exact (Typed a d) (Typed b e) h = let g = parts a b (datatype_text d) (datatype_text e) h in ap (λ z. Typed z d) g.0 ∙ ap (λ z. Typed b z) (datatype_text_injective d e g.1)
literal_exact (Typed a d) (Tagged b e) h = let g = parts a b (datatype_text d) (64 ∷ e) h in absurd (no_tag d e g.1)
literal_exact (Tagged a d) (Typed b e) h = let g = parts a b (64 ∷ d) (datatype_text e) h in absurd (no_tag e d (sym g.1))
literal_exact (Tagged a d) (Tagged b e) h = let g = parts a b (64 ∷ d) (64 ∷ e) h in ap (λ z. Tagged z d) g.0 ∙ ap (λ z. Tagged b z) (tail g.1)
  where
    tail : {xs ys : List ℕ} → (64 ∷ xs ≡ 64 ∷ ys) → xs ≡ ys
    tail g = cc

-- terms that compare alike are one
pub term_exact : CmpEqualImpliesEq term_cmp
unfolding term_cmp term_text
term_exact (terms.Iri a) (terms.Iri b) h = ap (λ z. terms.Iri z) (iri_text_injective a b (exact_bytes (iri_text a) (iri_text b) h))
term_exact (terms.Iri a) (terms.Literal m) h = absurd (apart m h)
  where
    apart : (m : LiteralValue) → slice_cmp nat_cmp (iri_text a) (literal_text m) ≡ Equal → ⊥
    apart (Typed b e) g = cc
    apart (Tagged b e) g = cc
term_exact (terms.Literal l) (terms.Iri b) h = absurd (apart l h)
  where
    apart : (m : LiteralValue) → slice_cmp nat_cmp (literal_text m) (iri_text b) ≡ Equal → ⊥
    apart (Typed a e) g = cc
    apart (Tagged a e) g = cc
term_exact (terms.Literal l) (terms.Literal m) h = ap (λ z. terms.Literal z) (literal_exact l m h)

-- triples that compare alike are one
pub triple_exact : CmpEqualImpliesEq triple_cmp
unfolding triple_cmp
triple_exact a b h =
    let f = both_equal _ _ h in
    let g = both_equal _ _ f.1 in
    let s = iri_text_injective a.s b.s (exact_bytes (iri_text a.s) (iri_text b.s) f.0) in
    let p = iri_text_injective a.p b.p (exact_bytes (iri_text a.p) (iri_text b.p) g.0) in
    let o = term_exact a.o b.o g.1 in
    λ i. record { s = s i; p = p i; o = o i }
