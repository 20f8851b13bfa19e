-- What a term's text up to its first escape tells of the term. The orders of what has terms name its law.
use Rattle.std.specs.Prelude.{◌≡◌, ℕ, List, [], ◌∷◌, ◌++◌, true, false, refl}
use Rattle.std.proofs.Common.{◌∙◌, sym, subst, ap, inl, inr}
use Rattle.std.proofs.lemmas.Bool.{cases_eq, cases_order, ne_eqb}
use Rattle.std.specs.Cmp.{nat_cmp_is}
use Rattle.std.specs.Cmp.Lexicographic.{slice_cmp}
use Rattle.std.specs.Ordering.{nat_cmp, ordering_then}
use Rattle.std.specs.declared.cmp.Ordering.{Ordering}
use Rattle.std.specs.declared.cmp.Ordering.TheVariants.{Less, Equal, Greater}
use Rattle.text_rules.specs.Escaped.{escaped, escaped_byte}
use Rattle.rdf_terms.specs.declared.terms.Term.{Term}
use Rattle.rdf_terms.specs.declared.terms.Term.TheVariants as terms
use Rattle.rdf_terms.specs.Literal.{Typed, Tagged}
use Rattle.rdf_terms.specs.Order.{term_cmp}
use Rattle.rdf_terms.specs.Spelling.{term_text}
use Rattle.hinted_chunks.specs.TermFronts.{is_put_behind, plain_front, term_front}

-- how a byte of a lexical form is written: alone, or by a second byte behind a backslash
pub data Put : ℕ → Type 0 where
  alone : {x : ℕ} → ¬ (x ≡ 34) → ¬ (x ≡ 92) → is_put_behind x ≡ false → escaped_byte x ≡ x ∷ [] → Put x
  behind : {x : ℕ} (k : ℕ) → is_put_behind x ≡ true → escaped_byte x ≡ 92 ∷ k ∷ [] → Put x

pub put_of : (x : ℕ) → Put x
put_of x = elim (cases_eq x 34) [
  | inl e ↦ subst (λ y. Put y) (sym e) (behind 34 refl refl)
  | inr a ↦ elim (cases_eq x 92) [
    | inl e ↦ subst (λ y. Put y) (sym e) (behind 92 refl refl)
    | inr b ↦ elim (cases_eq x 10) [
      | inl e ↦ subst (λ y. Put y) (sym e) (behind 110 refl refl)
      | inr c ↦ elim (cases_eq x 13) [
        | inl e ↦ subst (λ y. Put y) (sym e) (behind 114 refl refl)
        | inr d ↦ alone a b (rw (ne_eqb x 34 a, ne_eqb x 92 b, ne_eqb x 10 c, ne_eqb x 13 d) refl) (rw (ne_eqb x 34 a, ne_eqb x 92 b, ne_eqb x 10 c, ne_eqb x 13 d) refl)
      ]
    ]
  ]
]

pub front_alone : (x : ℕ) (xs : List ℕ) → is_put_behind x ≡ false → plain_front (x ∷ xs) ≡ x ∷ plain_front xs
front_alone x xs e = rw e refl

pub front_put : (x : ℕ) (xs : List ℕ) → is_put_behind x ≡ true → plain_front (x ∷ xs) ≡ 92 ∷ []
front_put x xs e = rw e refl

-- two numbers that differ decide, whatever is behind them
first_decides : (x y : ℕ) (o p r : Ordering) → ¬ (x ≡ y) → ordering_then (nat_cmp x y) o ≡ r → ordering_then (nat_cmp x y) p ≡ r
first_decides x y o p r n e = elim (cases_order x y) [
  | inl i ↦ absurd (n i)
  | inr (inl l) ↦ let less = nat_cmp_is x y Less l in ap (λ q. ordering_then q p) (sym less) ∙ ap (λ q. ordering_then q o) less ∙ e
  | inr (inr l) ↦ let more = nat_cmp_is x y Greater l in ap (λ q. ordering_then q p) (sym more) ∙ ap (λ q. ordering_then q o) more ∙ e
]

-- lexical forms with their closing quotes compare as their fronts, where these differ
fronts_tell : (a b u v : List ℕ) (r : Ordering) → ¬ (r ≡ Equal) → slice_cmp nat_cmp (plain_front a) (plain_front b) ≡ r → slice_cmp nat_cmp (escaped a ++ 34 ∷ u) (escaped b ++ 34 ∷ v) ≡ r
fronts_tell [] [] u v r n e = absurd (n (sym e))
fronts_tell [] (y ∷ b) u v r n e = by (put_of y)
  where
    by : Put y → slice_cmp nat_cmp (34 ∷ u) (escaped (y ∷ b) ++ 34 ∷ v) ≡ r
    by (alone p q f g) = rw g (first_decides 34 y _ _ r (λ i. p (sym i)) (ap (slice_cmp nat_cmp (34 ∷ [])) (sym (front_alone y b f)) ∙ e))
    by (behind k f g) = rw g (ap (slice_cmp nat_cmp (34 ∷ [])) (sym (front_put y b f)) ∙ e)
fronts_tell (x ∷ a) [] u v r n e = by (put_of x)
  where
    by : Put x → slice_cmp nat_cmp (escaped (x ∷ a) ++ 34 ∷ u) (34 ∷ v) ≡ r
    by (alone p q f g) = rw g (first_decides x 34 _ _ r p (ap (λ l. slice_cmp nat_cmp l (34 ∷ [])) (sym (front_alone x a f)) ∙ e))
    by (behind k f g) = rw g (ap (λ l. slice_cmp nat_cmp l (34 ∷ [])) (sym (front_put x a f)) ∙ e)
fronts_tell (x ∷ a) (y ∷ b) u v r n e = by (fronts_tell a b u v r n) (put_of x) (put_of y)
  where
    by : (slice_cmp nat_cmp (plain_front a) (plain_front b) ≡ r → slice_cmp nat_cmp (escaped a ++ 34 ∷ u) (escaped b ++ 34 ∷ v) ≡ r) → Put x → Put y → slice_cmp nat_cmp (escaped (x ∷ a) ++ 34 ∷ u) (escaped (y ∷ b) ++ 34 ∷ v) ≡ r
    by more (alone p q f g) (alone s t h i) =
        let fronts : ordering_then (nat_cmp x y) (slice_cmp nat_cmp (plain_front a) (plain_front b)) ≡ r =
        ap (λ l. slice_cmp nat_cmp l (y ∷ plain_front b)) (sym (front_alone x a f)) ∙ ap (slice_cmp nat_cmp (plain_front (x ∷ a))) (sym (front_alone y b h)) ∙ e in
        rw (g, i) (elim (cases_eq x y) [
          | inl j ↦
              let same = sym (nat_cmp_is x y Equal j) in
              ap (λ o. ordering_then o (slice_cmp nat_cmp (escaped a ++ 34 ∷ u) (escaped b ++ 34 ∷ v))) same
              ∙ more (ap (λ o. ordering_then o (slice_cmp nat_cmp (plain_front a) (plain_front b))) (sym same) ∙ fronts)
          | inr j ↦ first_decides x y _ _ r j fronts
        ])
    by more (alone p q f g) (behind k h i) =
        rw (g, i) (first_decides x 92 _ _ r q (ap (λ l. slice_cmp nat_cmp l (92 ∷ [])) (sym (front_alone x a f)) ∙ ap (slice_cmp nat_cmp (plain_front (x ∷ a))) (sym (front_put y b h)) ∙ e))
    by more (behind k f g) (alone s t h i) =
        rw (g, i) (first_decides 92 y _ _ r (λ j. t (sym j)) (ap (λ l. slice_cmp nat_cmp l (y ∷ plain_front b)) (sym (front_put x a f)) ∙ ap (slice_cmp nat_cmp (plain_front (x ∷ a))) (sym (front_alone y b h)) ∙ e))
    by more (behind k f g) (behind j h i) =
        absurd (n (sym (ap (λ l. slice_cmp nat_cmp l (92 ∷ [])) (sym (front_put x a f)) ∙ ap (slice_cmp nat_cmp (plain_front (x ∷ a))) (sym (front_put y b h)) ∙ e)))

-- terms compare as their fronts, where these differ
pub terms_tell : (a b : Term) (r : Ordering) → ¬ (r ≡ Equal) → slice_cmp nat_cmp (term_front a) (term_front b) ≡ r → term_cmp a b ≡ r
unfolding term_cmp term_text
terms_tell (terms.Iri i) (terms.Iri j) r n e = e
terms_tell (terms.Iri i) (terms.Literal (Typed b d)) r n e = e
terms_tell (terms.Iri i) (terms.Literal (Tagged b t)) r n e = e
terms_tell (terms.Literal (Typed a c)) (terms.Iri j) r n e = e
terms_tell (terms.Literal (Tagged a s)) (terms.Iri j) r n e = e
terms_tell (terms.Literal (Typed a c)) (terms.Literal (Typed b d)) r n e = fronts_tell a b _ _ r n e
terms_tell (terms.Literal (Typed a c)) (terms.Literal (Tagged b t)) r n e = fronts_tell a b _ _ r n e
terms_tell (terms.Literal (Tagged a s)) (terms.Literal (Typed b d)) r n e = fronts_tell a b _ _ r n e
terms_tell (terms.Literal (Tagged a s)) (terms.Literal (Tagged b t)) r n e = fronts_tell a b _ _ r n e
